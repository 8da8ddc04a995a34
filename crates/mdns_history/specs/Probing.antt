-- When a probe is due. (RFC 6762 8.1, 8.2 and 9)
use Rattle.std.specs.Prelude.{ℕ, ◌+◌, ◌%◌, ◌==◌, nat_lt, nat_le, Bool, true, false, not, ◌&&◌, List, [], ◌∷◌, length, filter, replicate, Option, Some, None, if◌then◌else◌}
use Rattle.std.specs.List.{flat_map}
use Rattle.std.specs.Option.{unwrap_or}
use Rattle.lists.specs.Lists.{count_where}
use Rattle.dns_record.specs.Conflicts.{is_stormy}
use Rattle.mdns_history.specs.declared.mark.Mark.{Mark}
use Rattle.mdns_history.specs.declared.mark.Mark.TheVariants as mark
use Rattle.mdns_history.specs.declared.entry.Entry.{Entry}
use Rattle.mdns_history.specs.History.{last_at, has_mark}
use Rattle.mdns_history.specs.Groups.{Group, groups}
use Rattle.mdns_history.specs.Sureness.{sets_back, probe_moments, probe_gap, is_sure}

-- the marks of conflicts, of any group
abbrev pub is_conflict : Mark → Bool
is_conflict (mark.Renamed group number) = true
is_conflict (mark.Contested group) = true
is_conflict (mark.Failed group) = true
is_conflict _ = false

-- the moments of all conflicts, the last first, one for each mark
unfoldable pub conflict_moments : List Entry → List ℕ
conflict_moments history = flat_map (λ entry. replicate (count_where is_conflict entry.marks) entry.moment) history

-- the mark that a group lost a tie
abbrev pub is_lost_tie_of : ℕ → Mark → Bool
is_lost_tie_of id (mark.TieLost group) = group == id
is_lost_tie_of id _ = false

-- how long the first probe waits behind a setback: five seconds in a storm, one after a lost tie, else up to a quarter
abbrev pub first_wait : ℕ → Entry → List Entry → ℕ
first_wait id entry past =
    if is_stormy (conflict_moments (entry ∷ past)) then 5000 else if has_mark (is_lost_tie_of id) entry then 1000 else entry.word % 251

-- when a group that was set back in an entry is first probed
abbrev pub first_probe : ℕ → Entry → List Entry → Option ℕ
first_probe id entry past = if sets_back id entry past then Some (entry.moment + first_wait id entry past) else None

-- the moment of the first probe since a group was registered or set back
abbrev pub first_due : Group → List Entry → ℕ
first_due group history = unwrap_or (last_at (first_probe group.id) history) 0

-- the moment of the next probe, behind those at these moments
abbrev pub next_probe : ℕ → List ℕ → ℕ
next_probe first [] = first
next_probe first (last ∷ earlier) = last + probe_gap

-- the moment at which a group's next probe is due
unfoldable pub probe_due : Group → List Entry → ℕ
probe_due group history = next_probe (first_due group history) (probe_moments group history)

-- whether a tick at a moment probes a group
abbrev pub is_probed_at : List Entry → ℕ → Group → Bool
is_probed_at history moment group =
    not (is_sure group history) && nat_lt (length (probe_moments group history)) 3 && nat_le (probe_due group history) moment

-- the groups that a tick probes, by number
unfoldable pub probed_groups : List Entry → ℕ → List Group
probed_groups history moment = filter (is_probed_at history moment) (groups history)
