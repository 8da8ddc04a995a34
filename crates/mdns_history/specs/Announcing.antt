-- When a sure group announces its records: at once and a second later, since it became sure or its records changed. (RFC 6762 8.3 and 8.4)
use Rattle.std.specs.Prelude.{ℕ, ◌+◌, ◌==◌, nat_lt, nat_le, Bool, false, not, ◌&&◌, ◌||◌, List, [], ◌∷◌, length, filter}
use Rattle.std.specs.List.{list_any, list_all}
use Rattle.std.specs.Option.{unwrap_or}
use Rattle.dns_record.specs.declared.record.Rr.{Rr}
use Rattle.dns_record.specs.Records.{same}
use Rattle.mdns_history.specs.declared.mark.Mark.{Mark}
use Rattle.mdns_history.specs.declared.mark.Mark.TheVariants as mark
use Rattle.mdns_history.specs.declared.entry.Entry.{Entry}
use Rattle.mdns_history.specs.History.{last_at, from_place, moment_if, has_mark}
use Rattle.mdns_history.specs.Groups.{Group, group_records}
use Rattle.mdns_history.specs.Sureness.{is_sure, sure_groups}

-- whether two lists have the same records
abbrev pub same_records : List Rr → List Rr → Bool
same_records left right = list_all (λ rr. list_any (same rr) right) left && list_all (λ rr. list_any (same rr) left) right

-- whether a group became sure with an entry, or its records changed while it was sure
abbrev pub renews_claim : Group → Entry → List Entry → Bool
renews_claim group entry past =
    is_sure group (entry ∷ past) && (not (is_sure group past) || not (same_records (group_records group (entry ∷ past)) (group_records group past)))

-- the moment of the last such entry
unfoldable pub claim_moment : Group → List Entry → ℕ
claim_moment group history = unwrap_or (last_at (λ entry past. moment_if (renews_claim group entry past) entry.moment) history) 0

-- the mark that a group was announced
abbrev pub is_announcement_of : ℕ → Mark → Bool
is_announcement_of id (mark.Announced group) = group == id
is_announcement_of id _ = false

-- the moments of a group's announcements from that entry on, the last first
unfoldable pub announcement_moments : Group → List Entry → List ℕ
announcement_moments group history = from_place (renews_claim group) (λ entry. moment_if (has_mark (is_announcement_of group.id) entry) entry.moment) history

-- the moment from which on a group is announced, where it claims since a moment and was announced at these moments
abbrev pub next_announcement : ℕ → List ℕ → ℕ
next_announcement claimed [] = claimed
next_announcement claimed (last ∷ earlier) = last + 1000

-- whether a tick at a moment announces a sure group
abbrev pub is_announced_at : List Entry → ℕ → Group → Bool
is_announced_at history moment group = let moments = announcement_moments group history in
    nat_lt (length moments) 2 && nat_le (next_announcement (claim_moment group history) moments) moment

-- the groups that a tick announces; the history has the tick itself as its last entry
unfoldable pub announced_groups : List Entry → ℕ → List Group
announced_groups history moment = filter (is_announced_at history moment) (sure_groups history)
