-- When a group is sure of its name: three spaced probes since its last conflict, and no answer in time. (RFC 6762 8.1)
use Rattle.std.specs.Prelude.{ℕ, ◌+◌, ◌==◌, nat_le, Bool, false, not, ◌&&◌, ◌||◌, List, ◌∷◌, filter}
use Rattle.std.specs.List.{list_any, flat_map}
use Rattle.std.specs.Option.{is_some}
use Rattle.dns_name.specs.Names.{folded_eq}
use Rattle.dns_record.specs.declared.record.Rr.{Rr}
use Rattle.dns_record.specs.declared.record.Question.{Question}
use Rattle.dns_record.specs.Records.{any_kind, same}
use Rattle.dns_message.specs.declared.message.Message.{Message}
use Rattle.mdns_history.specs.declared.mark.Mark.{Mark}
use Rattle.mdns_history.specs.declared.mark.Mark.TheVariants as mark
use Rattle.mdns_history.specs.declared.entry.Entry.{Entry}
use Rattle.mdns_history.specs.History.{since, moment_if, has_mark, is_tick, booted}
use Rattle.mdns_history.specs.Groups.{Group, groups, is_group, group_name, group_records, registration_in, registered_count}

-- whether a group was registered in an entry
abbrev pub registers : ℕ → Entry → List Entry → Bool
registers id entry past = (is_some (booted entry.event) && (id == 0)) || (is_some (registration_in entry) && (registered_count past + 1 == id))

-- the marks after which a group probes anew
abbrev pub is_setback_of : ℕ → Mark → Bool
is_setback_of id (mark.Renamed group number) = group == id
is_setback_of id (mark.Contested group) = group == id
is_setback_of id (mark.TieLost group) = group == id
is_setback_of id _ = false

-- whether a group is registered in an entry, or has to probe anew after it
abbrev pub sets_back : ℕ → Entry → List Entry → Bool
sets_back id entry past = registers id entry past || has_mark (is_setback_of id) entry

-- the question for any record of a name, by a unicast reply
abbrev pub is_any_question : List (List ℕ) → Question → Bool
is_any_question name question = folded_eq question.name name && (question.kind == any_kind) && question.unicast

-- A probe of a name asks for any of its records by a unicast reply, as no other query does.
abbrev pub is_probe : List (List ℕ) → Message → Bool
is_probe name message = not message.response && list_any (is_any_question name) message.questions

-- whether an entry probes a name
abbrev pub probes : List (List ℕ) → Entry → Bool
probes name entry = list_any (λ sent. is_probe name sent.message) entry.sent

-- the moments of a group's probes since it was set back, the last first
unfoldable pub probe_moments : Group → List Entry → List ℕ
probe_moments group history = let name = group_name group history in since (sets_back group.id) (λ entry. moment_if (probes name entry) entry.moment) history

-- the moments of the ticks since then, the last first
unfoldable pub tick_moments : Group → List Entry → List ℕ
tick_moments group history = since (sets_back group.id) (λ entry. moment_if (is_tick entry.event) entry.moment) history

-- the least time between probes, and behind the last
abbrev pub probe_gap : ℕ
probe_gap = 250

-- three spaced probes, and a tick that comes that long behind the third
abbrev pub are_settled : List ℕ → List ℕ → Bool
are_settled (third ∷ second ∷ first ∷ more) ticks =
    nat_le (first + probe_gap) second && nat_le (second + probe_gap) third && list_any (nat_le (third + probe_gap)) ticks
are_settled _ ticks = false

-- A live group is sure where three spaced probes since it was set back were settled by a tick.
unfoldable pub is_sure : Group → List Entry → Bool
is_sure group history = is_group group.id history && are_settled (probe_moments group history) (tick_moments group history)

-- the live groups that are sure, by number
unfoldable pub sure_groups : List Entry → List Group
sure_groups history = filter (λ group. is_sure group history) (groups history)

-- the records of all sure groups
unfoldable pub own_records : List Entry → List Rr
own_records history = flat_map (λ group. group_records group history) (sure_groups history)

-- whether a record is own
unfoldable pub is_own : Rr → List Entry → Bool
is_own rr history = list_any (same rr) (own_records history)
