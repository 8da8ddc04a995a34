-- What the last entry of a history sends, told by the history with the entry and the one before it.
use Rattle.std.specs.Prelude.{ℕ, Bool, true, not, List, [], ◌∷◌, ◌++◌, map, filter}
use Rattle.std.specs.List.{flat_map}
use Rattle.lists.specs.Lists.{ordered, without}
use Rattle.dns_record.specs.declared.record.Rr.{Rr}
use Rattle.dns_record.specs.Records.{record_cmp, same}
use Rattle.dns_message.specs.Packing.{pack_plain, pack_reply}
use Rattle.mdns_history.specs.declared.entry.Sent.{Sent}
use Rattle.mdns_history.specs.declared.entry.Entry.{Entry}
use Rattle.mdns_history.specs.InForce.{Duties, only_if}
use Rattle.mdns_history.specs.Groups.{Group, group_records, is_group}
use Rattle.mdns_history.specs.Sureness.{own_records, sure_groups}
use Rattle.mdns_history.specs.Announcing.{announced_groups}
use Rattle.mdns_history.specs.Multicasts.{released_records}
use Rattle.mdns_history.specs.Asking.{tick_askings}
use Rattle.mdns_history.specs.Sending.{is_free, sent_probes, sent_queries, sent_unicasts, taken_back, to_all, wanted_by}
use Rattle.plain_history.specs.Last.{are_by}

-- what f says of the last entry and the history before it, and nothing where there is no entry
abbrev pub of_last : {X : Type 0} → (Entry → List Entry → List X) → List Entry → List X
of_last f [] = []
of_last f (entry ∷ past) = f entry past

-- no entry before the last one is later than it
abbrev pub past_is_by : List Entry → Bool
past_is_by [] = true
past_is_by (entry ∷ past) = are_by entry.moment past

-- the records of announcements of a moment
abbrev pub announced_in : List Entry → List Entry → ℕ → List Rr
announced_in history past moment = filter (is_free past moment) (flat_map (λ group. group_records group history) (announced_groups history moment))

-- the records that are multicast at a moment
abbrev pub answers_in : Duties → List Entry → List Entry → ℕ → List Rr
answers_in duties history past moment =
    ordered record_cmp (only_if duties.announcing (announced_in history past moment) ++ only_if duties.replying (released_records past moment))

-- the responses to all of a moment
abbrev pub multicasts_in : Duties → List Entry → List Entry → ℕ → List Sent
multicasts_in duties history past moment = let answers = answers_in duties history past moment in let own = own_records history in
    map to_all (pack_reply answers (map (λ rr. filter (is_free past moment) (wanted_by own rr.rdata)) answers))

-- the groups that were sure and have ended
abbrev pub ended_in : List Entry → List Entry → List Group
ended_in history past = filter (λ group. not (is_group group.id history)) (sure_groups past)

-- the goodbyes of groups that have ended
abbrev pub goodbyes_in : List Entry → List Entry → List Sent
goodbyes_in history past =
    map to_all (pack_plain (map taken_back (without same (ordered record_cmp (flat_map (λ group. group_records group past) (ended_in history past))) (own_records history))))

-- all that is sent at a moment
abbrev pub sends_in : Duties → List Entry → List Entry → ℕ → List Sent
sends_in duties history past moment =
    only_if duties.claiming (sent_probes past moment)
    ++ (only_if duties.asking (sent_queries (tick_askings past moment) past moment)
    ++ (multicasts_in duties history past moment ++ only_if duties.replying (sent_unicasts past moment)))
