-- The responses that an event sends and the groups that it marks as announced, told of the groups, of the last multicasts and of the queries that are owed
-- something, as they are kept. (RFC 6762 5.4, 6, 6.7, 8.3, 8.4 and 10.1, RFC 6763 12)
use Rattle.std.specs.Prelude.{ℕ, Bool, List, [], ◌++◌, map, filter, if◌then◌else◌}
use Rattle.std.specs.List.{flat_map}
use Rattle.lists.specs.Lists.{ordered}
use Rattle.dns_record.specs.declared.record.Rr.{Rr}
use Rattle.dns_record.specs.Records.{record_cmp}
use Rattle.dns_message.specs.Packing.{pack_reply}
use Rattle.mdns_history.specs.declared.mark.Mark.{Mark}
use Rattle.mdns_history.specs.declared.entry.Sent.{Sent}
use Rattle.mdns_history.specs.Debts.{is_long_ago}
use Rattle.mdns_history.specs.Multicasts.{multicast_gap}
use Rattle.mdns_history.specs.Sending.{to_all, wanted_by}
use Rattle.mdns_happened.specs.Told.{Told}
use Rattle.mdns_probe.specs.Kept.{Kept, announced_for}
use Rattle.mdns_claims.specs.Owned.{own_in}
use Rattle.mdns_reply.specs.Lasts.{Last, last_of}
use Rattle.mdns_debts.specs.Queries.{Query, replies_at}
use Rattle.mdns_debts.specs.Releasing.{released_by}
use Rattle.mdns_owing.specs.Owing.{last_in}
use Rattle.mdns_responding.specs.Announced.{announced_in, records_in, goodbyes_told}

-- whether a record's last multicast is a second ago, by those that are kept
abbrev pub is_free_by : List Last → ℕ → Rr → Bool
is_free_by lasts moment rr = is_long_ago multicast_gap moment (last_of rr lasts)

-- the records that a tick multicasts, in record order: those that it announces, and those that it releases of what queries are owed
abbrev pub answers_told : List Last → List Query → ℕ → List Kept → List Rr
answers_told lasts queries moment kept =
    ordered record_cmp (filter (is_free_by lasts moment) (records_in (announced_in moment kept)) ++ released_by (last_in lasts) moment queries)

-- what an answer wants beside it of these own records
abbrev pub wanted_told : List Last → ℕ → List Rr → Rr → List Rr
wanted_told lasts moment own rr = filter (is_free_by lasts moment) (wanted_by own rr.rdata)

-- the responses of a tick to all, behind which these groups are kept
abbrev pub multicasts_told : List Last → List Query → ℕ → List Kept → List Kept → List Sent
multicasts_told lasts queries moment kept later =
    let answers = answers_told lasts queries moment kept in
    map to_all (pack_reply answers (map (wanted_told lasts moment (own_in later)) answers))

-- the responses of an event: a tick's to all and then those to askers, and else the goodbyes of the groups that end
abbrev pub responses_told : Told → ℕ → List Last → List Query → List Kept → List Kept → List Sent
responses_told told moment lasts queries kept later =
    if told.ticks then multicasts_told lasts queries moment kept later ++ flat_map (replies_at moment) queries else goodbyes_told told kept

-- the marks of the groups that an event announces
abbrev pub announced_told : Told → ℕ → List Kept → List Mark
announced_told told moment kept = if told.ticks then announced_for (map (λ one. one.claim) kept) moment else []
