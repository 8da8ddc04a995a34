-- What a daemon announces and takes back, told of the groups that it keeps. (RFC 6762 8.3, 8.4 and 10.1)
use Rattle.std.specs.Prelude.{ℕ, ◌&&◌, List, [], ◌++◌, map, filter}
use Rattle.std.specs.List.{flat_map}
use Rattle.lists.specs.Lists.{ordered, without}
use Rattle.dns_record.specs.declared.record.Rr.{Rr}
use Rattle.dns_record.specs.Records.{same, record_cmp}
use Rattle.dns_message.specs.Packing.{pack_plain}
use Rattle.mdns_history.specs.declared.entry.Sent.{Sent}
use Rattle.mdns_history.specs.Sending.{to_all, taken_back}
use Rattle.mdns_happened.specs.Told.{Told}
use Rattle.mdns_probe.specs.Claiming.{is_announce_due, ticked}
use Rattle.mdns_probe.specs.Kept.{Kept}
use Rattle.mdns_claims.specs.Behind.{ends_by}
use Rattle.mdns_claims.specs.Owned.{own_in}
use Rattle.mdns_claims.specs.Planned.{going_on}

-- the groups that a tick announces
abbrev pub announced_in : ℕ → List Kept → List Kept
announced_in moment kept = filter (λ one. is_announce_due moment (ticked moment one.claim)) kept

-- the records of groups, group by group
abbrev pub records_in : List Kept → List Rr
records_in kept = flat_map (λ one. one.claim.unique ++ one.claim.shared) kept

-- the sure groups that end with their operations
abbrev pub ended_in : Told → List Kept → List Kept
ended_in told kept = filter (λ one. one.claim.sure && ends_by told [] one.group) kept

-- the records that are taken back with these groups: those that no other sure group has
abbrev pub gone_in : Told → List Kept → List Rr
gone_in told kept = without same (ordered record_cmp (records_in (ended_in told kept))) (own_in (going_on told [] kept))

-- the goodbyes of an event that is no tick
abbrev pub goodbyes_told : Told → List Kept → List Sent
goodbyes_told told kept = map to_all (pack_plain (map taken_back (gone_in told kept)))
