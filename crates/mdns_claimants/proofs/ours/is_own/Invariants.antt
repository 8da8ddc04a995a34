use Rattle.std.proofs.Common.{◌≡◌, drop}
use Rattle.std.specs.List.{list_any}
use Rattle.dns_record.specs.Records.{same}
use Rattle.mdns_claimants.specs.Owned.{own_in}
use Rattle.mdns_claimants.proofs.ours.is_own.Given as goal

abbrev pub invariant-loop-one : goal.invariant-loop-one
invariant-loop-one l = list_any (same l.rr) (own_in (drop l.one-index l.groups)) ≡ list_any (same l.rr) (own_in l.groups)
