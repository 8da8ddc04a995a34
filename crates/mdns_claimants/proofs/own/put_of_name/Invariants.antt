use Rattle.std.proofs.Common.{◌≡◌, ◌++◌, drop}
use Rattle.mdns_claimants.specs.Owned.{of_name}
use Rattle.mdns_claimants.proofs.own.put_of_name.Given as goal

abbrev pub invariant-loop-rr : goal.invariant-loop-rr
invariant-loop-rr l = l.rrs ++ of_name l.name (drop l.rr-index l.some) ≡ l.initial.rrs ++ of_name l.name l.some
