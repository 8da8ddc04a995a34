use Rattle.std.proofs.Common.{◌≡◌, ◌++◌, drop}
use Rattle.mdns_claimants.specs.Owned.{of_name, own_in}
use Rattle.mdns_claimants.proofs.own.put_own.Given as goal

abbrev pub invariant-loop-one : goal.invariant-loop-one
invariant-loop-one l = l.rrs ++ of_name l.name (own_in (drop l.one-index l.groups)) ≡ l.initial.rrs ++ of_name l.name (own_in l.groups)
