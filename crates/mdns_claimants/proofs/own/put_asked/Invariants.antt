use Rattle.std.proofs.Common.{take}
use Rattle.mdns_asked.specs.Asked.{IsPut}
use Rattle.mdns_claimants.specs.Owned.{own_in}
use Rattle.mdns_claimants.proofs.own.put_asked.Given as goal

abbrev pub invariant-loop-one : goal.invariant-loop-one
invariant-loop-one l = IsPut (own_in (take l.one-index l.groups)) l.initial.asked l.asked
