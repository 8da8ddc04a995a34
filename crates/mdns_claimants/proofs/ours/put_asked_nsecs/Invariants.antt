use Rattle.std.proofs.Common.{take}
use Rattle.mdns_asked.specs.Asked.{IsPut}
use Rattle.mdns_claimants.specs.Owned.{nsecs_in}
use Rattle.mdns_claimants.proofs.ours.put_asked_nsecs.Given as goal

abbrev pub invariant-loop-one : goal.invariant-loop-one
invariant-loop-one l = IsPut (nsecs_in (take l.one-index l.groups)) l.initial.asked l.asked
