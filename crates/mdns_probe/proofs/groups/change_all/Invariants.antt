use Rattle.std.proofs.Common.{◌≡◌, ◌++◌, map, take, drop}
use Rattle.mdns_probe.specs.Claiming.{changed_of, change_of}
use Rattle.mdns_probe.proofs.groups.change_all.Given as goal

abbrev pub invariant-loop-claim : goal.invariant-loop-claim
invariant-loop-claim l = l.claims ≡ map (changed_of l.group (change_of l.now l.change)) (take l.claim-index l.initial.claims) ++ drop l.claim-index l.initial.claims
