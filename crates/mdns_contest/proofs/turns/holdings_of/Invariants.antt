use Rattle.std.proofs.Common.{◌≡◌, map, take}
use Rattle.mdns_probe.specs.Kept.{holding_for}
use Rattle.mdns_contest.proofs.turns.holdings_of.Given as goal

abbrev pub invariant-loop-one : goal.invariant-loop-one
invariant-loop-one l = l.holdings.items ≡ map holding_for (take l.one-index l.groups)
