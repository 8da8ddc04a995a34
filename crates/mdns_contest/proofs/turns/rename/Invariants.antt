use Rattle.std.proofs.Common.{◌≡◌, ◌++◌, map, take, drop}
use Rattle.mdns_contest.specs.Turning.{renamed_to}
use Rattle.mdns_contest.proofs.turns.rename.Given as goal

abbrev pub invariant-loop-holding : goal.invariant-loop-holding
invariant-loop-holding l = l.holdings ≡ map (renamed_to l.id l.name) (take l.holding-index l.initial.holdings) ++ drop l.holding-index l.initial.holdings
