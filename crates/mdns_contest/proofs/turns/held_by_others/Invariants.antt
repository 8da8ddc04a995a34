use Rattle.std.proofs.Common.{◌≡◌, ◌++◌, drop}
use Rattle.mdns_history.specs.Claims.{held_by_others}
use Rattle.mdns_contest.proofs.turns.held_by_others.Given as goal

abbrev pub invariant-loop-holding : goal.invariant-loop-holding
invariant-loop-holding l = l.names.items ++ held_by_others l.id (drop l.holding-index l.holdings) ≡ held_by_others l.id l.holdings
