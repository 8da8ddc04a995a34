use Rattle.std.proofs.Common.{◌≡◌, length}
use Rattle.mdns_timer.proofs.tree.built.Given as goal

abbrev pub invariant-loop : goal.invariant-loop
invariant-loop l = length l.nodes.items ≡ l.counter
