use Rattle.std.proofs.Common.{◌-◌, ◌≡◌, ◌≤◌, length}
use Rattle.mdns_timer.proofs.Trees.{IsTreeFrom}
use Rattle.mdns_timer.proofs.tree.build.Given as goal

abbrev pub invariant-loop-node : goal.invariant-loop-node
invariant-loop-node l = record {
  size : length l.nodes ≡ length l.initial.nodes;
  most : l.node ≤ length l.nodes;
  tree : IsTreeFrom l.node l.moments l.nodes;
}

abbrev pub decreases-loop-node : goal.decreases-loop-node
decreases-loop-node l = l.node - 1
