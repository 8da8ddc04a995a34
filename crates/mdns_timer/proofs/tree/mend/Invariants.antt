use Rattle.std.proofs.Common.{◌-◌, ◌≡◌, ◌*◌, ◌<◌, ◌≤◌, length}
use Rattle.mdns_timer.proofs.Trees.{IsTreeTo}
use Rattle.mdns_timer.proofs.tree.mend.Given as goal

abbrev pub invariant-loop-node : goal.invariant-loop-node
invariant-loop-node l = record {
  size : length l.nodes ≡ length l.initial.nodes;
  some : 1 ≤ l.node;
  below : l.node < 2 * length l.nodes;
  tree : IsTreeTo l.node l.moments l.nodes;
}

abbrev pub decreases-loop-node : goal.decreases-loop-node
decreases-loop-node l = l.node - 1
