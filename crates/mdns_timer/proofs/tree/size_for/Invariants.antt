use Rattle.std.proofs.Common.{◌-◌, ◌<◌, ◌≤◌, ◌^◌}
use Rattle.mdns_timer.specs.Tree.{IsWidth}
use Rattle.mdns_timer.proofs.tree.size_for.Given as goal

abbrev pub invariant-loop-size : goal.invariant-loop-size
invariant-loop-size l = record {
  some : 1 ≤ l.size;
  small : l.size < 2 ^ 60;
  width : IsWidth l.size;
}

abbrev pub decreases-loop-size : goal.decreases-loop-size
decreases-loop-size l = l.places - l.size
