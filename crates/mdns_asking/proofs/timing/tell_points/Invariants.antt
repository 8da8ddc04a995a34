use Rattle.std.proofs.Common.{◌≡◌, ◌≤◌, length, map, drop}
use Rattle.mdns_asking.specs.ByWalks.{timed_by}
use Rattle.mdns_asking.proofs.timing.tell_points.Given as goal

abbrev pub invariant-loop-left : goal.invariant-loop-left
invariant-loop-left l = record {
  within : l.left ≤ length l.walks;
  told : l.asker.questions ≡ map (timed_by (drop l.left l.walks)) l.initial.asker.questions;
}

abbrev pub decreases-loop-left : goal.decreases-loop-left
decreases-loop-left l = l.left
