use Rattle.std.proofs.Common.{◌≡◌, ◌++◌, map, take, vec_capacity}
use Rattle.mdns_timer.proofs.deadlines.put_all.Given as goal

abbrev pub invariant-loop-item : goal.invariant-loop-item
invariant-loop-item g l = record {
  items : l.moments.items ≡ l.initial.moments.items ++ map g.T.Timed.moment (take l.item-index l.items);
  capacity : vec_capacity l.moments ≡ vec_capacity l.initial.moments;
}
