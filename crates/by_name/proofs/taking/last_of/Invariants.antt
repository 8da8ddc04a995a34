use Rattle.std.proofs.Common.{◌≡◌, ◌^◌, ◌+◌, ◌-◌, ◌<◌, ◌≤◌, length}
use Rattle.std.specs.Prelude.{IsSome}
use Rattle.by_name.specs.At.{at}
use Rattle.by_name.specs.Filed.{found}
use Rattle.by_name.proofs.taking.last_of.Given as goal

abbrev pub invariant-loop-last : goal.invariant-loop-last
invariant-loop-last g l = record {
  probe : l.probe ≡ at l.place.owner (l.last + l.step);
  least : l.place.number ≤ l.last;
  there : IsSome (found l.place.owner l.last l.values.entries);
  step : 0 < l.step;
  short : l.step ≤ l.last + 1;
  small : length l.values.entries < 2 ^ 63;
}

abbrev pub decreases-loop-last : goal.decreases-loop-last
decreases-loop-last g l = length l.values.entries - l.last
