use Rattle.std.proofs.Common.{◌≡◌, ◌-◌, ◌<◌, ◌≤◌, None}
use Rattle.std.specs.Prelude.{IsSome}
use Rattle.by_name.specs.Filed.{found}
use Rattle.by_name.proofs.taking.last_between.Given as goal

abbrev pub invariant-loop-past : goal.invariant-loop-past
invariant-loop-past g l = record {
  owner : l.probe.owner ≡ l.initial.probe.owner;
  order : l.last < l.past;
  least : l.low ≤ l.last;
  there : IsSome (found l.initial.probe.owner l.last l.values.entries);
  none : found l.initial.probe.owner l.past l.values.entries ≡ None;
}

abbrev pub decreases-loop-past : goal.decreases-loop-past
decreases-loop-past g l = l.past - l.last
