use Rattle.std.proofs.Common.{◌≡◌, ◌-◌, ◌≤◌, length, take}
use Rattle.std.specs.List.{filter_map}
use Rattle.mdns_question.specs.Refreshing.{with_cause}
use Rattle.mdns_question.proofs.kept.due_by_kept.Given as goal

abbrev pub invariant-loop-place : goal.invariant-loop-place
invariant-loop-place l = record {
  within : l.from ≤ length l.questions;
  due : l.due.items ≡ filter_map (with_cause l.now) (take l.from l.questions);
}

abbrev pub decreases-loop-place : goal.decreases-loop-place
decreases-loop-place l = length l.questions - l.from
