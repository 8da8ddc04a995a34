use Rattle.std.proofs.Common.{◌≡◌, ◌++◌, take, drop}
use Rattle.std.specs.List.{flat_map, AllByRecursion}
use Rattle.sd_sessions.specs.Answered.{answered, View}
use Rattle.sd_sessions.specs.Changes.{lost, gained}
use Rattle.sd_sessions.specs.Kept.{AreWellFormed}
use Rattle.sd_sessions.specs.Walked.{IsSeenOf}
use Rattle.sd_sessions.specs.Concerned.{IsCovered}
use Rattle.sd_sessions.proofs.by_names.items_by_names.Given as goal

abbrev pub invariant-loop-operation : goal.invariant-loop-operation
invariant-loop-operation l =
    record {
      removes : (earlier later : View) → AllByRecursion (IsSeenOf earlier later l.looked.around.now l.before) l.operations →
          l.brought ≡ l.initial.brought ++ flat_map (lost (answered earlier) (answered later) l.before) (take l.operation-index l.operations);
      adds : (earlier later : View) → AllByRecursion (IsSeenOf earlier later l.looked.around.now l.before) l.operations →
          l.adds ≡ flat_map (gained (answered earlier) (answered later) l.before) (take l.operation-index l.operations);
      covered : AllByRecursion (IsCovered l.looked.numbers.now l.looked.around.now l.before) l.operations;
      formed : AreWellFormed (drop l.operation-index l.operations);
    }
