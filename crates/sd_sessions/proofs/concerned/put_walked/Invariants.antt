use Rattle.std.proofs.Common.{take}
use Rattle.std.specs.List.{AllByRecursion}
use Rattle.sd_sessions.specs.Concerned.{AreMore, IsWalkMet}
use Rattle.sd_sessions.proofs.concerned.put_walked.Given as goal

abbrev pub invariant-loop-walk : goal.invariant-loop-walk
invariant-loop-walk l =
    record {
      kept : AreMore l.initial.concerned.items l.concerned.items;
      put : AllByRecursion (IsWalkMet l.askers.entries l.concerned.items) (take l.walk-index l.walks);
    }
