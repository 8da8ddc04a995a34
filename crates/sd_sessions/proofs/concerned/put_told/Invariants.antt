use Rattle.std.proofs.Common.{take}
use Rattle.sd_sessions.specs.Concerned.{AreMore, AreToldMet}
use Rattle.sd_sessions.proofs.concerned.put_told.Given as goal

abbrev pub invariant-loop-one : goal.invariant-loop-one
invariant-loop-one l =
    record {
      kept : AreMore l.initial.concerned.items l.concerned.items;
      put : AreToldMet l.concerned.items (take l.one-index l.told);
    }
