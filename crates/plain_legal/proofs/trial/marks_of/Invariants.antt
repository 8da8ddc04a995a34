use Rattle.std.proofs.Common.{◌≡◌}
use Rattle.plain_legal.proofs.trial.marks_of.Given as goal

abbrev pub invariant-loop-mark : goal.invariant-loop-mark
invariant-loop-mark l = l.all ≡ l.yielded
