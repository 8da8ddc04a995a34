use Rattle.std.proofs.Common.{◌≡◌}
use Rattle.plain_legal.proofs.trial.sends_of.Given as goal

abbrev pub invariant-loop-one : goal.invariant-loop-one
invariant-loop-one l = l.all ≡ l.yielded
