use Rattle.std.proofs.Common.{◌≡◌, ◌++◌}
use Rattle.plain_legal.proofs.next.put_marks.Given as goal

abbrev pub invariant-loop-mark : goal.invariant-loop-mark
invariant-loop-mark l = l.marks ≡ l.initial.marks ++ l.yielded
