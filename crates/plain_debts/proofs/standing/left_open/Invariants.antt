use Rattle.std.proofs.Common.{◌≡◌}
use Rattle.std.specs.Prelude.{filter}
use Rattle.plain_debts.specs.Meeting.{left_open}
use Rattle.plain_debts.proofs.standing.left_open.Given as goal

abbrev pub invariant-loop-debt : goal.invariant-loop-debt
invariant-loop-debt l = l.left.items ≡ filter (left_open l.query l.counted l.entry) l.yielded
