use Rattle.std.proofs.Common.{◌≡◌, ℕ, ◌++◌, length}
use Rattle.plain_check.specs.Checked.{history_of, AreLegalRows}
use Rattle.plain_check.specs.Held.{history_in}
use Rattle.plain_check.proofs.checking.check.Given as goal

abbrev pub invariant-loop-row : goal.invariant-loop-row
invariant-loop-row l = record {
  left : l.yielded ++ l.row-iterator.rest.items ≡ l.fn.transcript;
  counted : l.number ≡ length l.yielded;
  held : (daemon : ℕ) → history_in daemon l.histories.items ≡ history_of daemon l.yielded;
  legal : AreLegalRows l.yielded;
}
