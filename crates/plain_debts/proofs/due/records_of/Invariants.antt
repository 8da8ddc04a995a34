use Rattle.std.proofs.Common.{◌≡◌, take, map}
use Rattle.plain_debts.proofs.due.records_of.Given as goal

abbrev pub invariant-loop-debt : goal.invariant-loop-debt
invariant-loop-debt l = l.rrs.items ≡ map (λ debt. debt.rr) (take l.debt-index l.debts)
