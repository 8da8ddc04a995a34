use Rattle.std.proofs.Common.{◌≡◌, ◌==◌, map, take}
use Rattle.std.specs.Prelude.{filter}
use Rattle.plain_sending.proofs.replies.records_at.Given as goal

abbrev pub invariant-loop-debt : goal.invariant-loop-debt
invariant-loop-debt l = l.rrs.items ≡ map (λ debt. debt.rr) (filter (λ debt. debt.place == l.place) (take l.debt-index l.due))
