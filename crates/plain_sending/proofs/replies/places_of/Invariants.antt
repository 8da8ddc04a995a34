use Rattle.std.proofs.Common.{◌≡◌, map, take}
use Rattle.plain_sending.proofs.replies.places_of.Given as goal

abbrev pub invariant-loop-debt : goal.invariant-loop-debt
invariant-loop-debt l = l.places.items ≡ map (λ debt. debt.place) (take l.debt-index l.due)
