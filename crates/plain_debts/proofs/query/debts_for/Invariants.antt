use Rattle.std.proofs.Common.{◌≡◌, map, take}
use Rattle.std.specs.List.{list_all}
use Rattle.mdns_history.specs.Debts.{Owed, debt_of, is_unique}
use Rattle.plain_debts.proofs.query.debts_for.Given as goal

abbrev pub invariant-loop-one : goal.invariant-loop-one
invariant-loop-one l = l.debts.items ≡ map (debt_of l.heard l.entry l.past (list_all (λ (one : Owed). is_unique one.0) l.owed)) (take l.one-index l.owed)
