use Rattle.std.proofs.Common.{◌∙◌, List, map, ap}
use Rattle.std.specs.List.{list_all}
use Rattle.mdns_history.specs.Debts.{Owed, debt_of, is_unique}
use Rattle.plain_debts.proofs.query.debts_from.Goals as goal

pub returns : goal.returns
returns c =
    c.in_ok-debts.ensures
    ∙ ap (λ (l : List Owed). map (debt_of c.args.heard.now c.args.entry.now c.args.past.now (list_all (λ (one : Owed). is_unique one.0) l)) l)
    (c.deref.ensures.value ∙ c.in_ok-owed.ensures)
