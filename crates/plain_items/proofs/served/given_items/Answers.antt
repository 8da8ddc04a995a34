use Rattle.std.proofs.Common.{◌∙◌, ℕ, List, [], map, ap}
use Rattle.std.specs.List.{flat_map}
use Rattle.mdns_history.specs.Items.{change_items, given_to}
use Rattle.plain_items.specs.LastEntry.{of_last}
use Rattle.plain_items.proofs.LastEntries.{given_last}
use Rattle.plain_items.proofs.served.given_items.Goals as goal

pub returns : goal.returns
returns c =
    let history = c.args.history.now in
    c.in_ok-gifts.ensures
    ∙ ap (λ (sessions : List ℕ). flat_map (λ session. map (given_to session) (of_last [] (change_items session) history)) sessions) (c.deref.ensures.value ∙ c.in_ok-served.ensures)
    ∙ given_last history
