use Rattle.std.proofs.Common.{◌≡◌, ◌∙◌, [], sym, ap}
use Rattle.dns_name.specs.TextItems.{items_of}
use Rattle.dns_name.proofs.Spelling.{items_of-none, items_of-next}
use Rattle.dns_name.proofs.items.TextItems.next_item.Goals as goal

pub returns-in_err-first : goal.returns-in_err-first
returns-in_err-first c =
    let none : c.args.self.now ≡ [] = sym c.self.view_is ∙ items_of-none c.self.inside.text.now c.in_err-first.ensures.cases in
    rw c.from_residual.ensures (none, none)

pub returns : goal.returns
returns c =
    sym c.self.view_is ∙ ap items_of c.in_ok-first.ensures.cases.0
    ∙ items_of-next c.in_ok-first.first.now c.in_ok-first.rest.now c.begun-item.result.1.now c.begun-item.result.0 c.begun-item.ensures.item c.begun-item.ensures.after
