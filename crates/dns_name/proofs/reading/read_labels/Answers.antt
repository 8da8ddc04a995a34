use Rattle.std.proofs.Common.{◌∙◌, [], length, ltb, filter, sym, ap}
use Rattle.std.proofs.lemmas.Result.{err_from_is_err_and}
use Rattle.dns_name.specs.TextItems.{items_of}
use Rattle.dns_name.specs.ReadName.{first_fault}
use Rattle.dns_name.proofs.ReadItems.{read_next, read_fault, read_whole, read_all}
use Rattle.dns_name.proofs.Spellings.{has_items}
use Rattle.dns_name.proofs.reading.read_labels.Goals as goal

pub loop-item-init : goal.loop-item-init
loop-item-init c = ([], c.new-items.ensures, sym c.new-reading.ensures, ap (first_fault []) c.new-items.ensures)

pub loop-item-preserved : goal.loop-item-preserved
loop-item-preserved c =
    read_next (items_of c.args.text.now) c.loop-item.items c.next_item.new.self c.in-Some.item c.loop-item.reading c.take.new.self
    c.loop-item.invariant c.in-Some.ensures c.in_ok-take.ensures.ok

pub returns-in_err-take-clause-value : goal.returns-in_err-take-clause-value
returns-in_err-take-clause-value c =
    let p = err_from_is_err_and c.from_residual.result c.from_residual.ensures.1 in
    rw (p.1, p.2)
    (read_fault (items_of c.args.text.now) c.loop-item.items c.next_item.new.self c.in-Some.item c.loop-item.reading c.in_err-take.field-0.0
    c.loop-item.invariant c.in-Some.ensures c.in_err-take.ensures.err)

pub returns-clause-value : goal.returns-clause-value
returns-clause-value c =
    read_all (items_of c.args.text.now) c.loop-item.items c.loop-item.reading c.finish.result c.loop-item.invariant c.in_default.ensures.0
    (λ items e. c.finish.ensures.value ∙ ap (filter (λ l. ltb 0 (length l))) (sym e))

pub returns-clause-spelled : goal.returns-clause-spelled
returns-clause-spelled c =
    let whole = read_whole (items_of c.args.text.now) c.loop-item.items c.loop-item.reading c.loop-item.invariant c.in_default.ensures.0 in
    (c.finish.ensures.name, has_items (items_of c.args.text.now) c.loop-item.reading c.finish.result whole.0 whole.1 c.finish.ensures.ends)
