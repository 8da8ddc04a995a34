use Rattle.std.proofs.Common.{◌≡◌, ◌∷◌, ap, ◌∙◌}
use Rattle.std.proofs.lemmas.Result.{IfOk-weaker}
use Rattle.mdns_history.specs.declared.entry.Entry.{Entry}
use Rattle.mdns_history.specs.InForce.{all_duties}
use Rattle.mdns_history.specs.Outcomes.{early_outcome}
use Rattle.mdns_history.specs.Fitting.{with_outcome, next_entry}
use Rattle.plain_legal.specs.Trial.{on_last}
use Rattle.plain_legal.proofs.Staged.{made, made_bare, made_stands, may_note, may_cut, may_give, made_next}
use Rattle.plain_legal.proofs.next.next_entry.Goals as goal

pub put_first-requires : goal.put_first-requires
put_first-requires c =
    made_stands c.ms.result c.args.word c.args.event c.args.history.now.items (made c.ms.result c.args.word c.args.event c.new.result c.new-2.result c.new-3.result c.in_ok-outcome.outcome)
    c.ms.ensures.bound
    (made_bare c.ms.result c.args.word c.args.event c.args.history.now.items c.new.result c.new-2.result c.new-3.result c.in_ok-outcome.outcome c.new.ensures c.new-2.ensures c.new-3.ensures
    (c.in_ok-outcome.ensures ∙ ap (early_outcome c.args.event) c.deref.ensures.value))

pub note-requires-clause-stands : goal.note-requires-clause-stands
note-requires-clause-stands c =
    may_note c.ms.result c.args.word c.args.event c.args.history.now.items (made c.ms.result c.args.word c.args.event c.new.result c.new-2.result c.new-3.result c.in_ok-outcome.outcome)
    (made_bare c.ms.result c.args.word c.args.event c.args.history.now.items c.new.result c.new-2.result c.new-3.result c.in_ok-outcome.outcome c.new.ensures c.new-2.ensures c.new-3.ensures
    (c.in_ok-outcome.ensures ∙ ap (early_outcome c.args.event) c.deref.ensures.value))
    c.ms.ensures.bound c.put_first.new.history.items c.in_ok-put_first.ensures

pub cut-requires-clause-stands : goal.cut-requires-clause-stands
cut-requires-clause-stands c =
    may_cut c.ms.result c.args.word c.args.event c.args.history.now.items (made c.ms.result c.args.word c.args.event c.new.result c.new-2.result c.new-3.result c.in_ok-outcome.outcome)
    (made_bare c.ms.result c.args.word c.args.event c.args.history.now.items c.new.result c.new-2.result c.new-3.result c.in_ok-outcome.outcome c.new.ensures c.new-2.ensures c.new-3.ensures
    (c.in_ok-outcome.ensures ∙ ap (early_outcome c.args.event) c.deref.ensures.value))
    c.ms.ensures.bound c.put_first.new.history.items c.in_ok-put_first.ensures c.note.new.history.items c.in_ok-note.ensures

pub give-requires-clause-stands : goal.give-requires-clause-stands
give-requires-clause-stands c =
    may_give c.ms.result c.args.word c.args.event c.args.history.now.items (made c.ms.result c.args.word c.args.event c.new.result c.new-2.result c.new-3.result c.in_ok-outcome.outcome)
    (made_bare c.ms.result c.args.word c.args.event c.args.history.now.items c.new.result c.new-2.result c.new-3.result c.in_ok-outcome.outcome c.new.ensures c.new-2.ensures c.new-3.ensures
    (c.in_ok-outcome.ensures ∙ ap (early_outcome c.args.event) c.deref.ensures.value))
    c.ms.ensures.bound c.put_first.new.history.items c.in_ok-put_first.ensures c.note.new.history.items c.in_ok-note.ensures c.cut.new.history.items c.in_ok-cut.ensures

pub returns-clause-next : goal.returns-clause-next
returns-clause-next c =
    IfOk-weaker c.end.result (λ (entry : Entry). entry ∷ c.end.new.history.items ≡ on_last with_outcome c.give.new.history.items)
    (λ (entry : Entry). entry ≡ next_entry all_duties c.args.history.now.items c.args.moment c.args.word c.args.event)
    (λ entry ended.
    made_next c.ms.result c.args.word c.args.event c.args.history.now.items (made c.ms.result c.args.word c.args.event c.new.result c.new-2.result c.new-3.result c.in_ok-outcome.outcome)
    (made_bare c.ms.result c.args.word c.args.event c.args.history.now.items c.new.result c.new-2.result c.new-3.result c.in_ok-outcome.outcome c.new.ensures c.new-2.ensures c.new-3.ensures
    (c.in_ok-outcome.ensures ∙ ap (early_outcome c.args.event) c.deref.ensures.value))
    c.ms.ensures.bound c.put_first.new.history.items c.in_ok-put_first.ensures c.note.new.history.items c.in_ok-note.ensures c.cut.new.history.items c.in_ok-cut.ensures
    c.give.new.history.items c.end.new.history.items entry c.in_ok-give.ensures ended
    ∙ ap (λ m. next_entry all_duties c.args.history.now.items m c.args.word c.args.event) c.ms.ensures.value)
    c.end.ensures
