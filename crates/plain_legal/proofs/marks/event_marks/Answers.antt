use Rattle.std.proofs.Common.{List, ◌++◌, ap, ◌∙◌}
use Rattle.mdns_history.specs.declared.mark.Mark.{Mark}
use Rattle.mdns_history.specs.Claims.{claim_marks}
use Rattle.plain_legal.specs.Trial.{asked_at}
use Rattle.plain_legal.proofs.MarksOf.{marks_from}
use Rattle.plain_legal.proofs.marks.event_marks.Goals as goal

pub returns : goal.returns
returns c =
    c.in_ok-append-3.ensures.items
    ∙ ap (λ (xs : List Mark). xs ++ c.in_ok-announced.announced.items)
    (c.in_ok-append-2.ensures.items ∙ ap (λ (xs : List Mark). xs ++ c.in_ok-asked.asked.items) c.in_ok-append.ensures.items)
    ∙ marks_from c.args.history.now c.in-Some.past.now c.in-Some.entry.now c.entry.result.now c.moment-moment.result c.in_ok-full.full c.in_ok-heard.heard c.in_ok-marks.marks.items
    c.in_ok-disturbed.disturbed.items c.in_ok-asked.asked.items c.in_ok-announced.announced.items c.in-Some.ensures.cases.0 c.entry.ensures c.moment-moment.ensures
    c.in_ok-full.ensures c.in_ok-heard.ensures c.in_ok-marks.ensures
    (c.in_ok-disturbed.ensures ∙ ap (λ o. claim_marks o c.in-Some.past.now) c.as_ref.ensures.value)
    (c.in_ok-asked.ensures ∙ ap (λ o. asked_at c.moment-moment.result c.entry.result.now.event o c.in-Some.past.now) c.as_ref-2.ensures.value)
    c.in_ok-announced.ensures
