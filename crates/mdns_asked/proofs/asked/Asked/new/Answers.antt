use Rattle.std.proofs.Common.{◌∙◌, List, Some, cond, ap, refl, length, ◌≤◌, arith}
use Rattle.std.proofs.lemmas.List.{take_all}
use Rattle.dns_record.specs.declared.record.Question.{Question}
use Rattle.dns_record.specs.declared.record.Rr.{Rr}
use Rattle.by_name.specs.At.{at_eq}
use Rattle.mdns_asked.specs.Asked.{place_of, records_of, is_asked}
use Rattle.mdns_asked.proofs.Asking.{none_of, one_more}
use Rattle.mdns_asked.proofs.asked.Asked.new.Goals as goal

pub loop-question-preserved : goal.loop-question-preserved
loop-question-preserved c = λ question.
    one_more c.args.questions.now c.args.questions.now c.loop-question.question-index c.question-item.result question c.asked_at.result
    (records_of question c.loop-question.lists.entries) (records_of question c.insert.new.self.entries)
    c.loop-question-test.true c.question-item.is refl c.asked_at.ensures (c.loop-question.invariant question)
    (c.in_ok-insert.ensures.updates.0 (place_of question)
    ∙ ap (λ (rrs : List Rr). cond (at_eq c.asked_at.result (place_of question)) (Some rrs) (records_of question c.loop-question.lists.entries)) c.new-in-loop-question.ensures)

pub returns : goal.returns
returns c = λ question.
    let long : length c.args.questions.now ≤ c.loop-question.question-index = omega arith in
    c.loop-question.invariant question ∙ ap (λ (questions : List Question). none_of (is_asked questions question)) (take_all c.loop-question.question-index c.args.questions.now long)
