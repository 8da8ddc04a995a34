use Rattle.std.proofs.Common.{◌≡◌, List, IfOk, subst}
use Rattle.dns_record.specs.declared.record.Rr.{Rr}
use Rattle.mdns_known.proofs.Union.{all_known_put}
use Rattle.mdns_known.proofs.all.all_known_answers.Goals as goal

pub returns : goal.returns
returns c =
    subst (λ (l : List Rr). IfOk c.in_order.result (λ known. known ≡ l))
    (all_known_put c.args.questions.now c.args.held.now c.args.now c.loop-question.question-index c.loop-question.all.items c.loop-question-test.false c.loop-question.invariant)
    c.in_order.ensures
