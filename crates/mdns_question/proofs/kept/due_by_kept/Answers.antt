use Rattle.std.proofs.Common.{◌<◌, ℕ, length, subst, arith}
use Rattle.mdns_timer.specs.Parts.{NoneDue}
use Rattle.mdns_question.proofs.Due.{next_put, none_left, within_timed}
use Rattle.mdns_question.proofs.kept.due_by_kept.Goals as goal

pub loop-place-preserved : goal.loop-place-preserved
loop-place-preserved c =
    let there : c.in-Some.place < length c.args.questions.now = within_timed c.args.questions.now c.args.deadlines.now.moments c.in-Some.place c.requires c.in-Some.ensures.within in
    let found = c.in-Some.ensures.some in
    let none : NoneDue c.args.deadlines.now.moments c.args.now c.loop-place.from c.in-Some.place =
    subst (λ (n : ℕ). NoneDue c.args.deadlines.now.moments n c.loop-place.from c.in-Some.place) c.ms.ensures.value found.first in
    record {
      within = omega (arith, there);
      due = next_put c.args.now c.args.questions.now c.args.deadlines.now.moments c.loop-place.from c.in-Some.place c.index-questions-place.result c.loop-place.due.items c.put_due.new.due.items
          c.requires found.behind there none c.index-questions-place.is c.loop-place.invariant.due c.in_ok-put_due.ensures;
    }

pub returns : goal.returns
returns c =
    none_left c.args.now c.args.questions.now c.args.deadlines.now.moments c.loop-place.from c.loop-place.due.items c.requires c.loop-place.invariant.within
    (subst (λ (n : ℕ). NoneDue c.args.deadlines.now.moments n c.loop-place.from (length c.args.deadlines.now.moments)) c.ms.ensures.value c.in_default.ensures.none) c.loop-place.invariant.due
