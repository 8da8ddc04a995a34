use Rattle.sd_call.proofs.AnswerOrder.{answer_cmp_equal}
use Rattle.sd_call.proofs.order.answer_cmp.Goals as goal

pub returns-in-Datum-clause-equal : goal.returns-in-Datum-clause-equal
returns-in-Datum-clause-equal c = answer_cmp_equal c.args.left.now c.args.right.now c.datum_cmp.result (rw c.in-Datum.is c.datum_cmp.ensures)

pub returns-in-Found-clause-equal : goal.returns-in-Found-clause-equal
returns-in-Found-clause-equal c = answer_cmp_equal c.args.left.now c.args.right.now c.found_cmp.result (rw c.in-Found.is c.found_cmp.ensures)

pub returns-in-Resolved-clause-equal : goal.returns-in-Resolved-clause-equal
returns-in-Resolved-clause-equal c =
    answer_cmp_equal c.args.left.now c.args.right.now c.resolved_cmp.result (rw (c.in-Resolved.is, ← c.as_slice.ensures) c.resolved_cmp.ensures)

pub returns-in-Named-clause-equal : goal.returns-in-Named-clause-equal
returns-in-Named-clause-equal c = answer_cmp_equal c.args.left.now c.args.right.now c.named_cmp.result (rw c.in-Named.is c.named_cmp.ensures)

pub returns-in-Conflict-clause-equal : goal.returns-in-Conflict-clause-equal
returns-in-Conflict-clause-equal c = answer_cmp_equal c.args.left.now c.args.right.now c.conflict_cmp.result (rw c.in-Conflict.is c.conflict_cmp.ensures)
