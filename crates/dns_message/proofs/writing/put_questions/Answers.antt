use Rattle.std.proofs.Common.{arith}
use Rattle.dns_message.proofs.Parts.{part_at, one_written, part_short, part_end, bytes_written, names_written}
use Rattle.dns_message.proofs.writing.put_questions.Goals as goal

pub returns-then-len-limit : goal.returns-then-len-limit
returns-then-len-limit c =
    let part = part_at _ _ _ _ _ _ _ c.loop-question.question-index c.question-item.result c.loop-question-test.true c.question-item.is c.loop-question.invariant.part in
    let after = one_written _ _ _ _ _ _ _ _ _ _ part c.in_ok-put_question.ensures.bytes c.in_ok-put_question.ensures.names in
    λ h. omega (arith, part_short _ _ _ _ _ _ _ after, c.if-len-limit.true, c.len.ensures, c.put_question.new.out.ok)

pub loop-question-preserved : goal.loop-question-preserved
loop-question-preserved c =
    let part = part_at _ _ _ _ _ _ _ c.loop-question.question-index c.question-item.result c.loop-question-test.true c.question-item.is c.loop-question.invariant.part in
    record {
      part = one_written _ _ _ _ _ _ _ _ _ _ part c.in_ok-put_question.ensures.bytes c.in_ok-put_question.ensures.names;
      within = omega (arith, c.if-len-limit.false, c.len.ensures, c.put_question.new.out.ok);
    }

pub returns : goal.returns
returns c =
    let part = part_end _ _ _ _ _ _ _ c.loop-question.question-index c.loop-question-test.false c.loop-question.invariant.part in
    (bytes_written _ _ _ _ _ _ part, names_written _ _ _ _ _ _ part, c.loop-question.invariant.within)
