use Rattle.std.proofs.Common.{◌≡◌, inr, ◌-◌, arith}
use Rattle.std.proofs.lemmas.Result.{err_from_is_err_and}
use Rattle.dns_message.proofs.Sequences.{one_left, all_read, one_fault, one_passed, one_kept}
use Rattle.dns_message.proofs.sections.read_questions.Goals as goal
use Rattle.dns_message.proofs.sections.read_questions.Goals.{in-Some+in_ok-push, in_default}

pub returns-in_err-question : goal.returns-in_err-question
returns-in_err-question c =
    let p = err_from_is_err_and c.from_residual.result c.from_residual.ensures.1 in
    rw (p.1, p.2)
    (inr (one_fault _ _ _ _ _ _ _ (one_left _ c.questions.read _ _ _ _ c.questions-test.true c.questions.invariant) c.in_err-question.ensures))

pub questions-preserved : goal.questions-preserved
questions-preserved c =
    let left = one_left _ c.questions.read _ _ _ _ c.questions-test.true c.questions.invariant in
    elim c.match-question.branch [
      | in-Some+in_ok-push w ↦ rw (w.questions-is, w.in_ok-push.ensures.ok)
          (one_kept _ _ _ _ _ _ _ _ left (rw w.in-Some.is at c.in_ok-question.ensures))
      | in_default w ↦ rw w.questions-is
          (one_passed _ _ _ _ _ _ _ left (rw w.in_default.is at c.in_ok-question.ensures))
    ]

pub returns : goal.returns
returns c =
    let none : c.args.count - c.questions.read ≡ 0 = omega arith in
    inr (all_read _ _ _ _ _ (rw none at c.questions.invariant))
