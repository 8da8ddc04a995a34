use Rattle.std.proofs.Common.{◌≡◌, inr, ◌-◌, arith}
use Rattle.std.proofs.lemmas.Result.{err_from_is_err_and}
use Rattle.dns_message.proofs.Sequences.{one_left, all_read, one_refused, read_is, one_passed, one_kept}
use Rattle.dns_message.proofs.sections.read_records.Goals as goal
use Rattle.dns_message.proofs.sections.read_records.Goals.{in-Some+in_ok-push, in_default}

pub returns-in_err-rr : goal.returns-in_err-rr
returns-in_err-rr c =
    let p = err_from_is_err_and c.from_residual-in_err-rr.result c.from_residual-in_err-rr.ensures.1 in
    rw (p.1, p.2)
    (one_refused _ _ _ _ _ _ _ (one_left _ c.records.read _ _ _ _ c.records-test.true c.records.invariant) c.in_err-rr.ensures)

pub records-preserved : goal.records-preserved
records-preserved c =
    let left = one_left _ c.records.read _ _ _ _ c.records-test.true c.records.invariant in
    elim c.match-rr.branch [
      | in-Some+in_ok-push w ↦ rw (w.rrs-is, w.in_ok-push.ensures.ok)
          (one_kept _ _ _ _ _ _ _ _ left (read_is _ _ (rw w.in-Some.is at c.in_ok-rr.ensures)))
      | in_default w ↦ rw w.rrs-is
          (one_passed _ _ _ _ _ _ _ left (read_is _ _ (rw w.in_default.is at c.in_ok-rr.ensures)))
    ]

pub returns : goal.returns
returns c =
    let none : c.args.count - c.records.read ≡ 0 = omega arith in
    inr (all_read _ _ _ _ _ (rw none at c.records.invariant))
