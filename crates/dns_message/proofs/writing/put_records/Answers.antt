use Rattle.std.proofs.Common.{arith}
use Rattle.std.proofs.lemmas.Result.{err_from_is_err_and}
use Rattle.dns_message.proofs.Parts.{part_at, one_written, part_short, next_short, part_end, bytes_written, names_written}
use Rattle.dns_message.proofs.writing.put_records.Goals as goal

pub returns-then-len-limit : goal.returns-then-len-limit
returns-then-len-limit c =
    let part = part_at _ _ _ _ _ _ _ c.loop-rr.rr-index c.rr-item.result c.loop-rr-test.true c.rr-item.is c.loop-rr.invariant.part in
    let after = one_written _ _ _ _ _ _ _ _ _ _ part c.in_ok-put_record.ensures.0 c.in_ok-put_record.ensures.1 in
    λ h. omega (arith, part_short _ _ _ _ _ _ _ after, c.if-len-limit.true, c.len.ensures, c.put_record.new.out.ok)

pub loop-rr-preserved : goal.loop-rr-preserved
loop-rr-preserved c =
    let part = part_at _ _ _ _ _ _ _ c.loop-rr.rr-index c.rr-item.result c.loop-rr-test.true c.rr-item.is c.loop-rr.invariant.part in
    record {
      part = one_written _ _ _ _ _ _ _ _ _ _ part c.in_ok-put_record.ensures.0 c.in_ok-put_record.ensures.1;
      within = omega (arith, c.if-len-limit.false, c.len.ensures, c.put_record.new.out.ok);
    }

pub returns : goal.returns
returns c =
    let part = part_end _ _ _ _ _ _ _ c.loop-rr.rr-index c.loop-rr-test.false c.loop-rr.invariant.part in
    (bytes_written _ _ _ _ _ _ part, names_written _ _ _ _ _ _ part, c.loop-rr.invariant.within)

pub returns-in_err-put_record : goal.returns-in_err-put_record
returns-in_err-put_record c =
    let part = part_at _ _ _ _ _ _ _ c.loop-rr.rr-index c.rr-item.result c.loop-rr-test.true c.rr-item.is c.loop-rr.invariant.part in
    let p = err_from_is_err_and c.from_residual.result c.from_residual.ensures.1 in
    rw (p.1, p.2) (λ h. omega (arith, next_short _ _ _ _ _ _ _ _ part, c.in_err-put_record.ensures h, c.requires.most))
