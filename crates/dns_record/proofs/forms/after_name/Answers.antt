use Rattle.std.proofs.Common.{arith}
use Rattle.std.proofs.lemmas.List.{take_rest}
use Rattle.dns_record.proofs.RawForms.{at_label, one_more, name_ends, runs_out, no_label}
use Rattle.dns_record.proofs.forms.after_name.Goals as goal
use Rattle.dns_record.proofs.forms.after_name.Goals.{then-size-gt63-via-then-size-gt63, then-size-gt63-via-else-size-gt63+then-size-after, then-size-gt63-via-else-size-gt63+else-size-after+then-bytes-after-gt254}

pub returns-then-size-eq0 : goal.returns-then-size-eq0
returns-then-size-eq0 c =
    name_ends _ _ _ (at_label _ _ _ _ _ c.loop-size.invariant c.in-Some.ensures.cases.0 c.from-size.ensures) c.if-size-eq0.true

pub returns-then-size-gt63 : goal.returns-then-size-gt63
returns-then-size-gt63 c =
    no_label _ _ _ (at_label _ _ _ _ _ c.loop-size.invariant c.in-Some.ensures.cases.0 c.from-size.ensures) c.if-size-eq0.false (λ most within room.
    elim c.then-size-gt63.branch [
      | then-size-gt63-via-then-size-gt63 w ↦ omega arith
      | then-size-gt63-via-else-size-gt63+then-size-after w ↦ omega arith
      | then-size-gt63-via-else-size-gt63+else-size-after+then-bytes-after-gt254 w ↦ omega arith
    ])

pub loop-size-preserved : goal.loop-size-preserved
loop-size-preserved c =
    rw take_rest
    (one_more _ _ _ (at_label _ _ _ _ _ c.loop-size.invariant c.in-Some.ensures.cases.0 c.from-size.ensures) c.if-size-eq0.false
    c.if-size-gt63.false c.if-size-after.false c.if-bytes-after-gt254.false)

pub returns : goal.returns
returns c = runs_out _ _ c.loop-size.invariant c.in_default.ensures.cases
