use Rattle.std.proofs.Common.{arith}
use Rattle.sd_ipc.proofs.Names.{at_label, ends_here, no_room, one_more, ran_out}
use Rattle.sd_ipc.proofs.parts.name_part.Goals as goal
use Rattle.sd_ipc.proofs.parts.name_part.Goals.{then-size-gt63-via-then-size-gt63, then-size-gt63-via-else-size-gt63+then-size-after, then-size-gt63-via-else-size-gt63+else-size-after+then-wire_len-size-gt254}

pub returns-then-size-eq0 : goal.returns-then-size-eq0
returns-then-size-eq0 c =
    ends_here _ _ _ _ (at_label _ _ _ _ _ _ c.loop-size.invariant c.in-Some.ensures.cases.0 c.from-size.ensures) c.if-size-eq0.true

pub returns-then-size-gt63 : goal.returns-then-size-gt63
returns-then-size-gt63 c =
    no_room _ _ _ _ (at_label _ _ _ _ _ _ c.loop-size.invariant c.in-Some.ensures.cases.0 c.from-size.ensures) c.if-size-eq0.false (λ most within room.
    elim c.then-size-gt63.branch [
      | then-size-gt63-via-then-size-gt63 w ↦ omega arith
      | then-size-gt63-via-else-size-gt63+then-size-after w ↦ omega arith
      | then-size-gt63-via-else-size-gt63+else-size-after+then-wire_len-size-gt254 w ↦ omega (arith, w.wire_len.ensures.value)
    ])

pub loop-size-preserved : goal.loop-size-preserved
loop-size-preserved c =
    rw (c.push_bytes.ensures, c.split_at.ensures.front, c.split_at.ensures.back)
    (one_more _ _ _ _ (at_label _ _ _ _ _ _ c.loop-size.invariant c.in-Some.ensures.cases.0 c.from-size.ensures) c.if-size-eq0.false
    c.if-size-gt63.false c.if-size-after.false (omega (arith, c.wire_len.ensures.value)))

pub returns : goal.returns
returns c = ran_out _ _ _ c.loop-size.invariant c.in_default.ensures.cases
