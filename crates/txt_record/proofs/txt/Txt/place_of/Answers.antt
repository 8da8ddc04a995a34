use Rattle.std.proofs.Common.{arith, refl, sym}
use Rattle.txt_record.proofs.Places.{passed_more, passed_within}
use Rattle.txt_record.proofs.txt.Txt.place_of.Goals as goal

pub overflow_add-end : goal.overflow_add-end
overflow_add-end c =
    let within = passed_within _ _ _ _ _ _ c.loop-string.invariant.2 c.in-Some.ensures.steps in
    omega (arith, c.strings-string-items.ensures.short)

pub overflow_add-end-in-loop-string : goal.overflow_add-end-in-loop-string
overflow_add-end-in-loop-string c =
    let within = passed_within _ _ _ _ _ _ c.loop-string.invariant.2 c.in-Some.ensures.steps in
    omega (arith, c.strings-string-items.ensures.short)

pub returns-then-has_key-clause-within : goal.returns-then-has_key-clause-within
returns-then-has_key-clause-within c =
    (omega arith, passed_within _ _ _ _ _ _ c.loop-string.invariant.2 c.in-Some.ensures.steps)

pub loop-string-preserved : goal.loop-string-preserved
loop-string-preserved c = (tt, tt, passed_more _ _ _ _ _ _ _ c.loop-string.invariant.2 c.in-Some.ensures.steps (sym c.if-has_key.ensures) refl)
