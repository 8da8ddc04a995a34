use Rattle.std.proofs.Common.{◌+◌, arith, length-drop, eq-eqb}
use Rattle.std.proofs.lemmas.Bool.{eqb-true}
use Rattle.std.proofs.lemmas.List.{take_rest}
use Rattle.number_text.proofs.Cuts.{cut_here, cut_nowhere, cut_of-here, cut_of-nowhere}
use Rattle.number_text.proofs.bytes.cut_at.Goals as goal

pub returns-in_err-place-clause-cut : goal.returns-in_err-place-clause-cut
returns-in_err-place-clause-cut c =
    let nowhere = c.in_err-place.ensures in
    rw c.from_residual.ensures (cut_of-nowhere c.args.bytes.now c.args.byte (λ k h there. nowhere k (omega arith) h (eq-eqb _ _ there)))

pub returns-in_err-place-clause-split : goal.returns-in_err-place-clause-split
returns-in_err-place-clause-split c =
    let nowhere = c.in_err-place.ensures in
    rw c.from_residual.ensures (cut_nowhere c.args.bytes.now c.args.byte (λ k h there. nowhere k (omega arith) h (eq-eqb _ _ there)))

pub returns-clause-cut : goal.returns-clause-cut
returns-clause-cut c =
    let here = c.in_ok-place.ensures in
    rw take_rest (cut_of-here c.args.bytes.now c.args.byte c.in_ok-place.place here.0.high
    (λ k h there. here.0.before k (omega arith) h (eq-eqb _ _ there)) (eqb-true _ _ here.1))

pub returns-clause-split : goal.returns-clause-split
returns-clause-split c =
    let here = c.in_ok-place.ensures in
    rw take_rest (
      cut_here c.args.bytes.now c.args.byte c.in_ok-place.place here.0.high
          (λ k h there. here.0.before k (omega arith) h (eq-eqb _ _ there)) (eqb-true _ _ here.1),
      omega (arith, here.0.high, length-drop (c.in_ok-place.place + 1) c.args.bytes.now),
    )
