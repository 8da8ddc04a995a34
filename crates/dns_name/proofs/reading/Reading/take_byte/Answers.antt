use Rattle.std.proofs.Common.{◌≡◌, ◌∙◌, ◌++◌, ◌∷◌, [], List, ℕ, ◌+◌, ◌≤◌, length, length-append, arith, sym, ap}
use Rattle.std.proofs.lemmas.Bool.{eqb-true, eqb-false}
use Rattle.dns_name.specs.ReadName.{too_long}
use Rattle.dns_name.proofs.Spelled.{spelled_byte, too_long-label, too_long-name, too_long-none}
use Rattle.dns_name.proofs.reading.Reading.take_byte.Goals as goal

pub returns-then-is_full-clause-err : goal.returns-then-is_full-clause-err
returns-then-is_full-clause-err c before e =
    let label = c.self.inside.label.items in
    let full : length label ≡ 63 = eqb-true (length label) 63 (sym c.if-is_full.ensures.value) in
    ap too_long (spelled_byte before c.args.byte c.self.inside.name label (e ∙ sym c.self.view_is))
    ∙ too_long-label c.self.inside.name (label ++ c.args.byte ∷ []) (omega (arith, length-append label (c.args.byte ∷ [])))

pub returns-then-wire_len-len-gt255-clause-err : goal.returns-then-wire_len-len-gt255-clause-err
returns-then-wire_len-len-gt255-clause-err c before e =
    let label = c.self.inside.label.items in
    let part : length label ≤ 63 = c.is_full.ensures.fits in
    let size : length (label ++ c.args.byte ∷ []) ≡ length label + 1 = length-append label (c.args.byte ∷ []) in
    let room = eqb-false (length label) 63 (sym c.if-is_full.ensures.value) in
    ap too_long (spelled_byte before c.args.byte c.self.inside.name label (e ∙ sym c.self.view_is))
    ∙ too_long-name c.self.inside.name (label ++ c.args.byte ∷ []) (omega arith) (omega (arith, c.wire_len.ensures.value, c.len.ensures.value))

pub invariant_of-self : goal.invariant_of-self
invariant_of-self c = (c.self.invariant.0, λ _. omega (arith, c.push.ensures.len, c.wire_len.ensures.value, c.len.ensures.value))

pub returns-clause-ok : goal.returns-clause-ok
returns-clause-ok c before e =
    let label = c.self.inside.label.items in
    let part : length label ≤ 63 = c.is_full.ensures.fits in
    let size : length (label ++ c.args.byte ∷ []) ≡ length label + 1 = length-append label (c.args.byte ∷ []) in
    let room = eqb-false (length label) 63 (sym c.if-is_full.ensures.value) in
    let spelled = spelled_byte before c.args.byte c.self.inside.name label (e ∙ sym c.self.view_is) in (
      ap too_long spelled
          ∙ too_long-none c.self.inside.name (label ++ c.args.byte ∷ []) (omega arith) (omega (arith, c.wire_len.ensures.value, c.len.ensures.value)),
      spelled ∙ ap (λ (l : List ℕ). c.self.inside.name ++ l ∷ []) (sym c.push.ensures.items),
    )
