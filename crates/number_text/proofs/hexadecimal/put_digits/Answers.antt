use Rattle.std.proofs.Common.{◌≡◌, ◌++◌, ◌∙◌, List, ℕ, [], ap, sym, append_assoc, length}
use Rattle.std.proofs.lemmas.List.{append-nil, nil_from_length}
use Rattle.std.proofs.lemmas.Bool.{eqb-true}
use Rattle.hex.specs.Hex.{encode_lower}
use Rattle.number_text.proofs.HexDigits.{encode_none, encode_parts}
use Rattle.number_text.proofs.hexadecimal.put_digits.Goals as goal

pub loop-rest-preserved : goal.loop-rest-preserved
loop-rest-preserved c =
    rw (c.in_ok-put_few.ensures, append_assoc, c.split_at.ensures.front, c.split_at.ensures.back, encode_parts) c.loop-rest.invariant

pub returns : goal.returns
returns c =
    let out = c.loop-rest.out.items in
    let none : c.loop-rest.rest.now ≡ [] = nil_from_length c.loop-rest.rest.now (eqb-true (length c.loop-rest.rest.now) 0 (sym c.is_empty.ensures ∙ c.loop-rest-test.false)) in
    sym (append-nil out) ∙ ap (λ (digits : List ℕ). out ++ digits) (sym encode_none ∙ ap encode_lower (sym none)) ∙ c.loop-rest.invariant
