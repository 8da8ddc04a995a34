-- A name that is written is read again.
use Rattle.std.proofs.Common.{◌≡◌, ◌⊎◌, inl, inr, ⊎_elim, ℕ, zero, suc, ◌+◌, ◌<◌, ◌≤◌, ◌++◌, List, [], ◌∷◌, true, length, refl, arith, sym, subst, length-append, Option, Some, None}
use Rattle.std.proofs.lemmas.Bool.{and_parts}
use Rattle.std.specs.List.{list_all}
use Rattle.dns_name.specs.Names.{wire_of, is_label}
use Rattle.dns_name.proofs.Wire.{wire_some}
use Rattle.dns_pointers.specs.Writing.{Offsets, Piece, onto, offset_of, pointer_to, pointer_or, written_name}
use Rattle.dns_pointers.proofs.Standing.{Stands, within, first_part, last_part, moved}
use Rattle.dns_pointers.proofs.LabelSteps.{end_step, label_step, pointer_step}
use Rattle.dns_pointers.proofs.Tables.{IsSpelledFrom, IsAimedAt, IsTableOf, of_fewer, offset_pushed, pushed_longer}

-- some turns are left
turns_left : (n turns : ℕ) → n < turns → (more : ℕ) × (turns ≡ suc more)
turns_left n zero h = absurd (omega arith)
turns_left n (suc more) h = (more, refl)

pub spelled_end : (bytes : List ℕ) (low at : ℕ) → Stands bytes at (0 ∷ []) → IsSpelledFrom bytes low at [] (at + 1)
spelled_end bytes low at s = record {
  read = λ start turns used h enough short. let t = turns_left (start + 0) turns enough in rw t.1 (end_step t.0 bytes start at used s);
}

pub spelled_label : (bytes : List ℕ) (low at : ℕ) (label : List ℕ) (rest : List (List ℕ)) (stop : ℕ) → Stands bytes at (length label ∷ label) → is_label label ≡ true
    → IsSpelledFrom bytes low (at + 1 + length label) rest stop → IsSpelledFrom bytes low at (label ∷ rest) stop
spelled_label bytes low at label rest stop s l later = record {
  read = λ start turns used h enough short.
      let t = turns_left (start + length (label ∷ rest)) turns enough in
      let e : turns ≡ suc t.0 = t.1 in
      let size = length-append label (wire_of rest) in
      rw t.1 (label_step t.0 bytes start at used label rest stop s l (omega (arith, wire_some rest)) (later.read start t.0 (used + 1 + length label) h (omega arith) (omega arith)));
}

spelled_pointer : (bytes : List ℕ) (low at offset : ℕ) (name : List (List ℕ)) → Stands bytes at (pointer_to offset) → offset < low → offset < 16384
    → IsAimedAt bytes name offset → IsSpelledFrom bytes low at name (at + 2)
spelled_pointer bytes low at offset name s below small aim = record {
  read = λ start turns used h enough short.
      let t = turns_left (start + length name) turns enough in
      let e : turns ≡ suc t.0 = t.1 in
      let least : offset ≤ offset = omega arith in
      rw t.1 (pointer_step t.0 bytes start at used offset name aim.stop s (omega arith) small (aim.spelled.read offset t.0 used least (omega arith) short));
}

-- What is written for a name is read as the name, and each further name of the table is read at its offset.
pub record IsNameAgain (bytes : List ℕ) (low at : ℕ) (names : Offsets) (name : List (List ℕ)) (piece : Piece) : Type 0 where
  pub spelled : IsSpelledFrom bytes low at name (at + length piece.bytes)
  pub table : (other : List (List ℕ)) (offset : ℕ) → offset_of other piece.names ≡ Some offset
      → (offset_of other names ≡ Some offset) ⊎ ((offset < at + length piece.bytes) × IsAimedAt bytes other offset)

again_end : (bytes : List ℕ) (low at : ℕ) (names : Offsets) → Stands bytes at (0 ∷ []) → IsNameAgain bytes low at names [] (record { bytes = 0 ∷ []; names = names })
again_end bytes low at names s = record { spelled = spelled_end bytes low at s; table = λ other offset e. inl e }

again_pointer : (bytes : List ℕ) (low at offset : ℕ) (names : Offsets) (name : List (List ℕ)) → Stands bytes at (pointer_to offset) → offset < low → offset < 16384
    → IsAimedAt bytes name offset → IsNameAgain bytes low at names name (record { bytes = pointer_to offset; names = names })
again_pointer bytes low at offset names name s below small aim =
    record { spelled = spelled_pointer bytes low at offset name s below small aim; table = λ other o e. inl e }

again_label : (bytes : List ℕ) (low at : ℕ) (names : Offsets) (label : List ℕ) (rest : List (List ℕ)) (tail : Piece) → low ≤ at
    → Stands bytes at (length label ∷ label) → is_label label ≡ true
    → IsNameAgain bytes low (at + 1 + length label) (names ++ (label ∷ rest, at) ∷ []) rest tail
    → IsNameAgain bytes low at names (label ∷ rest) (onto (length label ∷ label) tail)
again_label bytes low at names label rest tail h s l later =
    let place : at + 1 + length label + length tail.bytes ≡ at + length (length label ∷ label ++ tail.bytes) = omega (arith, length-append label tail.bytes) in
    let whole : IsSpelledFrom bytes low at (label ∷ rest) (at + length (length label ∷ label ++ tail.bytes)) =
    subst (λ (n : ℕ). IsSpelledFrom bytes low at (label ∷ rest) n) place (spelled_label bytes low at label rest (at + 1 + length label + length tail.bytes) s l later.spelled) in
    record {
      spelled = whole;
      table = λ other offset e. ⊎_elim
          (λ was. ⊎_elim (λ old. inl old) (λ now. inr (here other offset whole now.0 now.1)) (offset_pushed other names (label ∷ rest) at offset was))
          (λ found. inr (omega (arith, found.0), found.1)) (later.table other offset e);
    }
  where
    here : (other : List (List ℕ)) (offset : ℕ) → IsSpelledFrom bytes low at (label ∷ rest) (at + length (length label ∷ label ++ tail.bytes))
        → other ≡ label ∷ rest → at ≡ offset → (offset < at + length (length label ∷ label ++ tail.bytes)) × IsAimedAt bytes other offset
    here other offset w same e = (
      omega arith,
      rw (same, ← e) (record {
        stop = at + length (length label ∷ label ++ tail.bytes);
        spelled = record { read = λ start turns used m enough short. w.read start turns used (omega arith) enough short };
      }),
    )

-- the two forms of the rest of a name
again_rest : (bytes : List ℕ) (low at : ℕ) (names : Offsets) (label : List ℕ) (rest : List (List ℕ)) (tail : Piece) → low ≤ at → at < 16384 → is_label label ≡ true
    → IsTableOf bytes names low (length (label ∷ rest))
    → (Stands bytes (at + 1 + length label) tail.bytes → IsNameAgain bytes low (at + 1 + length label) (names ++ (label ∷ rest, at) ∷ []) rest tail)
    → (o : Option ℕ) → o ≡ offset_of (label ∷ rest) names → Stands bytes at (pointer_or o names (onto (length label ∷ label) tail)).bytes
    → IsNameAgain bytes low at names (label ∷ rest) (pointer_or o names (onto (length label ∷ label) tail))
again_rest bytes low at names label rest tail h small l t later (Some offset) e s =
    let most : length (label ∷ rest) ≤ length (label ∷ rest) = omega arith in
    let aim = t.each (label ∷ rest) offset most (sym e) in
    again_pointer bytes low at offset names (label ∷ rest) s aim.0 (omega (arith, aim.0)) aim.1
again_rest bytes low at names label rest tail h small l t later None e s =
    let place : at + length (length label ∷ label) ≡ at + 1 + length label = omega arith in
    let behind = moved bytes (at + length (length label ∷ label)) (at + 1 + length label) tail.bytes (last_part bytes at (length label ∷ label) tail.bytes s) place in
    again_label bytes low at names label rest tail h (first_part bytes at (length label ∷ label) tail.bytes s) l (later behind)

pub name_again : (bytes : List ℕ) (low at : ℕ) (names : Offsets) (name : List (List ℕ)) → length bytes ≤ 8972 → low ≤ at → list_all is_label name ≡ true
    → IsTableOf bytes names low (length name) → Stands bytes at (written_name names at name).bytes
    → IsNameAgain bytes low at names name (written_name names at name)
unfolding written_name
name_again bytes low at names [] few h labels t s = again_end bytes low at names s
name_again bytes low at names (label ∷ rest) few h labels t s =
    let l = and_parts (is_label label) (list_all is_label rest) labels in
    let longer : length rest < length (label ∷ rest) = omega arith in
    let fewer : length rest ≤ length (label ∷ rest) = omega arith in
    let table = pushed_longer bytes names low (length rest) (label ∷ rest) at longer (of_fewer bytes names low (length (label ∷ rest)) (length rest) fewer t) in
    again_rest bytes low at names label rest (written_name (names ++ (label ∷ rest, at) ∷ []) (at + 1 + length label) rest) h (omega (arith, within bytes at _ s)) l.0 t
    (name_again bytes low (at + 1 + length label) (names ++ (label ∷ rest, at) ∷ []) rest few (omega arith) l.1 table)
    (offset_of (label ∷ rest) names) refl s
