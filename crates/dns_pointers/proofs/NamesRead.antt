-- Names as they are read in messages: compressed ones, and those that are written whole.
use Rattle.std.proofs.Common.{◌≡◌, ⊎_elim, ℕ, ◌+◌, ◌*◌, ◌≤◌, ◌++◌, List, [], ◌∷◌, true, length, arith, length-append, Ok}
use Rattle.std.specs.List.{list_all}
use Rattle.std.specs.Prelude.{IsTrue}
use Rattle.std.proofs.lemmas.Bool.{and_parts}
use Rattle.dns_name.specs.Names.{wire_of, is_label, is_name}
use Rattle.dns_name.proofs.Wire.{label_some, name_each, name_short}
use Rattle.dns_pointers.specs.Reading.{name_at}
use Rattle.dns_pointers.specs.Writing.{Offsets, Piece, written_name}
use Rattle.dns_pointers.proofs.Standing.{Stands, within, first_part, last_part, moved}
use Rattle.dns_pointers.proofs.Tables.{IsSpelledFrom, IsTable, of_all}
use Rattle.dns_pointers.proofs.NamesAgain.{spelled_end, spelled_label, name_again}

-- a label takes two bytes at least
labels_few : (name : List (List ℕ)) → list_all is_label name ≡ true → 2 * length name + 1 ≤ length (wire_of name)
labels_few [] h = omega arith
labels_few (label ∷ rest) h =
    let l = and_parts (is_label label) (list_all is_label rest) h in
    omega (arith, label_some label l.0, labels_few rest l.1, length-append label (wire_of rest))

-- a name that is spelled is read
at_name : (bytes : List ℕ) (at : ℕ) (name : List (List ℕ)) (stop : ℕ) → at ≤ length bytes → IsTrue (is_name name) → IsSpelledFrom bytes at at name stop → name_at bytes at ≡ Ok (name, stop)
unfolding name_at
at_name bytes at name stop there h s =
    let few = labels_few name (name_each name h) in
    let short = name_short name h in
    let here : at ≤ at = omega arith in
    s.read at (length bytes + 129) 0 here (omega arith) (omega arith)

-- A written name is read there, and the names after it are a table.
pub record IsNameRead (bytes : List ℕ) (at : ℕ) (name : List (List ℕ)) (piece : Piece) : Type 0 where
  pub read : name_at bytes at ≡ Ok (name, at + length piece.bytes)
  pub table : IsTable bytes piece.names (at + length piece.bytes)

pub name_read : (bytes : List ℕ) (at : ℕ) (names : Offsets) (name : List (List ℕ)) → length bytes ≤ 8972 → IsTrue (is_name name) → IsTable bytes names at
    → Stands bytes at (written_name names at name).bytes → IsNameRead bytes at name (written_name names at name)
name_read bytes at names name few h t s =
    let here : at ≤ at = omega arith in
    let again = name_again bytes at at names name few here (name_each name h) (of_all bytes names at (length name) t) s in
    record {
      read = at_name bytes at name (at + length (written_name names at name).bytes) (omega (arith, within bytes at (written_name names at name).bytes s)) h again.spelled;
      table = record {
        each = λ other offset e. ⊎_elim (λ old. let r = t.each other offset old in (omega (arith, r.0), r.1)) (λ new. new) (again.table other offset e);
      };
    }

-- a name that is written whole
whole_spelled : (bytes : List ℕ) (low at : ℕ) (name : List (List ℕ)) → list_all is_label name ≡ true → Stands bytes at (wire_of name) → IsSpelledFrom bytes low at name (at + length (wire_of name))
whole_spelled bytes low at [] h s = spelled_end bytes low at s
whole_spelled bytes low at (label ∷ rest) h s =
    let l = and_parts (is_label label) (list_all is_label rest) h in
    let place : at + length (length label ∷ label) ≡ at + 1 + length label = omega arith in
    let behind = moved bytes (at + length (length label ∷ label)) (at + 1 + length label) (wire_of rest) (last_part bytes at (length label ∷ label) (wire_of rest) s) place in
    let stop : at + length (length label ∷ label ++ wire_of rest) ≡ at + 1 + length label + length (wire_of rest) = omega (arith, length-append label (wire_of rest)) in
    rw stop
    (spelled_label bytes low at label rest (at + 1 + length label + length (wire_of rest)) (first_part bytes at (length label ∷ label) (wire_of rest) s) l.0
    (whole_spelled bytes low (at + 1 + length label) rest l.1 behind))

pub whole_read : (bytes : List ℕ) (at : ℕ) (name : List (List ℕ)) → IsTrue (is_name name) → Stands bytes at (wire_of name) → name_at bytes at ≡ Ok (name, at + length (wire_of name))
whole_read bytes at name h s =
    at_name bytes at name (at + length (wire_of name)) (omega (arith, within bytes at (wire_of name) s)) h (whole_spelled bytes at at name (name_each name h) s)
