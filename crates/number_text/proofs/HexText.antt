-- Bytes are read from what they are written as, in either case, and from nothing else.
use Rattle.std.proofs.Common.{◌≡◌, ℕ, ◌*◌, ◌∙◌, List, [], ◌∷◌, Bool, true, false, cond, eqb, Option, Some, None, length, refl, sym, ap, arith}
use Rattle.std.specs.Char.{to_ascii_lowercase}
use Rattle.std.specs.Str.{bytes_eq, str_to_ascii_lowercase}
use Rattle.std.proofs.lemmas.Bool.{ne_eqb, eq-eqb, false≢true}
use Rattle.std.proofs.lemmas.Bool.Decides.{nat_tests}
use Rattle.std.proofs.lemmas.List.{length-map}
use Rattle.std.proofs.lemmas.Slice.Eq.{bytes_eq-Decides}
use Rattle.hex.specs.Hex.{IsBytes, encode_lower, lower_digits}
use Rattle.hex.proofs.HexLemmas.{length-encode_with}
use Rattle.number_text.specs.Digits.{digits_of, hex_of, hex_text, IsHexOf}
use Rattle.number_text.proofs.HexDigits.{digits_lower, digits_shown, digits_written}

not_hyphen : (text : List ℕ) → (text ≡ 45 ∷ [] → ⊥) → bytes_eq text (45 ∷ []) ≡ false
not_hyphen text h = at_test (bytes_eq text (45 ∷ [])) refl
  where
    at_test : (t : Bool) → bytes_eq text (45 ∷ []) ≡ t → t ≡ false
    at_test true e = absurd (h ((bytes_eq-Decides text (45 ∷ [])).0 e))
    at_test false e = refl

-- bytes that are written are read
pub hex_written : (bytes : List ℕ) → IsBytes bytes → hex_of (hex_text bytes) ≡ Some bytes
unfolding hex_of hex_text
hex_written [] h = refl
hex_written (b ∷ bytes) h =
    let digits = encode_lower (b ∷ bytes) in
    let size : length digits ≡ 2 * length (b ∷ bytes) = length-encode_with lower_digits (b ∷ bytes) in
    let some : eqb (length digits) 0 ≡ false = ne_eqb (length digits) 0 (λ (e : length digits ≡ 0). omega arith) in
    let other : bytes_eq digits (45 ∷ []) ≡ false = not_hyphen digits (λ (e : digits ≡ 45 ∷ []). omega (arith, ap length e)) in
    rw (some, other) (digits_written (b ∷ bytes) h)

-- the print of bytes that aren't none
some_text : (text bytes : List ℕ) → (length text ≡ 0 → ⊥) → length text ≡ 2 * length bytes → str_to_ascii_lowercase text ≡ encode_lower bytes → str_to_ascii_lowercase text ≡ hex_text bytes
unfolding hex_text
some_text text [] some size e = absurd (some size)
some_text text (b ∷ bytes) some size e = e

-- bytes that are read are written so, in lower case
pub hex_shown : (text bytes : List ℕ) → hex_of text ≡ Some bytes → (str_to_ascii_lowercase text ≡ hex_text bytes) × IsBytes bytes
unfolding hex_of hex_text
hex_shown text bytes e = at_tests (eqb (length text) 0) (bytes_eq text (45 ∷ [])) refl refl e
  where
    hyphen : (bytes : List ℕ) → [] ≡ bytes → text ≡ 45 ∷ [] → (str_to_ascii_lowercase text ≡ hex_text bytes) × IsBytes bytes
    hyphen [] e is = (rw is refl, λ i. omega arith)
    hyphen (b ∷ bytes) e is = absurd (cc)

    at_tests : (t u : Bool) → eqb (length text) 0 ≡ t → bytes_eq text (45 ∷ []) ≡ u → cond t None (cond u (Some []) (digits_of text)) ≡ Some bytes → (str_to_ascii_lowercase text ≡ hex_text bytes) × IsBytes bytes
    at_tests true u et eu e = absurd (cc)
    at_tests false true et eu e = hyphen bytes (cc) ((bytes_eq-Decides text (45 ∷ [])).0 eu)
    at_tests false false et eu e =
        let d = digits_shown text bytes e in
        (some_text text bytes (λ z. false≢true (sym et ∙ eq-eqb (length text) 0 z)) d.1 d.0, d.2)

hyphen_lower : (text : List ℕ) → str_to_ascii_lowercase text ≡ 45 ∷ [] → text ≡ 45 ∷ []
hyphen_lower [] e = absurd (cc)
hyphen_lower (c ∷ []) e = let h : to_ascii_lowercase c ≡ 45 = cc in let same : c ≡ 45 = grind (arith, nat_tests) in rw same refl
hyphen_lower (c ∷ d ∷ text) e = absurd (cc)

-- bytes are read in either case
pub hex_lower : (text : List ℕ) → hex_of (str_to_ascii_lowercase text) ≡ hex_of text
unfolding hex_of
hex_lower text = λ i. cond (eqb (length-map text to_ascii_lowercase i) 0) None (cond (hyphens i) (Some []) (digits_lower text i))
  where
    hyphens : bytes_eq (str_to_ascii_lowercase text) (45 ∷ []) ≡ bytes_eq text (45 ∷ [])
    hyphens = at_test (bytes_eq text (45 ∷ [])) refl
      where
        at_test : (t : Bool) → bytes_eq text (45 ∷ []) ≡ t → bytes_eq (str_to_ascii_lowercase text) (45 ∷ []) ≡ t
        at_test true e = (bytes_eq-Decides (str_to_ascii_lowercase text) (45 ∷ [])).1 (rw ((bytes_eq-Decides text (45 ∷ [])).0 e) refl)
        at_test false e = not_hyphen (str_to_ascii_lowercase text) (λ is. false≢true (sym e ∙ (bytes_eq-Decides text (45 ∷ [])).1 (hyphen_lower text is)))

-- bytes are read exactly from what they are written as, in either case
pub hex_exact : (text : List ℕ) (r : Option (List ℕ)) → r ≡ hex_of text → IsHexOf text r
hex_exact text None e = λ bytes h is. absurd (none_some bytes (e ∙ sym (hex_lower text) ∙ ap hex_of is ∙ hex_written bytes h))
  where
    none_some : (bytes : List ℕ) → None ≡ Some bytes → ⊥
    none_some bytes h = cc
hex_exact text (Some bytes) e = (hex_shown text bytes (sym e)).0
