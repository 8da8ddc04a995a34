-- Bytes as hexadecimal digits.
use Rattle.std.proofs.Common.{◌≡◌, ℕ, zero, suc, ◌+◌, ◌*◌, ◌/◌, ◌%◌, ◌<◌, ◌++◌, ◌&&◌, ◌⊎◌, inl, inr, List, [], ◌∷◌, ◌∙◌, Bool, true, false, cond, eqb, ltb, Option, Some, None, Result, Ok, Err, length, take, drop, slice_index, refl, sym, ap, arith}
use Rattle.std.specs.Char.{to_ascii_lowercase}
use Rattle.std.specs.List.{list_any}
use Rattle.std.specs.Result.{result_ok}
use Rattle.std.specs.Str.{str_to_ascii_lowercase}
use Rattle.std.proofs.lemmas.Bool.{cases_lt, cases_eq, eqb-true, and_parts}
use Rattle.std.proofs.lemmas.Bool.Decides.{nat_tests}
use Rattle.std.proofs.lemmas.List.{take-append-drop, length-map}
use Rattle.hex.specs.Hex.{IsBytes, encode_with, encode_lower, lower_digits, hex_digit_value, decode_pairs, decode_of, digit_or_error, ◌>>=◌}
use Rattle.hex.proofs.HexLemmas.{decode_of-odd, decode_of-even, decode_of-ok, decode_of-encode_lower}
use Rattle.number_text.specs.Digits.{digits_of}
use Rattle.hex.specs.declared.error.FromHexError.{FromHexError}

pub encode_with-append : (t xs ys : List ℕ) → encode_with t (xs ++ ys) ≡ encode_with t xs ++ encode_with t ys
unfolding encode_with
encode_with-append t [] ys = refl
encode_with-append t (x ∷ xs) ys = rw (encode_with-append t xs ys) refl

-- no bytes have no digits
pub encode_none : encode_lower [] ≡ []
unfolding encode_with
encode_none = refl

-- bytes in two parts
pub encode_parts : (xs : List ℕ) (i : ℕ) → encode_lower (take i xs) ++ encode_lower (drop i xs) ≡ encode_lower xs
encode_parts xs i = sym (encode_with-append lower_digits (take i xs) (drop i xs)) ∙ ap encode_lower (take-append-drop i xs)

-- ---- digits in either case

-- a digit and its lower case have one value
pub digit_lower : (c : ℕ) → hex_digit_value (to_ascii_lowercase c) ≡ hex_digit_value c
digit_lower c = grind (arith, nat_tests)

-- the digit of a value, as a test that computes at each of them
abbrev is_right : ℕ → Bool
is_right v = eqb (slice_index lower_digits v) (cond (ltb v 10) (48 + v) (87 + v))

abbrev are_right : ℕ → Bool
are_right zero = true
are_right (suc n) = is_right n && are_right n

are_right-at : (n v : ℕ) → are_right n ≡ true → v < n → is_right v ≡ true
are_right-at zero v h less = absurd (omega arith)
are_right-at (suc n) v h less =
    let parts = and_parts (is_right n) (are_right n) h in
    elim (cases_lt v n) [
      | inl below ↦ are_right-at n v parts.1 below
      | inr top ↦ let e : v ≡ n = omega arith in rw e parts.0
    ]

digit_at : (v : ℕ) → v < 16 → slice_index lower_digits v ≡ cond (ltb v 10) (48 + v) (87 + v)
digit_at v h = eqb-true (slice_index lower_digits v) (cond (ltb v 10) (48 + v) (87 + v)) (are_right-at 16 v refl h)

-- a digit is no colon
digit_other : (v : ℕ) → v < 16 → eqb (slice_index lower_digits v) 58 ≡ false
digit_other v h = ap (λ (c : ℕ). eqb c 58) (digit_at v h) ∙ other
  where
    other : eqb (cond (ltb v 10) (48 + v) (87 + v)) 58 ≡ false
    other = grind (arith, nat_tests)

-- no colon stands among the digits of two bytes
pub digits_lack : (a b : ℕ) → a < 256 → b < 256 → list_any (λ d. eqb d 58) (encode_lower (a ∷ b ∷ [])) ≡ false
unfolding encode_with
digits_lack a b h k =
    rw (digit_other (a / 16) (omega arith), digit_other (a % 16) (omega arith), digit_other (b / 16) (omega arith), digit_other (b % 16) (omega arith)) refl

digit_small : (c v : ℕ) → hex_digit_value c ≡ Some v → v < 16
digit_small c v h = grind (arith, nat_tests)

digit_case : (c v : ℕ) → hex_digit_value c ≡ Some v → to_ascii_lowercase c ≡ cond (ltb v 10) (48 + v) (87 + v)
digit_case c v h = grind (arith, nat_tests)

-- a digit in lower case is that of its value
digit_shown : (c v : ℕ) → hex_digit_value c ≡ Some v → to_ascii_lowercase c ≡ slice_index lower_digits v
digit_shown c v h = digit_case c v h ∙ sym (digit_at v (digit_small c v h))

-- what two digits with these values and the bytes behind them make
abbrev bytes_of : ℕ → ℕ → ℕ → Option ℕ → Option ℕ → Result (List ℕ) FromHexError → Result (List ℕ) FromHexError
bytes_of a b i x y r = (digit_or_error a i x >>= λ h. digit_or_error b (i + 1) y >>= λ l. Ok (h * 16 + l)) >>= λ byte. r >>= λ bytes. Ok (byte ∷ bytes)

shown_pair : (a b i : ℕ) (rest bytes : List ℕ) (x y : Option ℕ) (r : Result (List ℕ) FromHexError) → hex_digit_value a ≡ x → hex_digit_value b ≡ y
    → decode_pairs (i + 2) rest ≡ r → bytes_of a b i x y r ≡ Ok bytes
    → ((more : List ℕ) → decode_pairs (i + 2) rest ≡ Ok more → str_to_ascii_lowercase rest ≡ encode_lower more)
    → str_to_ascii_lowercase (a ∷ b ∷ rest) ≡ encode_lower bytes
unfolding encode_with
shown_pair a b i rest bytes None y r ea eb er e ih = absurd (cc)
shown_pair a b i rest bytes (Some h) None r ea eb er e ih = absurd (cc)
shown_pair a b i rest bytes (Some h) (Some l) (Err f) ea eb er e ih = absurd (cc)
shown_pair a b i rest bytes (Some h) (Some l) (Ok more) ea eb er e ih =
    let small : l < 16 = digit_small b l eb in
    let high : (h * 16 + l) / 16 ≡ h = omega arith in
    let low : (h * 16 + l) % 16 ≡ l = omega arith in
    let same : (h * 16 + l) ∷ more ≡ bytes = cc in
    rw (← same, high, low, ← digit_shown a h ea, ← digit_shown b l eb, ih more er) refl

shown_pairs : (i : ℕ) (text bytes : List ℕ) → decode_pairs i text ≡ Ok bytes → str_to_ascii_lowercase text ≡ encode_lower bytes
unfolding decode_pairs encode_with
shown_pairs i [] bytes e = let same : [] ≡ bytes = cc in rw (← same) refl
shown_pairs i (a ∷ []) bytes e = absurd (cc)
shown_pairs i (a ∷ b ∷ rest) bytes e =
    shown_pair a b i rest bytes (hex_digit_value a) (hex_digit_value b) (decode_pairs (i + 2) rest) refl refl refl e (λ more h. shown_pairs (i + 2) rest more h)

same_bytes : (a b c d i : ℕ) (x y : Option ℕ) (r s : Result (List ℕ) FromHexError) → result_ok r ≡ result_ok s → result_ok (bytes_of a b i x y r) ≡ result_ok (bytes_of c d i x y s)
same_bytes a b c d i None y r s e = refl
same_bytes a b c d i (Some h) None r s e = refl
same_bytes a b c d i (Some h) (Some l) (Err f) (Err g) e = refl
same_bytes a b c d i (Some h) (Some l) (Err f) (Ok ys) e = absurd (cc)
same_bytes a b c d i (Some h) (Some l) (Ok xs) (Err g) e = absurd (cc)
same_bytes a b c d i (Some h) (Some l) (Ok xs) (Ok ys) e = let same : xs ≡ ys = cc in rw same refl

lower_pairs : (i : ℕ) (text : List ℕ) → result_ok (decode_pairs i (str_to_ascii_lowercase text)) ≡ result_ok (decode_pairs i text)
unfolding decode_pairs
lower_pairs i [] = refl
lower_pairs i (a ∷ []) = refl
lower_pairs i (a ∷ b ∷ rest) =
    rw (digit_lower a, digit_lower b)
    (same_bytes (to_ascii_lowercase a) (to_ascii_lowercase b) a b i (hex_digit_value a) (hex_digit_value b) (decode_pairs (i + 2) (str_to_ascii_lowercase rest)) (decode_pairs (i + 2) rest) (lower_pairs (i + 2) rest))

-- digits are read in either case
pub digits_lower : (text : List ℕ) → digits_of (str_to_ascii_lowercase text) ≡ digits_of text
digits_lower text = at_parity (cases_eq (length text % 2) 1)
  where
    same : length (str_to_ascii_lowercase text) ≡ length text
    same = length-map text to_ascii_lowercase

    at_parity : (length text % 2 ≡ 1) ⊎ (length text % 2 ≡ 1 → ⊥) → digits_of (str_to_ascii_lowercase text) ≡ digits_of text
    at_parity (inl odd) = rw (decode_of-odd text odd, decode_of-odd (str_to_ascii_lowercase text) (ap (λ (n : ℕ). n % 2) same ∙ odd)) refl
    at_parity (inr even) =
        let zero : length text % 2 ≡ 0 = omega arith in
        rw (decode_of-even text zero, decode_of-even (str_to_ascii_lowercase text) (ap (λ (n : ℕ). n % 2) same ∙ zero)) (lower_pairs 0 text)

ok_of : (r : Result (List ℕ) FromHexError) (bytes : List ℕ) → result_ok r ≡ Some bytes → r ≡ Ok bytes
ok_of (Ok xs) bytes e = let same : xs ≡ bytes = cc in ap Ok same
ok_of (Err f) bytes e = absurd (cc)

-- digits that are read are those of the bytes, in lower case
pub digits_shown : (text bytes : List ℕ) → digits_of text ≡ Some bytes → (str_to_ascii_lowercase text ≡ encode_lower bytes) × (length text ≡ 2 * length bytes) × IsBytes bytes
digits_shown text bytes e =
    let ok = decode_of-ok text bytes (ok_of (decode_of text) bytes e) in
    (shown_pairs 0 text bytes (sym (decode_of-even text ok.0) ∙ ok_of (decode_of text) bytes e), ok.2, ok.3)

-- digits that are written are read
pub digits_written : (bytes : List ℕ) → IsBytes bytes → digits_of (encode_lower bytes) ≡ Some bytes
digits_written bytes h = ap result_ok (decode_of-encode_lower bytes h)
