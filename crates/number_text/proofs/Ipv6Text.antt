-- Addresses of IPv6 are read from what they are written as, in either case, and from nothing else.
use Rattle.std.proofs.Common.{◌≡◌, ℕ, zero, suc, ◌⊎◌, inl, inr, Result, Ok, Err, ◌+◌, ◌*◌, ◌/◌, ◌%◌, ◌^◌, ◌<◌, ◌++◌, ◌&&◌, ◌∙◌, Bool, true, false, cond, List, [], ◌∷◌, eqb, Option, Some, None, length, get_or, take, drop, refl, sym, ap, subst, arith, length-append}
use Rattle.std.specs.Char.{to_ascii_lowercase}
use Rattle.std.specs.Int.{w16, from_be_bytes, to_be_bytes}
use Rattle.std.specs.Option.{option_map, option_and_then}
use Rattle.std.specs.Result.{result_ok}
use Rattle.std.specs.Str.{str_to_ascii_lowercase}
use Rattle.std.proofs.lemmas.Bool.{cases_eq, eq-eqb, eqb-true}
use Rattle.std.proofs.lemmas.Bool.Decides.{nat_tests}
use Rattle.std.proofs.lemmas.List.{length-map, map-append, take-map, drop-map, take-append-drop}
use Rattle.std.proofs.Math.ListN.{get_or-map}
use Rattle.std.proofs.Math.Seq.{get_or-append_seam, take-append_seam, drop-append-add, drop-cons}
use Rattle.std.proofs.lemmas.Nat.{be_bytes_2, from_be_bytes-to_be_bytes_2}
use Rattle.std.proofs.lemmas.Option.{option_and_then_some}
use Rattle.hex.specs.Hex.{IsBytes, encode_with, encode_lower, decode_sized}
use Rattle.hex.specs.declared.error.FromHexError.{FromHexError}
use Rattle.hex.proofs.HexLemmas.{decode_sized-twice, decode_sized-ok, decode_sized-encode_lower}
use Rattle.number_text.specs.Digits.{IsReadFrom, group_of, group_text, four_text, ipv6_half_of, ipv6_half_text, ipv6_parts, ipv6_of, ipv6_text}
use Rattle.number_text.proofs.HexDigits.{digits_shown, digits_lower, digits_lack}
use Rattle.number_text.proofs.Joined.{lacks, same_pair, four_written, four_read, four_lower}

two_bytes : (a b : ℕ) → a < 256 → b < 256 → IsBytes (a ∷ b ∷ [])
two_bytes a b h k zero = h
two_bytes a b h k (suc zero) = k
two_bytes a b h k (suc (suc i)) = omega arith

-- a group that is written is read
group_written : (n : ℕ) → n < 2 ^ 16 → group_of (group_text n) ≡ Some n
group_written n h =
    ap (λ (r : Result (List ℕ) FromHexError). option_map (from_be_bytes w16) (result_ok r))
    (decode_sized-encode_lower (to_be_bytes w16 n) 2 refl (two_bytes (n / 256 % 256) (n % 256) (omega arith) (omega arith)))
    ∙ ap Some (from_be_bytes-to_be_bytes_2 n h)

below : (bytes : List ℕ) → length bytes ≡ 2 → IsBytes bytes → from_be_bytes w16 bytes < 2 ^ 16
below [] size h = absurd (omega arith)
below (a ∷ []) size h = absurd (omega arith)
below (a ∷ b ∷ []) size h = omega (arith, h 0, h 1)
below (a ∷ b ∷ c ∷ bytes) size h = absurd (omega arith)

-- a group that is read is written so, in lower case
group_shown : (text : List ℕ) (n : ℕ) → group_of text ≡ Some n → (n < 2 ^ 16) × (str_to_ascii_lowercase text ≡ group_text n) × (length text ≡ 4)
group_shown text n e = at_result (decode_sized text 2) refl e
  where
    at_result : (r : Result (List ℕ) FromHexError) → decode_sized text 2 ≡ r → option_map (from_be_bytes w16) (result_ok r) ≡ Some n → (n < 2 ^ 16) × (str_to_ascii_lowercase text ≡ group_text n) × (length text ≡ 4)
    at_result (Err f) h e = absurd (cc)
    at_result (Ok bytes) h e =
        let value : from_be_bytes w16 bytes ≡ n = cc in
        let size : length text ≡ 2 * 2 = decode_sized-ok text 2 bytes h in
        let d = digits_shown text bytes (ap result_ok (sym (decode_sized-twice text 2 size) ∙ h)) in
        let two : length bytes ≡ 2 = omega (arith, d.1) in
        (subst (λ (m : ℕ). m < 2 ^ 16) value (below bytes two d.2), d.0 ∙ ap encode_lower (sym (be_bytes_2 bytes n two d.2 (sym value))), size)

refused : (text : List ℕ) → (length text ≡ 4 → ⊥) → result_ok (decode_sized text 2) ≡ None
refused text other = at_result (decode_sized text 2) refl
  where
    at_result : (r : Result (List ℕ) FromHexError) → decode_sized text 2 ≡ r → result_ok r ≡ None
    at_result (Err f) h = refl
    at_result (Ok bytes) h = absurd (other (decode_sized-ok text 2 bytes h))

-- groups are read in either case
group_lower : (text : List ℕ) → group_of (str_to_ascii_lowercase text) ≡ group_of text
group_lower text = ap (option_map (from_be_bytes w16)) (at_size (cases_eq (length text) 4))
  where
    same : length (str_to_ascii_lowercase text) ≡ length text
    same = length-map text to_ascii_lowercase

    at_size : (length text ≡ 4) ⊎ (length text ≡ 4 → ⊥) → result_ok (decode_sized (str_to_ascii_lowercase text) 2) ≡ result_ok (decode_sized text 2)
    at_size (inl size) = ap result_ok (decode_sized-twice (str_to_ascii_lowercase text) 2 (same ∙ size)) ∙ digits_lower text ∙ ap result_ok (sym (decode_sized-twice text 2 size))
    at_size (inr other) = refused (str_to_ascii_lowercase text) (λ e. other (sym same ∙ e)) ∙ sym (refused text other)

-- no colon stands in a group
group_lacks : (n : ℕ) → lacks 58 (group_text n) ≡ false
group_lacks n = digits_lack (n / 256 % 256) (n % 256) (omega arith) (omega arith)

abbrev half_value : ℕ → ℕ → ℕ → ℕ → ℕ
half_value a b c d = ((a * 2 ^ 16 + b) * 2 ^ 16 + c) * 2 ^ 16 + d

-- half an address that is written is read
half_written : (n : ℕ) → n < 2 ^ 64 → ipv6_half_of (ipv6_half_text n) ≡ Some n
unfolding ipv6_half_of ipv6_half_text
half_written n h =
    let value : half_value (n / 2 ^ 48) (n / 2 ^ 32 % 2 ^ 16) (n / 2 ^ 16 % 2 ^ 16) (n % 2 ^ 16) ≡ n = omega arith in
    four_written 58 group_of group_text half_value (n / 2 ^ 48) (n / 2 ^ 32 % 2 ^ 16) (n / 2 ^ 16 % 2 ^ 16) (n % 2 ^ 16)
    (group_lacks _) (group_lacks _) (group_lacks _)
    (group_written _ (omega arith)) (group_written _ (omega arith)) (group_written _ (omega arith)) (group_written _ (omega arith))
    ∙ ap Some value

-- half an address that is read is written so, in lower case
half_shown : (text : List ℕ) (n : ℕ) → ipv6_half_of text ≡ Some n → (n < 2 ^ 64) × (str_to_ascii_lowercase text ≡ ipv6_half_text n)
unfolding ipv6_half_of ipv6_half_text four_text
half_shown text n e =
    four_read 58 group_of half_value text n e (λ x y z w a b c d is ea eb ec ed make.
    written_so x y z w a b c d is (group_shown x a ea) (group_shown y b eb) (group_shown z c ec) (group_shown w d ed) make)
  where
    lowered : (x y z w : List ℕ) → str_to_ascii_lowercase (x ++ 58 ∷ y ++ 58 ∷ z ++ 58 ∷ w) ≡ str_to_ascii_lowercase x ++ 58 ∷ str_to_ascii_lowercase y ++ 58 ∷ str_to_ascii_lowercase z ++ 58 ∷ str_to_ascii_lowercase w
    lowered x y z w = simp (map-append)

    written_so : (x y z w : List ℕ) (a b c d : ℕ) → text ≡ x ++ 58 ∷ y ++ 58 ∷ z ++ 58 ∷ w
        → (a < 2 ^ 16) × (str_to_ascii_lowercase x ≡ group_text a) × (length x ≡ 4) → (b < 2 ^ 16) × (str_to_ascii_lowercase y ≡ group_text b) × (length y ≡ 4)
        → (c < 2 ^ 16) × (str_to_ascii_lowercase z ≡ group_text c) × (length z ≡ 4) → (d < 2 ^ 16) × (str_to_ascii_lowercase w ≡ group_text d) × (length w ≡ 4)
        → half_value a b c d ≡ n → (n < 2 ^ 64) × (str_to_ascii_lowercase text ≡ ipv6_half_text n)
    written_so x y z w a b c d is ea eb ec ed make =
        let first : a ≡ n / 2 ^ 48 = omega arith in
        let second : b ≡ n / 2 ^ 32 % 2 ^ 16 = omega arith in
        let third : c ≡ n / 2 ^ 16 % 2 ^ 16 = omega arith in
        let fourth : d ≡ n % 2 ^ 16 = omega arith in (
          omega arith,
          ap str_to_ascii_lowercase is ∙ lowered x y z w ∙ (λ i. ea.1 i ++ 58 ∷ eb.1 i ++ 58 ∷ ec.1 i ++ 58 ∷ ed.1 i)
              ∙ (λ i. group_text (first i) ++ 58 ∷ group_text (second i) ++ 58 ∷ group_text (third i) ++ 58 ∷ group_text (fourth i)),
        )

colon : (b : ℕ) → eqb (to_ascii_lowercase b) 58 ≡ eqb b 58
colon b = grind (arith, nat_tests)

-- half an address is read in either case
half_lower : (text : List ℕ) → ipv6_half_of (str_to_ascii_lowercase text) ≡ ipv6_half_of text
unfolding ipv6_half_of
half_lower text = four_lower 58 colon group_of half_value group_lower text

-- four groups have 19 characters
length-half : (n : ℕ) → length (ipv6_half_text n) ≡ 19
unfolding ipv6_half_text four_text encode_with
length-half n = refl

-- two halves round a colon
parts_joined : (x y : List ℕ) → length x ≡ 19 → length y ≡ 19 → ipv6_parts (x ++ 58 ∷ y) ≡ Some (x, y)
parts_joined x y first second =
    let size : eqb (length (x ++ 58 ∷ y)) 39 ≡ true = eq-eqb (length (x ++ 58 ∷ y)) 39 (omega (arith, length-append x (58 ∷ y))) in
    let middle : get_or (x ++ 58 ∷ y) 19 0 ≡ 58 = ap (λ (n : ℕ). get_or (x ++ 58 ∷ y) n 0) (sym first) ∙ get_or-append_seam x 58 y 0 in
    let here : eqb (get_or (x ++ 58 ∷ y) 19 0) 58 ≡ true = eq-eqb (get_or (x ++ 58 ∷ y) 19 0) 58 middle in
    let front : take 19 (x ++ 58 ∷ y) ≡ x = ap (λ (n : ℕ). take n (x ++ 58 ∷ y)) (sym first) ∙ take-append_seam x (58 ∷ y) in
    let back : drop 20 (x ++ 58 ∷ y) ≡ y = ap (λ (n : ℕ). drop n (x ++ 58 ∷ y)) (seam first) ∙ drop-append-add x (58 ∷ y) 1 in
    λ i. cond (size i && here i) (Some (front i, back i)) None
  where
    seam : length x ≡ 19 → 20 ≡ length x + 1
    seam e = omega arith

-- an address that is written is read
pub ipv6_written : (a : ℕ) → a < 2 ^ 128 → ipv6_of (ipv6_text a) ≡ Some a
unfolding ipv6_of ipv6_text
ipv6_written a h =
    let high = ipv6_half_text (a / 2 ^ 64) in
    let low = ipv6_half_text (a % 2 ^ 64) in
    let value : a / 2 ^ 64 * 2 ^ 64 + a % 2 ^ 64 ≡ a = omega arith in
    rw (parts_joined high low (length-half (a / 2 ^ 64)) (length-half (a % 2 ^ 64)), half_written (a / 2 ^ 64) (omega arith), half_written (a % 2 ^ 64) (omega arith)) (ap Some value)

-- bytes that are two halves have a colon between them
parts_shown : (text x y : List ℕ) → ipv6_parts text ≡ Some (x, y) → text ≡ x ++ 58 ∷ y
parts_shown text x y e = at_tests (eqb (length text) 39) (eqb (get_or text 19 0) 58) refl refl e
  where
    at_tests : (t u : Bool) → eqb (length text) 39 ≡ t → eqb (get_or text 19 0) 58 ≡ u → cond {A = Option (List ℕ × List ℕ)} (t && u) (Some (take 19 text, drop 20 text)) None ≡ Some (x, y) → text ≡ x ++ 58 ∷ y
    at_tests false u et eu e = absurd (cc)
    at_tests true false et eu e = absurd (cc)
    at_tests true true et eu e =
        let size : length text ≡ 39 = eqb-true (length text) 39 et in
        let middle : get_or text 19 0 ≡ 58 = eqb-true (get_or text 19 0) 58 eu in
        let ends = same_pair (take 19 text, drop 20 text) (x, y) e in
        sym (take-append-drop 19 text) ∙ ap (λ (l : List ℕ). take 19 text ++ l) (drop-cons text 19 0 (omega arith))
        ∙ (λ i. ends.0 i ++ middle i ∷ ends.1 i)

-- an address that is read is written so, in lower case
pub ipv6_shown : (text : List ℕ) (a : ℕ) → ipv6_of text ≡ Some a → (a < 2 ^ 128) × (str_to_ascii_lowercase text ≡ ipv6_text a)
unfolding ipv6_of ipv6_text
ipv6_shown text a e =
    option_and_then_some _ _ _ e (λ parts ep h. option_and_then_some _ _ _ h (λ high eh k. option_and_then_some _ _ _ k (λ low el m.
    written_so parts.0 parts.1 high low (parts_shown text parts.0 parts.1 ep) (half_shown parts.0 high eh) (half_shown parts.1 low el) (some_value (high * 2 ^ 64 + low) a m))))
  where
    some_value : (m n : ℕ) → Some m ≡ Some n → m ≡ n
    some_value m n h = cc

    written_so : (x y : List ℕ) (high low : ℕ) → text ≡ x ++ 58 ∷ y → (high < 2 ^ 64) × (str_to_ascii_lowercase x ≡ ipv6_half_text high) → (low < 2 ^ 64) × (str_to_ascii_lowercase y ≡ ipv6_half_text low)
        → high * 2 ^ 64 + low ≡ a → (a < 2 ^ 128) × (str_to_ascii_lowercase text ≡ ipv6_half_text (a / 2 ^ 64) ++ 58 ∷ ipv6_half_text (a % 2 ^ 64))
    written_so x y high low is h l make =
        let first : high ≡ a / 2 ^ 64 = omega arith in
        let second : low ≡ a % 2 ^ 64 = omega arith in (
          omega arith,
          ap str_to_ascii_lowercase is ∙ map-append to_ascii_lowercase x (58 ∷ y) ∙ (λ i. h.1 i ++ 58 ∷ l.1 i) ∙ (λ i. ipv6_half_text (first i) ++ 58 ∷ ipv6_half_text (second i)),
        )

parts_lower : (text : List ℕ) → ipv6_parts (str_to_ascii_lowercase text) ≡ option_map (λ p. (str_to_ascii_lowercase p.0, str_to_ascii_lowercase p.1)) (ipv6_parts text)
parts_lower text =
    (λ i. cond (eqb (length-map text to_ascii_lowercase i) 39 && middle i) (Some (take-map to_ascii_lowercase 19 text i, drop-map to_ascii_lowercase 20 text i)) None)
    ∙ at_test (eqb (length text) 39 && eqb (get_or text 19 0) 58)
  where
    middle : eqb (get_or (str_to_ascii_lowercase text) 19 0) 58 ≡ eqb (get_or text 19 0) 58
    middle = ap (λ (b : ℕ). eqb b 58) (get_or-map to_ascii_lowercase text 19 0) ∙ colon (get_or text 19 0)

    at_test : (t : Bool) → cond {A = Option (List ℕ × List ℕ)} t (Some (str_to_ascii_lowercase (take 19 text), str_to_ascii_lowercase (drop 20 text))) None ≡ option_map {U = List ℕ × List ℕ} (λ p. (str_to_ascii_lowercase p.0, str_to_ascii_lowercase p.1)) (cond {A = Option (List ℕ × List ℕ)} t (Some (take 19 text, drop 20 text)) None)
    at_test true = refl
    at_test false = refl

-- an address is read in either case
pub ipv6_lower : (text : List ℕ) → ipv6_of (str_to_ascii_lowercase text) ≡ ipv6_of text
unfolding ipv6_of
ipv6_lower text = ap (option_and_then both_halves) (parts_lower text) ∙ at_parts (ipv6_parts text)
  where
    both_halves : List ℕ × List ℕ → Option ℕ
    both_halves parts = option_and_then (λ a. option_and_then (λ b. Some (a * 2 ^ 64 + b)) (ipv6_half_of parts.1)) (ipv6_half_of parts.0)

    at_parts : (o : Option (List ℕ × List ℕ)) → option_and_then both_halves (option_map (λ p. (str_to_ascii_lowercase p.0, str_to_ascii_lowercase p.1)) o) ≡ option_and_then both_halves o
    at_parts None = refl
    at_parts (Some p) = λ i. option_and_then (λ a. option_and_then (λ b. Some (a * 2 ^ 64 + b)) (half_lower p.1 i)) (half_lower p.0 i)

-- an address is read exactly from what it is written as, in either case
pub ipv6_exact : (text : List ℕ) (r : Option ℕ) → r ≡ ipv6_of text → IsReadFrom ipv6_text (2 ^ 128) (str_to_ascii_lowercase text) r
ipv6_exact text None e = λ n h is. absurd (none_some n (e ∙ sym (ipv6_lower text) ∙ ap ipv6_of is ∙ ipv6_written n h))
  where
    none_some : (n : ℕ) → None ≡ Some n → ⊥
    none_some n h = cc
ipv6_exact text (Some n) e = ipv6_shown text n (sym e)
