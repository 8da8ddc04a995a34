-- A decimal is the print of its number.
use Rattle.std.proofs.Common.{◌≡◌, ◌≢◌, ℕ, ◌<◌, ◌≤◌, ◌^◌, ◌&&◌, ◌∙◌, Bool, true, false, cond, ltb, List, Option, Some, None, Result, Ok, Err, refl, sym, ap, subst, arith, [], ◌∷◌, ◌+◌, ◌-◌, ◌*◌, rules, eqb}
use Rattle.std.specs.Prelude.{decimal}
use Rattle.std.specs.Option.{MatchOption}
use Rattle.std.specs.Char.{is_ascii_digit}
use Rattle.std.proofs.lemmas.Str.Parse.{IsNumeralModel, numerals_by_fold}
use Rattle.number_text.proofs.Joined.{lacks}
use Rattle.std.specs.Str.{bytes_eq, all_ascii_digits}
use Rattle.std.specs.Str.Parse.{digits_value, ParsesUnsigned}
use Rattle.std.proofs.lemmas.Bool.{ne_eqb, false≢true, ltb-true, and_parts}
use Rattle.std.proofs.lemmas.Bool.Decides.{nat_tests}
use Rattle.std.proofs.lemmas.Fmt.{decimal_is_IsNumeral, digits_decimal, parse-decimal}
use Rattle.std.proofs.lemmas.Slice.Eq.{bytes_eq-Decides}
use Rattle.std.specs.Prelude.{option_and_then}
use Rattle.number_text.specs.Digits.{decimal_of, decimal_below, IsReadFrom}

-- the print of a number is read as that number
pub decimal_some : (text : List ℕ) (n : ℕ) → n < 2 ^ 64 → text ≡ decimal n → Some n ≡ decimal_of text
unfolding decimal_of
decimal_some text n small e =
    let value : digits_value 10 text ≡ n = ap (digits_value 10) e ∙ (decimal_is_IsNumeral n small).1 in
    let fits : ltb n (2 ^ 64) ≡ true = grind (arith, nat_tests) in
    let same : bytes_eq (decimal n) text ≡ true = (bytes_eq-Decides (decimal n) text).1 (sym e) in
    rw (value, fits, same) refl

-- what is the print of no number is read as none
pub decimal_none : (text : List ℕ) → ((n : ℕ) → n < 2 ^ 64 → text ≡ decimal n → ⊥) → None ≡ decimal_of text
unfolding decimal_of
decimal_none text no_number = at_test (ltb (digits_value 10 text) (2 ^ 64) && bytes_eq (decimal (digits_value 10 text)) text) refl
  where
    at_test : (b : Bool) → (ltb (digits_value 10 text) (2 ^ 64) && bytes_eq (decimal (digits_value 10 text)) text) ≡ b → None ≡ cond b (Some (digits_value 10 text)) None
    at_test false e = refl
    at_test true e =
        let p = and_parts _ _ e in
        absurd (no_number (digits_value 10 text) (ltb-true (digits_value 10 text) (2 ^ 64) p.0) (sym ((bytes_eq-Decides (decimal (digits_value 10 text)) text).0 p.1)))

-- what is read is the number whose print the text is
pub decimal_of-exact : (text : List ℕ) → IsReadFrom decimal (2 ^ 64) text (decimal_of text)
unfolding decimal_of
decimal_of-exact text = at_test (ltb (digits_value 10 text) (2 ^ 64) && bytes_eq (decimal (digits_value 10 text)) text) refl
  where
    unread : (ltb (digits_value 10 text) (2 ^ 64) && bytes_eq (decimal (digits_value 10 text)) text) ≡ false → (n : ℕ) → n < 2 ^ 64 → text ≡ decimal n → ⊥
    unread e n small is =
        let value : digits_value 10 text ≡ n = ap (digits_value 10) is ∙ (decimal_is_IsNumeral n small).1 in
        let fits : ltb n (2 ^ 64) ≡ true = grind (arith, nat_tests) in
        let same : bytes_eq (decimal n) text ≡ true = (bytes_eq-Decides (decimal n) text).1 (sym is) in
        false≢true (sym e ∙ rw (value, fits, same) refl)

    at_test : (b : Bool) → (ltb (digits_value 10 text) (2 ^ 64) && bytes_eq (decimal (digits_value 10 text)) text) ≡ b → IsReadFrom decimal (2 ^ 64) text (cond b (Some (digits_value 10 text)) None)
    at_test false e = unread e
    at_test true e =
        let p = and_parts _ _ e in
        (ltb-true (digits_value 10 text) (2 ^ 64) p.0, sym ((bytes_eq-Decides (decimal (digits_value 10 text)) text).0 p.1))

pub read_text : {E : Type 0} (text : List ℕ) (r : Option ℕ) (n : ℕ) (p : Result ℕ E) → p ≡ Ok n → ParsesUnsigned 64 10 text p → MatchOption r (text ≢ decimal n) (λ m. (m ≡ n) × (m < 2 ^ 64) × (text ≡ decimal n)) → r ≡ decimal_of text
read_text text None n p is parses h =
    decimal_none text (λ m small e. let q : p ≡ Ok m = parse-decimal 64 m text p small small e parses in
    let same : n ≡ m = cc in h (e ∙ ap (λ (k : ℕ). decimal k) (sym same)))
read_text text (Some m) n p is parses h =
    decimal_some text m h.1 (h.2 ∙ ap (λ (k : ℕ). decimal k) (sym h.0))

pub read_none : {E : Type 0} (text : List ℕ) (p : Result ℕ E) (e : E) → p ≡ Err e → ParsesUnsigned 64 10 text p → None ≡ decimal_of text
read_none text p e is parses =
    decimal_none text (λ m small same. let q : p ≡ Ok m = parse-decimal 64 m text p small small same parses in absurd (cc))

-- the same below a smaller limit
pub decimal_below-exact : (limit : ℕ) (text : List ℕ) → limit ≤ 2 ^ 64 → IsReadFrom decimal limit text (decimal_below limit text)
decimal_below-exact limit text fits = at_number (decimal_of text) (decimal_of-exact text)
  where
    at_test : (n : ℕ) → n < 2 ^ 64 → text ≡ decimal n → (b : Bool) → ltb n limit ≡ b → IsReadFrom decimal limit text (cond b (Some n) None)
    at_test n small is true e = (ltb-true n limit e, is)
    at_test n small is false e = λ m below e2. absurd (same n m small (omega arith) (sym is ∙ e2) e below)
      where
        same : (n m : ℕ) → n < 2 ^ 64 → m < 2 ^ 64 → decimal n ≡ decimal m → ltb n limit ≡ false → m < limit → ⊥
        same n m n_small m_small e is_not below =
            let equal : n ≡ m = sym (decimal_is_IsNumeral n n_small).1 ∙ ap (digits_value 10) e ∙ (decimal_is_IsNumeral m m_small).1 in
            grind (arith, nat_tests)

    at_number : (r : Option ℕ) → IsReadFrom decimal (2 ^ 64) text r → IsReadFrom decimal limit text (option_and_then (λ n. cond (ltb n limit) (Some n) None) r)
    at_number None h = λ n below e. h n (omega arith) e
    at_number (Some n) h = at_test n h.0 h.1 (ltb n limit) refl

-- the print of a number below the limit is read as that number
pub decimal_below_written : (limit n : ℕ) → limit ≤ 2 ^ 64 → n < limit → decimal_below limit (decimal n) ≡ Some n
decimal_below_written limit n fits h = at_result (decimal_below limit (decimal n)) (decimal_below-exact limit (decimal n) fits)
  where
    at_result : (r : Option ℕ) → IsReadFrom decimal limit (decimal n) r → r ≡ Some n
    at_result None k = absurd (k n h refl)
    at_result (Some m) k =
        ap Some (sym (decimal_is_IsNumeral m (omega arith)).1 ∙ ap (digits_value 10) (sym k.1) ∙ (decimal_is_IsNumeral n (omega arith)).1)

-- an answer that is the definition's is read exactly from its print
pub decimal_exact : (text : List ℕ) (r : Option ℕ) → r ≡ decimal_of text → IsReadFrom decimal (2 ^ 64) text r
decimal_exact text r e = subst (λ (o : Option ℕ). IsReadFrom decimal (2 ^ 64) text o) (sym e) (decimal_of-exact text)

pub decimal_below_exact : (limit : ℕ) (text : List ℕ) (r : Option ℕ) → limit ≤ 2 ^ 64 → r ≡ decimal_below limit text → IsReadFrom decimal limit text r
decimal_below_exact limit text r fits e = subst (λ (o : Option ℕ). IsReadFrom decimal limit text o) (sym e) (decimal_below-exact limit text fits)

-- the print of a number is read as that number
pub decimal_written : (n : ℕ) → n < 2 ^ 64 → decimal_of (decimal n) ≡ Some n
decimal_written n h = sym (decimal_some (decimal n) n h refl)

-- digits have no other byte
digits_lack : (c : ℕ) (ds : List ℕ) → is_ascii_digit c ≡ false → all_ascii_digits ds ≡ true → lacks c ds ≡ false
digits_lack c [] h k = refl
digits_lack c (d ∷ ds) h k =
    let p = and_parts (is_ascii_digit d) (all_ascii_digits ds) k in
    let other : eqb d c ≡ false = ne_eqb d c (λ e. false≢true (sym h ∙ ap is_ascii_digit (sym e) ∙ p.0)) in
    rw (other, digits_lack c ds h p.1) refl

abbrev read_on : ℕ → List ℕ → ℕ
read_on n [] = n
read_on n (c ∷ cs) = read_on (10 * n + (c - 48)) cs

own : IsNumeralModel (λ ds. all_ascii_digits ds ≡ true) (read_on 0)
own = numerals_by_fold _ (search rules) read_on (search rules)

-- nothing but digits stands in a decimal
pub decimal_lacks : (c n : ℕ) → is_ascii_digit c ≡ false → n < 2 ^ 64 → lacks c (decimal n) ≡ false
decimal_lacks c n h small = digits_lack c (decimal n) h (digits_decimal own n small)
