-- Addresses of IPv4 are read from what they are written as, and from nothing else.
use Rattle.std.proofs.Common.{◌≡◌, ℕ, ◌/◌, ◌%◌, ◌^◌, ◌<◌, ◌++◌, ◌∙◌, List, [], ◌∷◌, Option, Some, None, refl, sym, ap, subst, arith}
use Rattle.std.specs.Prelude.{decimal}
use Rattle.std.specs.Int.{w32, from_be_bytes}
use Rattle.number_text.specs.Digits.{IsReadFrom, decimal_below, ipv4_of, ipv4_text, four_text}
use Rattle.number_text.proofs.Decimals.{decimal_below-exact, decimal_below_written, decimal_lacks}
use Rattle.number_text.proofs.Joined.{four_written, four_read}

-- the bytes of an address make it
address_of-bytes : (a : ℕ) → a < 2 ^ 32 → from_be_bytes w32 (a / 2 ^ 24 ∷ a / 2 ^ 16 % 256 ∷ a / 2 ^ 8 % 256 ∷ a % 256 ∷ []) ≡ a
address_of-bytes a h = omega arith

-- an address that is written is read
pub ipv4_written : (a : ℕ) → a < 2 ^ 32 → ipv4_of (ipv4_text a) ≡ Some a
unfolding ipv4_of ipv4_text
ipv4_written a h =
    four_written 46 (decimal_below 256) decimal (λ b c d e. from_be_bytes w32 (b ∷ c ∷ d ∷ e ∷ [])) (a / 2 ^ 24) (a / 2 ^ 16 % 256) (a / 2 ^ 8 % 256) (a % 256)
    (decimal_lacks 46 _ refl (omega arith)) (decimal_lacks 46 _ refl (omega arith)) (decimal_lacks 46 _ refl (omega arith))
    (decimal_below_written 256 _ (omega arith) (omega arith)) (decimal_below_written 256 _ (omega arith) (omega arith)) (decimal_below_written 256 _ (omega arith) (omega arith)) (decimal_below_written 256 _ (omega arith) (omega arith))
    ∙ ap Some (address_of-bytes a h)

-- a number below 256 that is read is written so
read_byte : (text : List ℕ) (n : ℕ) → decimal_below 256 text ≡ Some n → (n < 256) × (text ≡ decimal n)
read_byte text n e = subst (λ r. IsReadFrom decimal 256 text r) e (decimal_below-exact 256 text (omega arith))

written_so : (text x y z w : List ℕ) (a b c d n : ℕ) → text ≡ x ++ 46 ∷ y ++ 46 ∷ z ++ 46 ∷ w
    → (a < 256) × (x ≡ decimal a) → (b < 256) × (y ≡ decimal b) → (c < 256) × (z ≡ decimal c) → (d < 256) × (w ≡ decimal d)
    → from_be_bytes w32 (a ∷ b ∷ c ∷ d ∷ []) ≡ n → (n < 2 ^ 32) × (text ≡ ipv4_text n)
unfolding ipv4_text four_text
written_so text x y z w a b c d n e ea eb ec ed make =
    let first : a ≡ n / 2 ^ 24 = omega arith in
    let second : b ≡ n / 2 ^ 16 % 256 = omega arith in
    let third : c ≡ n / 2 ^ 8 % 256 = omega arith in
    let fourth : d ≡ n % 256 = omega arith in (
      omega arith,
      e ∙ (λ i. ea.1 i ++ 46 ∷ eb.1 i ++ 46 ∷ ec.1 i ++ 46 ∷ ed.1 i)
          ∙ (λ i. decimal (first i) ++ 46 ∷ decimal (second i) ++ 46 ∷ decimal (third i) ++ 46 ∷ decimal (fourth i)),
    )

-- an address that is read is written so
pub ipv4_of-read : (text : List ℕ) (n : ℕ) → ipv4_of text ≡ Some n → (n < 2 ^ 32) × (text ≡ ipv4_text n)
unfolding ipv4_of
ipv4_of-read text n e =
    four_read 46 (decimal_below 256) _ text n e (λ x y z w a b c d is ea eb ec ed make.
    written_so text x y z w a b c d n is (read_byte x a ea) (read_byte y b eb) (read_byte z c ec) (read_byte w d ed) make)

-- an address is read exactly from what it is written as
pub ipv4_exact : (text : List ℕ) (r : Option ℕ) → r ≡ ipv4_of text → IsReadFrom ipv4_text (2 ^ 32) text r
ipv4_exact text None e = λ n h is. absurd (some_none n (e ∙ ap ipv4_of is ∙ ipv4_written n h))
  where
    some_none : (n : ℕ) → None ≡ Some n → ⊥
    some_none n h = cc
ipv4_exact text (Some n) e = ipv4_of-read text n (sym e)
