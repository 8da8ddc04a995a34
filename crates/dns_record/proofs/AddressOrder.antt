-- The order of addresses of IPv4 is that of their bytes.
use Rattle.std.proofs.Common.{◌≡◌, ℕ, ◌+◌, ◌*◌, ◌/◌, ◌%◌, ◌^◌, ◌<◌, ◌∙◌, Ordering, Less, Equal, Greater, subst, sym, arith}
use Rattle.std.specs.Int.{to_be_bytes, w32}
use Rattle.std.specs.Cmp.{ranks, nat_cmp_is}
use Rattle.std.specs.Cmp.Lexicographic.{slice_cmp}
use Rattle.std.specs.Ordering.{MatchOrdering, nat_cmp, ordering_then}

-- the number of four bytes
abbrev number : ℕ → ℕ → ℕ → ℕ → ℕ
number a b c d = a * 2 ^ 24 + b * 2 ^ 16 + c * 2 ^ 8 + d

by_bytes : (a b c d e f g h : ℕ) (o p q r : Ordering) → b < 256 → c < 256 → d < 256 → f < 256 → g < 256 → h < 256
    → MatchOrdering o (a < e) (a ≡ e) (e < a) → MatchOrdering p (b < f) (b ≡ f) (f < b) → MatchOrdering q (c < g) (c ≡ g) (g < c) → MatchOrdering r (d < h) (d ≡ h) (h < d)
    → MatchOrdering (ordering_then o (ordering_then p (ordering_then q (ordering_then r Equal)))) (number a b c d < number e f g h) (number a b c d ≡ number e f g h) (number e f g h < number a b c d)
by_bytes a b c d e f g h Less p q r b' c' d' f' g' h' first second third fourth = omega arith
by_bytes a b c d e f g h Greater p q r b' c' d' f' g' h' first second third fourth = omega arith
by_bytes a b c d e f g h Equal Less q r b' c' d' f' g' h' first second third fourth = omega arith
by_bytes a b c d e f g h Equal Greater q r b' c' d' f' g' h' first second third fourth = omega arith
by_bytes a b c d e f g h Equal Equal Less r b' c' d' f' g' h' first second third fourth = omega arith
by_bytes a b c d e f g h Equal Equal Greater r b' c' d' f' g' h' first second third fourth = omega arith
by_bytes a b c d e f g h Equal Equal Equal Less b' c' d' f' g' h' first second third fourth = omega arith
by_bytes a b c d e f g h Equal Equal Equal Greater b' c' d' f' g' h' first second third fourth = omega arith
by_bytes a b c d e f g h Equal Equal Equal Equal b' c' d' f' g' h' first second third fourth = omega arith

bytes_make : (x : ℕ) → x < 2 ^ 32 → number (x / 2 ^ 24 % 256) (x / 2 ^ 16 % 256) (x / 2 ^ 8 % 256) (x % 256) ≡ x
bytes_make x h = omega arith

-- addresses compare as their bytes do
pub address_order : (x y : ℕ) (r : Ordering) → x < 2 ^ 32 → y < 2 ^ 32 → r ≡ nat_cmp x y → r ≡ slice_cmp nat_cmp (to_be_bytes w32 x) (to_be_bytes w32 y)
address_order x y r h k e = e ∙ sym (nat_cmp_is x y bytes_cmp told)
  where
    bytes_cmp : Ordering
    bytes_cmp = slice_cmp nat_cmp (to_be_bytes w32 x) (to_be_bytes w32 y)

    ours : MatchOrdering bytes_cmp (number (x / 2 ^ 24 % 256) (x / 2 ^ 16 % 256) (x / 2 ^ 8 % 256) (x % 256) < number (y / 2 ^ 24 % 256) (y / 2 ^ 16 % 256) (y / 2 ^ 8 % 256) (y % 256))
        (number (x / 2 ^ 24 % 256) (x / 2 ^ 16 % 256) (x / 2 ^ 8 % 256) (x % 256) ≡ number (y / 2 ^ 24 % 256) (y / 2 ^ 16 % 256) (y / 2 ^ 8 % 256) (y % 256))
        (number (y / 2 ^ 24 % 256) (y / 2 ^ 16 % 256) (y / 2 ^ 8 % 256) (y % 256) < number (x / 2 ^ 24 % 256) (x / 2 ^ 16 % 256) (x / 2 ^ 8 % 256) (x % 256))
    ours = by_bytes _ _ _ _ _ _ _ _ _ _ _ _ (omega arith) (omega arith) (omega arith) (omega arith) (omega arith) (omega arith)
        (ranks (x / 2 ^ 24 % 256) (y / 2 ^ 24 % 256)) (ranks (x / 2 ^ 16 % 256) (y / 2 ^ 16 % 256)) (ranks (x / 2 ^ 8 % 256) (y / 2 ^ 8 % 256)) (ranks (x % 256) (y % 256))

    moved : (a b : ℕ) → a ≡ x → b ≡ y → MatchOrdering bytes_cmp (a < b) (a ≡ b) (b < a) → MatchOrdering bytes_cmp (x < y) (x ≡ y) (y < x)
    moved a b ea eb m = subst (λ (n : ℕ). MatchOrdering bytes_cmp (n < y) (n ≡ y) (y < n)) ea (subst (λ (n : ℕ). MatchOrdering bytes_cmp (a < n) (a ≡ n) (n < a)) eb m)

    told : MatchOrdering bytes_cmp (x < y) (x ≡ y) (y < x)
    told = moved _ _ (bytes_make x h) (bytes_make y k) ours
