-- The least number of a list with one more, and of two lists.
use Rattle.std.proofs.Common.{◌≡◌, ℕ, min, List, [], ◌∷◌, ◌++◌, refl, ap, sym, ◌∙◌, arith}
use Rattle.lists.specs.Lists.{least_of}

-- one more number may stand among those of which the least is sought, or be taken into the first
pub least_of-min : (n m : ℕ) (ms : List ℕ) → least_of (min n m) ms ≡ min m (least_of n ms)
least_of-min n m [] = omega arith
least_of-min n m (k ∷ ms) = ap (λ l. min k l) (least_of-min n m ms) ∙ turned k m (least_of n ms)
  where
    turned : (a b c : ℕ) → min a (min b c) ≡ min b (min a c)
    turned a b c = omega arith

pub least_of-append : (n : ℕ) (xs ys : List ℕ) → least_of n (xs ++ ys) ≡ least_of (least_of n xs) ys
least_of-append n [] ys = refl
least_of-append n (x ∷ xs) ys =
    ap (λ l. min x l) (least_of-append n xs ys) ∙ sym (least_of-min (least_of n xs) x ys) ∙ ap (λ l. least_of l ys) (turned (least_of n xs) x)
  where
    turned : (a b : ℕ) → min a b ≡ min b a
    turned a b = omega arith
