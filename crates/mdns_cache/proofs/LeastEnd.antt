-- The least end: of a list that is read from the front, and of a permutation.
use Rattle.std.proofs.Common.{◌≡◌, ℕ, ◌+◌, ◌<◌, min, List, [], ◌∷◌, ◌++◌, map, take, length, get_or, Some, refl, sym, ap, ◌∙◌, arith, IsPermutation}
use Rattle.std.proofs.lemmas.List.{take_more, map-append}
use Rattle.std.proofs.lemmas.List.Sorted.{length_permutation}
use Rattle.lists.specs.Lists.{least_of}
use Rattle.mdns_history.specs.declared.held.Held.{Held}
use Rattle.mdns_cache.specs.Lifetimes.{next_end_of}
use Rattle.lists.proofs.Permutations.{along_permutation}

abbrev pub end_of : Held → ℕ
end_of one = one.end

min_swap : (a b c : ℕ) → min a (min b c) ≡ min b (min a c)
min_swap a b c = omega arith

-- one more at the end
pub least_of-push : (n m : ℕ) (ms : List ℕ) → least_of n (ms ++ m ∷ []) ≡ min (least_of n ms) m
least_of-push n m [] = omega arith
least_of-push n m (k ∷ ms) = ap (λ l. min k l) (least_of-push n m ms) ∙ turned k (least_of n ms) m
  where
    turned : (a b c : ℕ) → min a (min b c) ≡ min (min a b) c
    turned a b c = omega arith

-- the two least in either order
least_of-turned : (n m : ℕ) (ms : List ℕ) → min m (least_of n ms) ≡ min n (least_of m ms)
least_of-turned n m [] = omega arith
least_of-turned n m (k ∷ ms) = min_swap m k (least_of n ms) ∙ ap (λ l. min k l) (least_of-turned n m ms) ∙ min_swap k n (least_of m ms)

-- the same of a permutation
least_of-permutation : (xs ys : List Held) → IsPermutation xs ys → (n : ℕ) → least_of n (map end_of xs) ≡ least_of n (map end_of ys)
least_of-permutation = along_permutation (λ xs ys. (n : ℕ) → least_of n (map end_of xs) ≡ least_of n (map end_of ys))
    (λ xs n. refl)
    (λ x xs ys h n. ap (λ l. min x.end l) (h n))
    (λ x y xs n. min_swap x.end y.end (least_of n (map end_of xs)))
    (λ xs ys zs h k n. h n ∙ k n)

pub next_end_of-permutation : (xs ys : List Held) → IsPermutation xs ys → next_end_of xs ≡ next_end_of ys
next_end_of-permutation [] [] p = refl
next_end_of-permutation [] (y ∷ ys) p = absurd (omega (arith, length_permutation _ _ p))
next_end_of-permutation (x ∷ xs) [] p = absurd (omega (arith, length_permutation _ _ p))
next_end_of-permutation (x ∷ xs) (y ∷ ys) p = ap Some (same (least_of x.end (map end_of xs)) (least_of y.end (map end_of ys)) under)
  where
    under : (n : ℕ) → min n (least_of x.end (map end_of xs)) ≡ min n (least_of y.end (map end_of ys))
    under n = sym (least_of-turned n x.end (map end_of xs)) ∙ least_of-permutation (x ∷ xs) (y ∷ ys) p n ∙ least_of-turned n y.end (map end_of ys)

    same : (a b : ℕ) → ((n : ℕ) → min n a ≡ min n b) → a ≡ b
    same a b h = let e : min (a + b) a ≡ min (a + b) b = h (a + b) in omega arith

-- a loop's step
pub least_of-more : (n : ℕ) (held : List Held) (i : ℕ) (one : Held) → i < length held → one ≡ get_or held i one →
    least_of n (map end_of (take (i + 1) held)) ≡ min (least_of n (map end_of (take i held))) one.end
least_of-more n held i one within is =
    ap (λ l. least_of n (map end_of l)) (take_more held i one within ∙ ap (λ x. take i held ++ x ∷ []) (sym is))
    ∙ ap (λ l. least_of n l) (map-append end_of (take i held) (one ∷ []))
    ∙ least_of-push n one.end (map end_of (take i held))
