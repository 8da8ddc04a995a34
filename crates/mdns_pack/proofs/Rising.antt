-- Elements of which each is below the next are in order, each once.
use Rattle.std.proofs.Common.{◌≡◌, ℕ, suc, ◌+◌, ◌<◌, Bool, true, false, cond, not, List, [], ◌∷◌, refl, ap, ◌∙◌, sym, arith, length, get_or, Ordering}
use Rattle.std.specs.List.{dedup, dedup_from}
use Rattle.std.specs.List.Sorted.{IsSortedBy}
use Rattle.std.specs.Ordering.{is_lt, is_eq}
use Rattle.std.specs.Cmp.{IsTotalOrder}
use Rattle.lists.specs.Lists.{ordered}
use Rattle.lists.proofs.InOrder.{tied-turned, below-turned, below-apart}
use Rattle.lists.proofs.SortedOnce.{sorted-once}

module _ {X : Type 0} (cmp : X → X → Ordering) (o : IsTotalOrder cmp) where
  abbrev tied : X → X → Bool
  tied x y = is_eq (cmp x y)

  abbrev below : X → X → Bool
  below x y = is_lt (cmp x y)

  -- of the first so many each is below the next
  abbrev pub IsRisingTo : ℕ → List X → Type 0
  IsRisingTo n xs = (k : ℕ) (d : X) → suc k < n → below (get_or xs k d) (get_or xs (suc k) d) ≡ true

  -- none of them ties with the one before it
  dedup-rising : (x : X) (xs : List X) → IsRisingTo (length (x ∷ xs)) (x ∷ xs) → dedup_from tied x xs ≡ x ∷ xs
  dedup-rising x [] h = refl
  dedup-rising x (y ∷ xs) h =
      ap (λ (b : Bool). cond b (dedup_from tied x xs) (x ∷ dedup_from tied y xs)) (tied-turned cmp o y x ∙ below-apart cmp o x y (h 0 x (omega arith)))
      ∙ ap (λ (l : List X). x ∷ l) (dedup-rising y xs (λ k d low. h (suc k) d (omega (arith, low))))

  dedup-is : (xs : List X) → IsRisingTo (length xs) xs → dedup tied xs ≡ xs
  dedup-is [] h = refl
  dedup-is (x ∷ xs) h = dedup-rising x xs h

  -- what is below another isn't above it
  turned : (x y : X) → below x y ≡ true → below y x ≡ false
  turned x y less = below-turned cmp o y x (tied-turned cmp o y x ∙ below-apart cmp o x y less) ∙ ap not less

  rising-sorted : (xs : List X) → IsRisingTo (length xs) xs → IsSortedBy below xs
  rising-sorted xs h = λ k d low high.
      let next : k + 1 ≡ suc k = omega arith in
      ap (λ (n : ℕ). below (get_or xs n d) (get_or xs k d)) next ∙ turned (get_or xs k d) (get_or xs (suc k) d) (h k d (omega (arith, high)))

  pub rising-ordered : (xs : List X) → IsRisingTo (length xs) xs → ordered cmp xs ≡ xs
  rising-ordered xs h = sym (sorted-once cmp o xs xs (rising-sorted xs h) (λ z. refl)) ∙ dedup-is xs h
