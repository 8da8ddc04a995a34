-- Lists that are changed at a place.
use Rattle.std.proofs.Common.{◌≡◌, ℕ, zero, suc, ◌<◌, ◌≤◌, Bool, true, false, cond, List, [], ◌∷◌, length, map, get_or, set, refl, ap, ◌∙◌, arith}
use Rattle.std.specs.Prelude.{filter}
use Rattle.std.specs.List.{insert, remove, AllByRecursion}

-- what stands at a place
pub element : {X : Type 0} (xs : List X) (i : ℕ) → i < length xs → (x : X) × (x ≡ get_or xs i x)
element [] i h = absurd (omega arith)
element (x ∷ xs) zero h = (x, refl)
element (x ∷ xs) (suc i) h = element xs i (omega arith)

module _ {X : Type 0} (P : X → Type 0) where
  pub each_at : (xs : List X) (i : ℕ) (d : X) → i < length xs → AllByRecursion P xs → P (get_or xs i d)
  each_at [] i d h all = absurd (omega arith)
  each_at (x ∷ xs) zero d h all = all.0
  each_at (x ∷ xs) (suc i) d h all = each_at xs i d (omega arith) all.1

  pub each_set : (xs : List X) (i : ℕ) (v : X) → P v → AllByRecursion P xs → AllByRecursion P (set xs i v)
  each_set [] i v h all = tt
  each_set (x ∷ xs) zero v h all = (h, all.1)
  each_set (x ∷ xs) (suc i) v h all = (all.0, each_set xs i v h all.1)

  pub each_insert : (xs : List X) (i : ℕ) (v : X) → i ≤ length xs → P v → AllByRecursion P xs → AllByRecursion P (insert xs i v)
  each_insert [] zero v h p all = (p, tt)
  each_insert [] (suc i) v h p all = absurd (omega arith)
  each_insert (x ∷ xs) zero v h p all = (p, all)
  each_insert (x ∷ xs) (suc i) v h p all = (all.0, each_insert xs i v (omega arith) p all.1)

  pub each_remove : (xs : List X) (i : ℕ) → AllByRecursion P xs → AllByRecursion P (remove xs i)
  each_remove [] zero all = tt
  each_remove [] (suc i) all = tt
  each_remove (x ∷ xs) zero all = all.1
  each_remove (x ∷ xs) (suc i) all = (all.0, each_remove xs i all.1)

module _ {X Y : Type 0} (f : X → Y) where
  pub map_insert : (xs : List X) (i : ℕ) (v : X) → i ≤ length xs → map f (insert xs i v) ≡ insert (map f xs) i (f v)
  map_insert [] zero v h = refl
  map_insert [] (suc i) v h = absurd (omega arith)
  map_insert (x ∷ xs) zero v h = refl
  map_insert (x ∷ xs) (suc i) v h = ap (λ l. f x ∷ l) (map_insert xs i v (omega arith))

  pub map_remove : (xs : List X) (i : ℕ) → map f (remove xs i) ≡ remove (map f xs) i
  map_remove [] zero = refl
  map_remove [] (suc i) = refl
  map_remove (x ∷ xs) zero = refl
  map_remove (x ∷ xs) (suc i) = ap (λ l. f x ∷ l) (map_remove xs i)

-- those that pass a test, where all pass it, and where all but one at a place do
module _ {X : Type 0} (p : X → Bool) where
  pub all_pass : (xs : List X) → AllByRecursion (λ x. p x ≡ true) xs → filter p xs ≡ xs
  all_pass [] h = refl
  all_pass (x ∷ xs) h = ap (λ (b : Bool). cond b (x ∷ filter p xs) (filter p xs)) h.0 ∙ ap (λ (l : List X). x ∷ l) (all_pass xs h.1)

  pub all_but_one : (xs : List X) (i : ℕ) (v : X) → i < length xs → p v ≡ false → AllByRecursion (λ x. p x ≡ true) xs → filter p (set xs i v) ≡ remove xs i
  all_but_one [] i v h fails all = absurd (omega arith)
  all_but_one (x ∷ xs) zero v h fails all = ap (λ (b : Bool). cond b (v ∷ filter p xs) (filter p xs)) fails ∙ all_pass xs all.1
  all_but_one (x ∷ xs) (suc i) v h fails all =
      ap (λ (b : Bool). cond b (x ∷ filter p (set xs i v)) (filter p (set xs i v))) all.0 ∙ ap (λ (l : List X). x ∷ l) (all_but_one xs i v (omega arith) fails all.1)
