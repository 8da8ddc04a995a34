-- Lemmas on lists that std lacks: filters in turn, and what holds of each element.
use Rattle.std.proofs.Common.{◌≡◌, suc, ◌&&◌, Bool, true, false, cond, List, [], ◌∷◌, ◌++◌, map, filter, length, refl, sym, ap, ◌∙◌}
use Rattle.std.specs.List.{AllByRecursion}

module _ {X : Type 0} (p : X → Bool) where
  -- where all pass, the filter is the list
  pub filter_all : (xs : List X) → AllByRecursion (λ x. p x ≡ true) xs → filter p xs ≡ xs
  filter_all [] h = refl
  filter_all (x ∷ xs) h = ap (λ b. cond b (x ∷ filter p xs) (filter p xs)) h.0 ∙ ap (λ l. x ∷ l) (filter_all xs h.1)

  -- a filter behind another
  pub filter-filter : (q : X → Bool) (xs : List X) → filter p (filter q xs) ≡ filter (λ x. q x && p x) xs
  filter-filter q [] = refl
  filter-filter q (x ∷ xs) = of (q x) (filter-filter q xs)
    where
      of : (b : Bool) → filter p (filter q xs) ≡ filter (λ y. q y && p y) xs →
          filter p (cond b (x ∷ filter q xs) (filter q xs)) ≡ cond (b && p x) (x ∷ filter (λ y. q y && p y) xs) (filter (λ y. q y && p y) xs)
      of true ih = ap (λ l. cond (p x) (x ∷ l) l) ih
      of false ih = ih

  -- a filter that passes less makes an earlier one needless
  pub filter_less : (q : X → Bool) → ((x : X) → q x ≡ false → p x ≡ false) → (xs : List X) → filter p (filter q xs) ≡ filter p xs
  filter_less q less [] = refl
  filter_less q less (x ∷ xs) = of (q x) refl (filter_less q less xs)
    where
      of : (b : Bool) → q x ≡ b → filter p (filter q xs) ≡ filter p xs → filter p (cond b (x ∷ filter q xs) (filter q xs)) ≡ filter p (x ∷ xs)
      of true e ih = ap (λ l. cond (p x) (x ∷ l) l) ih
      of false e ih = ih ∙ sym (ap (λ b. cond b (x ∷ filter p xs) (filter p xs)) (less x e))

  -- a change that the test doesn't see
  pub length-filter-map : (f : X → X) → ((x : X) → p (f x) ≡ p x) → (xs : List X) → length (filter p (map f xs)) ≡ length (filter p xs)
  length-filter-map f same [] = refl
  length-filter-map f same (x ∷ xs) = of (p (f x)) (p x) (same x) (length-filter-map f same xs)
    where
      of : (b c : Bool) → b ≡ c → length (filter p (map f xs)) ≡ length (filter p xs) →
          length (cond b (f x ∷ filter p (map f xs)) (filter p (map f xs))) ≡ length (cond c (x ∷ filter p xs) (filter p xs))
      of b true e ih = ap (λ d. length (cond d (f x ∷ filter p (map f xs)) (filter p (map f xs)))) e ∙ ap suc ih
      of b false e ih = ap (λ d. length (cond d (f x ∷ filter p (map f xs)) (filter p (map f xs)))) e ∙ ih

module _ {X : Type 0} (P : X → Type 0) where
  pub each-append : (xs ys : List X) → AllByRecursion P xs → AllByRecursion P ys → AllByRecursion P (xs ++ ys)
  each-append [] ys h k = k
  each-append (x ∷ xs) ys h k = (h.0, each-append xs ys h.1 k)

  pub each-filter : (p : X → Bool) (xs : List X) → AllByRecursion P xs → AllByRecursion P (filter p xs)
  each-filter p [] h = tt
  each-filter p (x ∷ xs) h = of (p x) (each-filter p xs h.1)
    where
      of : (b : Bool) → AllByRecursion P (filter p xs) → AllByRecursion P (cond b (x ∷ filter p xs) (filter p xs))
      of true ih = (h.0, ih)
      of false ih = ih

  pub each-passes : (p : X → Bool) → ((x : X) → p x ≡ true → P x) → (xs : List X) → AllByRecursion P (filter p xs)
  each-passes p gives [] = tt
  each-passes p gives (x ∷ xs) = of (p x) refl (each-passes p gives xs)
    where
      of : (b : Bool) → p x ≡ b → AllByRecursion P (filter p xs) → AllByRecursion P (cond b (x ∷ filter p xs) (filter p xs))
      of true e ih = (gives x e, ih)
      of false e ih = ih

  pub each-map : {Y : Type 0} (Q : Y → Type 0) (f : Y → X) → ((y : Y) → Q y → P (f y)) → (ys : List Y) → AllByRecursion Q ys → AllByRecursion P (map f ys)
  each-map Q f gives [] h = tt
  each-map Q f gives (y ∷ ys) h = (gives y h.0, each-map Q f gives ys h.1)

  pub each-weaker : (Q : X → Type 0) → ((x : X) → Q x → P x) → (xs : List X) → AllByRecursion Q xs → AllByRecursion P xs
  each-weaker Q gives [] h = tt
  each-weaker Q gives (x ∷ xs) h = (gives x h.0, each-weaker Q gives xs h.1)
