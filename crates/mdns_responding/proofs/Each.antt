-- What holds of each element of a list, and what filters make of it.
use Rattle.std.proofs.Common.{◌≡◌, Bool, true, false, cond, ◌&&◌, List, [], ◌∷◌, ◌++◌, map, refl, ap, sym, subst, ◌∙◌, inl, inr}
use Rattle.std.specs.Prelude.{filter}
use Rattle.std.specs.List.{flat_map, AllByRecursion}
use Rattle.mdns_asserts.proofs.Elements.{In}

module _ {X : Type 0} where
  pub each_in : (P : X → Type 0) (xs : List X) → ((x : X) → In x xs → P x) → AllByRecursion P xs
  each_in P [] f = tt
  each_in P (x ∷ xs) f = (f x (inl refl), each_in P xs (λ y m. f y (inr m)))

  pub of_each : (P : X → Type 0) (xs : List X) → AllByRecursion P xs → (x : X) → In x xs → P x
  of_each P [] h x m = absurd m
  of_each P (y ∷ ys) h x (inl e) = subst P (sym e) h.0
  of_each P (y ∷ ys) h x (inr m) = of_each P ys h.1 x m

  pub filter_twice : (p q : X → Bool) (xs : List X) → filter p (filter q xs) ≡ filter (λ x. q x && p x) xs
  filter_twice p q [] = refl
  filter_twice p q (x ∷ xs) = of (q x) (filter_twice p q xs)
    where
      of : (b : Bool) → filter p (filter q xs) ≡ filter (λ y. q y && p y) xs → filter p (cond b (x ∷ filter q xs) (filter q xs)) ≡ cond (b && p x) (x ∷ filter (λ y. q y && p y) xs) (filter (λ y. q y && p y) xs)
      of true ih = ap (λ l. cond (p x) (x ∷ l) l) ih
      of false ih = ih

  -- a filter that nothing passes
  pub filter_none : (p : X → Bool) (xs : List X) → ((x : X) → p x ≡ false) → filter p xs ≡ []
  filter_none p [] h = refl
  filter_none p (x ∷ xs) h = ap (λ b. cond b (x ∷ filter p xs) (filter p xs)) (h x) ∙ filter_none p xs h

  -- two lists that are made alike of each element
  pub map_each : {Y : Type 0} (f g : X → Y) (xs : List X) → AllByRecursion (λ x. f x ≡ g x) xs → map f xs ≡ map g xs
  map_each f g [] h = refl
  map_each f g (x ∷ xs) h = λ i. h.0 i ∷ map_each f g xs h.1 i

  -- what the elements that pass a test have together, told of what is made of each
  pub all_of : {Y Z : Type 0} (h : X → Y) (p : X → Bool) (q : Y → Bool) (f : X → List Z) (g : Y → List Z) (xs : List X) → ((x : X) → f x ≡ g (h x)) → AllByRecursion (λ x. p x ≡ q (h x)) xs →
      flat_map f (filter p xs) ≡ flat_map g (filter q (map h xs))
  all_of h p q f g [] same passes = refl
  all_of h p q f g (x ∷ xs) same passes = ap (λ b. flat_map f (cond b (x ∷ filter p xs) (filter p xs))) passes.0 ∙ of (q (h x)) (all_of h p q f g xs same passes.1)
    where
      of : (b : Bool) → flat_map f (filter p xs) ≡ flat_map g (filter q (map h xs)) →
          flat_map f (cond b (x ∷ filter p xs) (filter p xs)) ≡ flat_map g (cond b (h x ∷ filter q (map h xs)) (filter q (map h xs)))
      of true ih = (λ i. same x i ++ ih i)
      of false ih = ih
