-- As many different things as fit into a list are no more than it is long.
use Rattle.std.proofs.Common.{◌≡◌, suc, ◌≤◌, ◌≢◌, inl, inr, List, [], ◌∷◌, length, refl, ap, ◌∙◌, sym, arith}
use Rattle.mdns_asserts.proofs.Elements.{In}

module _ {Y : Type 0} where
  -- a list without one of its elements
  without_one : (y : Y) (ys : List Y) → In y ys → (zs : List Y) × (length ys ≡ suc (length zs)) × ((z : Y) → In z ys → z ≢ y → In z zs)
  without_one y [] m = absurd m
  without_one y (x ∷ xs) (inl e) = (xs, refl, of)
    where
      of : (z : Y) → In z (x ∷ xs) → z ≢ y → In z xs
      of z (inl f) off = absurd (off (f ∙ sym e))
      of z (inr n) off = n
  without_one y (x ∷ xs) (inr m) = let rest : (zs : List Y) × (length xs ≡ suc (length zs)) × ((z : Y) → In z xs → z ≢ y → In z zs) = without_one y xs m in
      (x ∷ rest.0, ap suc rest.1, of rest.0 rest.2)
    where
      of : (zs : List Y) → ((z : Y) → In z xs → z ≢ y → In z zs) → (z : Y) → In z (x ∷ xs) → z ≢ y → In z (x ∷ zs)
      of zs more z (inl f) off = inl f
      of zs more z (inr n) off = inr (more z n off)

-- what f makes of the elements of a list is different
abbrev pub AreDifferent : {X Y : Type 0} → (X → Y) → List X → Type 0
AreDifferent f [] = Unit {0}
AreDifferent {X} f (x ∷ xs) = ((other : X) → In other xs → f other ≢ f x) × AreDifferent f xs

pub no_more : {X Y : Type 0} (f : X → Y) (xs : List X) (ys : List Y) → AreDifferent f xs → ((x : X) → In x xs → In (f x) ys) → length xs ≤ length ys
no_more f [] ys different inside = omega arith
no_more {X} {Y} f (x ∷ xs) ys different inside =
    let rest : (zs : List Y) × (length ys ≡ suc (length zs)) × ((z : Y) → In z ys → z ≢ f x → In z zs) = without_one (f x) ys (inside x (inl refl)) in
    let fewer : length xs ≤ length rest.0 = no_more f xs rest.0 different.1 (λ other m. rest.2 (f other) (inside other (inr m)) (different.0 other m)) in
    let long : length ys ≡ suc (length rest.0) = rest.1 in
    omega (arith, fewer, long)
