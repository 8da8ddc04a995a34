-- A stable sort gives the list in order, those that tie in the order in which they stood.
use Rattle.std.proofs.Common.{◌≡◌, ℕ, zero, suc, ◌+◌, ◌<◌, ◌≤◌, Bool, true, false, cond, not, ◌&&◌, List, [], ◌∷◌, ◌++◌, refl, ap, ◌∙◌, sym, arith, length, get_or, Ordering, Less, Equal, Greater}
use Rattle.std.specs.Prelude.{filter}
use Rattle.std.specs.List.{list_any, flat_map}
use Rattle.std.specs.List.Sorted.{IsSortedBy, IsStableBy, ties}
use Rattle.std.specs.Ordering.{is_lt, is_eq, ordering_reverse}
use Rattle.std.specs.Cmp.{IsTotalOrder}
use Rattle.std.proofs.lemmas.Bool.{or_from, or_parts}
use Rattle.std.proofs.lemmas.Cmp.{alike_right}
use Rattle.std.proofs.lemmas.List.Elements.{filter-append}
use Rattle.std.proofs.lemmas.List.Sorted.{ranks_by, sorted_far}
use Rattle.lists.specs.Lists.{insert_by, sorted_by, ordered}
use Rattle.lists.proofs.InOrder.{any-insert, tied-turned, tied-along, tied-itself}
use Rattle.lists.proofs.SortedOnce.{sorted-once}

module _ {X : Type 0} (cmp : X → X → Ordering) (o : IsTotalOrder cmp) where
  abbrev tied : X → X → Bool
  tied x y = is_eq (cmp x y)

  abbrev below : X → X → Bool
  below x y = is_lt (cmp x y)

  -- none is below one before it
  abbrev IsLevel : List X → Type 0
  IsLevel [] = Unit {0}
  IsLevel (x ∷ xs) = (list_any (λ y. below y x) xs ≡ false) × IsLevel xs

  lt_is : (r : Ordering) → is_lt r ≡ true → r ≡ Less
  lt_is Less e = refl
  lt_is Equal e = absurd (cc)
  lt_is Greater e = absurd (cc)

  not_less : (r : Ordering) → r ≡ Less → is_lt r ≡ false → ⊥
  not_less Less h k = cc
  not_less Equal h k = cc
  not_less Greater h k = cc

  -- of two the one isn't below the other that is below it
  turned : (x y : X) → below x y ≡ true → below y x ≡ false
  turned x y e = ap is_lt (o.antisymm y x ∙ ap ordering_reverse (lt_is (cmp x y) e))

  -- what isn't below something that isn't below another isn't below that, too
  not-below : (x y w : X) → below y x ≡ false → below w y ≡ false → below w x ≡ false
  not-below x y w yx wy = which (below w x) refl
    where
      at : below w x ≡ true → (r : Ordering) → cmp x y ≡ r → ⊥
      at wx Less e = not_less (cmp w y) (o.trans w x y (lt_is (cmp w x) wx) e) wy
      at wx Equal e = not_less (cmp w y) (sym (alike_right o x y w e) ∙ lt_is (cmp w x) wx) wy
      at wx Greater e = not_less (cmp y x) (o.antisymm y x ∙ ap ordering_reverse e) yx

      which : (b : Bool) → below w x ≡ b → below w x ≡ false
      which true e = absurd (at e (cmp x y) refl)
      which false e = e

  none-below : (x y : X) (ws : List X) → below y x ≡ false → list_any (λ w. below w y) ws ≡ false → list_any (λ w. below w x) ws ≡ false
  none-below x y [] e h = refl
  none-below x y (w ∷ ws) e h =
      let parts = or_parts (below w y) (list_any (λ v. below v y) ws) h in
      or_from (below w x) (list_any (λ v. below v x) ws) (not-below x y w e parts.0) (none-below x y ws e parts.1)

  level-insert : (x : X) (ys : List X) → IsLevel ys → IsLevel (insert_by cmp x ys)
  level-insert x [] h = (refl, tt)
  level-insert x (y ∷ ys) h = placed (below y x) refl (level-insert x ys h.1)
    where
      placed : (b : Bool) → below y x ≡ b → IsLevel (insert_by cmp x ys) → IsLevel (cond b (y ∷ insert_by cmp x ys) (x ∷ y ∷ ys))
      placed true e ih = (any-insert cmp (λ w. below w y) x ys ∙ or_from (below x y) (list_any (λ w. below w y) ys) (turned y x e) h.0, ih)
      placed false e ih = (or_from (below y x) (list_any (λ w. below w x) ys) e (none-below x y ys e h.0), h)

  level-sorted : (ys : List X) → IsLevel (sorted_by cmp ys)
  level-sorted [] = tt
  level-sorted (y ∷ ys) = level-insert y (sorted_by cmp ys) (level-sorted ys)

  -- an insertion puts an element before those that tie with it
  filter-insert : (z x : X) (ys : List X) → filter (tied z) (insert_by cmp x ys) ≡ filter (tied z) (x ∷ ys)
  filter-insert z x [] = refl
  filter-insert z x (y ∷ ys) = placed (below y x) refl (filter-insert z x ys)
    where
      kept : List X
      kept = filter (tied z) ys

      apart : below y x ≡ true → tied z y ≡ true → tied z x ≡ false
      apart less zy = tied-along cmp o z y x zy ∙ ap is_eq (lt_is (cmp y x) less)

      swap : (a b : Bool) → (a ≡ true → b ≡ false) → cond a (y ∷ cond b (x ∷ kept) kept) (cond b (x ∷ kept) kept) ≡ cond b (x ∷ cond a (y ∷ kept) kept) (cond a (y ∷ kept) kept)
      swap true true h = absurd (let e : true ≡ false = h refl in cc)
      swap true false h = refl
      swap false b h = refl

      placed : (b : Bool) → below y x ≡ b → filter (tied z) (insert_by cmp x ys) ≡ filter (tied z) (x ∷ ys) →
          filter (tied z) (cond b (y ∷ insert_by cmp x ys) (x ∷ y ∷ ys)) ≡ filter (tied z) (x ∷ y ∷ ys)
      placed true e ih = ap (λ (l : List X). cond (tied z y) (y ∷ l) l) ih ∙ swap (tied z y) (tied z x) (apart e)
      placed false e ih = refl

  filter-sorted : (z : X) (ys : List X) → filter (tied z) (sorted_by cmp ys) ≡ filter (tied z) ys
  filter-sorted z [] = refl
  filter-sorted z (y ∷ ys) = filter-insert z y (sorted_by cmp ys) ∙ ap (λ (l : List X). cond (tied z y) (y ∷ l) l) (filter-sorted z ys)

  -- what is below one ties with none behind it
  none-tied : (x y : X) (ws : List X) → below x y ≡ true → list_any (λ w. below w y) ws ≡ false → filter (tied x) ws ≡ []
  none-tied x y [] e h = refl
  none-tied x y (w ∷ ws) e h =
      let parts = or_parts (below w y) (list_any (λ v. below v y) ws) h in
      ap (λ (b : Bool). cond b (w ∷ filter (tied x) ws) (filter (tied x) ws)) (apart parts.0) ∙ none-tied x y ws e parts.1
    where
      at : below w y ≡ false → (r : Ordering) → cmp x w ≡ r → is_eq r ≡ false
      at wy Less k = refl
      at wy Equal k = absurd (not_less (cmp w y) (sym (o.congr x w y k) ∙ lt_is (cmp x y) e) wy)
      at wy Greater k = refl

      apart : below w y ≡ false → tied x w ≡ false
      apart wy = at wy (cmp x w) refl

  -- lists in order are one where each has the same elements that tie with anything
  same-level : (xs ys : List X) → IsLevel xs → IsLevel ys → ((z : X) → filter (tied z) xs ≡ filter (tied z) ys) → xs ≡ ys
  same-level [] [] r s h = refl
  same-level [] (y ∷ ys) r s h = absurd (no_way (tied y y) (tied-itself cmp o y) (h y))
    where
      no_way : (a : Bool) → a ≡ true → [] ≡ cond a (y ∷ filter (tied y) ys) (filter (tied y) ys) → ⊥
      no_way true e g = cc
      no_way false e g = cc
  same-level (x ∷ xs) [] r s h = absurd (no_way (tied x x) (tied-itself cmp o x) (h x))
    where
      no_way : (a : Bool) → a ≡ true → cond a (x ∷ filter (tied x) xs) (filter (tied x) xs) ≡ [] → ⊥
      no_way true e g = cc
      no_way false e g = cc
  same-level (x ∷ xs) (y ∷ ys) r s h = at (cmp x y) refl (λ same. same-level xs ys r.1 s.1 same)
    where
      -- an element below all of the other list isn't there
      missing : (z w : X) (zs ws : List X) → below z w ≡ true → list_any (λ v. below v w) ws ≡ false → filter (tied z) (z ∷ zs) ≡ filter (tied z) (w ∷ ws) → ⊥
      missing z w zs ws less above e =
          let there : filter (tied z) (z ∷ zs) ≡ z ∷ filter (tied z) zs = ap (λ (b : Bool). cond b (z ∷ filter (tied z) zs) (filter (tied z) zs)) (tied-itself cmp o z) in
          let away : filter (tied z) (w ∷ ws) ≡ [] =
          ap (λ (b : Bool). cond b (w ∷ filter (tied z) ws) (filter (tied z) ws)) (ap is_eq (lt_is (cmp z w) less)) ∙ none-tied z w ws less above in
          cc

      heads : (z : X) → tied z x ≡ true → tied z y ≡ true → x ∷ filter (tied z) xs ≡ y ∷ filter (tied z) ys
      heads z zx zy =
          sym (ap (λ (b : Bool). cond b (x ∷ filter (tied z) xs) (filter (tied z) xs)) zx) ∙ h z ∙ ap (λ (b : Bool). cond b (y ∷ filter (tied z) ys) (filter (tied z) ys)) zy

      tails : tied x y ≡ true → (z : X) → filter (tied z) xs ≡ filter (tied z) ys
      tails e z = split (tied z x) refl
        where
          zy : tied z y ≡ tied z x
          zy = tied-turned cmp o z y ∙ sym (tied-along cmp o x y z e) ∙ tied-turned cmp o x z

          split : (b : Bool) → tied z x ≡ b → filter (tied z) xs ≡ filter (tied z) ys
          split true zx = let both : x ∷ filter (tied z) xs ≡ y ∷ filter (tied z) ys = heads z zx (zy ∙ zx) in cc
          split false zx =
              sym (ap (λ (b : Bool). cond b (x ∷ filter (tied z) xs) (filter (tied z) xs)) zx) ∙ h z
              ∙ ap (λ (b : Bool). cond b (y ∷ filter (tied z) ys) (filter (tied z) ys)) (zy ∙ zx)

      at : (c : Ordering) → cmp x y ≡ c → (((z : X) → filter (tied z) xs ≡ filter (tied z) ys) → xs ≡ ys) → x ∷ xs ≡ y ∷ ys
      at Less e ih = absurd (missing x y xs ys (ap is_lt e) s.0 (h x))
      at Greater e ih = absurd (missing y x ys xs (ap is_lt (o.antisymm y x ∙ ap ordering_reverse e)) r.0 (sym (h y)))
      at Equal e ih =
          let t : tied x y ≡ true = ap is_eq e in
          let both : x ∷ filter (tied x) xs ≡ y ∷ filter (tied x) ys = heads x (tied-itself cmp o x) t in
          let rest : xs ≡ ys = ih (tails t) in
          cc

  -- what holds of no index holds of none
  none-from : (t : X → Bool) (xs : List X) → ((j : ℕ) (d : X) → j < length xs → t (get_or xs j d) ≡ false) → list_any t xs ≡ false
  none-from t [] h = refl
  none-from t (x ∷ xs) h = or_from (t x) (list_any t xs) (h 0 x (omega arith)) (none-from t xs (λ j d low. h (suc j) d (omega (arith, low))))

  level-far : (xs : List X) → ((i j : ℕ) (d : X) → i ≤ j → j < length xs → below (get_or xs j d) (get_or xs i d) ≡ false) → IsLevel xs
  level-far [] h = tt
  level-far (x ∷ xs) h = (
    none-from (λ y. below y x) xs (λ j d low. h 0 (suc j) d (omega arith) (omega (arith, low))),
    level-far xs (λ i j d low high. h (suc i) (suc j) d (omega (arith, low)) (omega (arith, high))),
  )

  level-from_sorted : (xs : List X) → IsSortedBy below xs → IsLevel xs
  level-from_sorted xs up = level-far xs (sorted_far below (ranks_by o (λ x. x)) xs up)

  -- neither is below the other where the two tie
  ties-tied : (x y : X) → ties below x y ≡ tied x y
  ties-tied x y = at (cmp x y) (cmp y x) (o.antisymm y x)
    where
      at : (r s : Ordering) → s ≡ ordering_reverse r → (not (is_lt r) && not (is_lt s)) ≡ is_eq r
      at Less s h = refl
      at Equal s h = ap (λ (t : Ordering). not (is_lt t)) h
      at Greater s h = ap (λ (t : Ordering). not (is_lt t)) h

  pub sorted-stably : (xs ys : List X) → IsSortedBy below ys → IsStableBy below xs ys → ys ≡ sorted_by cmp xs
  sorted-stably xs ys sorted stable =
      same-level ys (sorted_by cmp xs) (level-from_sorted ys sorted) (level-sorted xs)
      (λ z. (λ i. filter (λ w. sym (ties-tied z w) i) ys) ∙ stable z ∙ (λ i. filter (λ w. ties-tied z w i) xs) ∙ sym (filter-sorted z xs))

  -- ---- Lists that are sorted before they are put together give the same in order, each once.

  level-adjacent : (ys : List X) → IsLevel ys → (k : ℕ) (d : X) → suc k < length ys → below (get_or ys (suc k) d) (get_or ys k d) ≡ false
  level-adjacent [] r k d h = absurd (omega (arith, h))
  level-adjacent (x ∷ []) r k d h = absurd (omega (arith, h))
  level-adjacent (x ∷ y ∷ ys) r zero d h = (or_parts (below y x) (list_any (λ w. below w x) ys) r.0).0
  level-adjacent (x ∷ y ∷ ys) r (suc k) d h = level-adjacent (y ∷ ys) r.1 k d (omega (arith, h))

  sorted-sorted : (ws : List X) → IsSortedBy below (sorted_by cmp ws)
  sorted-sorted ws = λ k d low high.
      let next : k + 1 ≡ suc k = omega arith in
      ap (λ (n : ℕ). below (get_or (sorted_by cmp ws) n d) (get_or (sorted_by cmp ws) k d)) next ∙ level-adjacent (sorted_by cmp ws) (level-sorted ws) k d (omega (arith, high))

  stable-from : (xs ys : List X) → ((z : X) → filter (tied z) ys ≡ filter (tied z) xs) → IsStableBy below xs ys
  stable-from xs ys h = λ z. (λ i. filter (λ w. ties-tied z w i) ys) ∙ h z ∙ (λ i. filter (λ w. sym (ties-tied z w) i) xs)

  -- lists are the same in order where they have the same elements that tie with anything
  ordered-alike : (xs ws : List X) → ((z : X) → filter (tied z) xs ≡ filter (tied z) ws) → ordered cmp xs ≡ ordered cmp ws
  ordered-alike xs ws h =
      sym (sorted-once cmp o xs (sorted_by cmp xs) (sorted-sorted xs) (stable-from xs (sorted_by cmp xs) (λ z. filter-sorted z xs)))
      ∙ sorted-once cmp o ws (sorted_by cmp xs) (sorted-sorted xs) (stable-from ws (sorted_by cmp xs) (λ z. filter-sorted z xs ∙ h z))

  pub ordered_sorted : {K : Type 0} (f : K → List X) (ks : List K) → ordered cmp (flat_map (λ k. sorted_by cmp (f k)) ks) ≡ ordered cmp (flat_map f ks)
  ordered_sorted {K} f ks = ordered-alike (flat_map (λ k. sorted_by cmp (f k)) ks) (flat_map f ks) (λ z. each z ks)
    where
      each : (z : X) (ks : List K) → filter (tied z) (flat_map (λ k. sorted_by cmp (f k)) ks) ≡ filter (tied z) (flat_map f ks)
      each z [] = refl
      each z (k ∷ ks) =
          filter-append (tied z) (sorted_by cmp (f k)) (flat_map (λ k. sorted_by cmp (f k)) ks) ∙ (λ i. filter-sorted z (f k) i ++ each z ks i)
          ∙ sym (filter-append (tied z) (f k) (flat_map f ks))
