-- A stable sort, and then of neighbours that tie the first alone, is the list in order.
use Rattle.std.proofs.Common.{◌≡◌, ℕ, zero, suc, ◌+◌, ◌<◌, Bool, true, false, cond, not, ◌&&◌, List, [], ◌∷◌, Option, Some, None, refl, ap, ◌∙◌, sym, arith, length, get_or, Ordering, Less, Equal, Greater}
use Rattle.std.specs.Prelude.{filter}
use Rattle.std.specs.List.{list_any, list_all, find, dedup, dedup_from, AllByRecursion}
use Rattle.std.specs.List.Sorted.{IsSortedBy, IsStableBy, IsStrictlySortedBy, ties}
use Rattle.std.specs.Ordering.{is_lt, is_eq, ordering_reverse}
use Rattle.std.specs.Cmp.{IsTotalOrder}
use Rattle.std.proofs.lemmas.List.Kept.{IsStrictlySortedBy-dedup}
use Rattle.std.proofs.lemmas.Bool.{and_from, and_parts, or_parts}
use Rattle.lists.specs.Lists.{each_once, insert_by, sorted_by, ordered}
use Rattle.lists.proofs.InOrder.{tied-turned, tied-along, below-turned, tied-itself, below-apart, none-tied, all-below, any-like, rising-ordered, IsRising}

module _ {X : Type 0} (cmp : X → X → Ordering) (o : IsTotalOrder cmp) where
  abbrev tied : X → X → Bool
  tied x y = is_eq (cmp x y)

  abbrev below : X → X → Bool
  below x y = is_lt (cmp x y)

  -- an insertion leaves the first of those that tie with z what it is where the element stands in front
  find-insert : (z x : X) (ys : List X) → find (tied z) (insert_by cmp x ys) ≡ find (tied z) (x ∷ ys)
  find-insert z x [] = refl
  find-insert z x (y ∷ ys) = placed (below y x) refl (find-insert z x ys)
    where
      apart : below y x ≡ true → tied z y ≡ true → tied z x ≡ false
      apart less zy = tied-along cmp o z y x zy ∙ below-apart cmp o y x less

      swap : (a b : Bool) → (a ≡ true → b ≡ false) → cond a (Some y) (cond b (Some x) (find (tied z) ys)) ≡ cond b (Some x) (cond a (Some y) (find (tied z) ys))
      swap true true h = absurd (let e : true ≡ false = h refl in cc)
      swap true false h = refl
      swap false b h = refl

      placed : (b : Bool) → below y x ≡ b → find (tied z) (insert_by cmp x ys) ≡ find (tied z) (x ∷ ys) → find (tied z) (cond b (y ∷ insert_by cmp x ys) (x ∷ y ∷ ys)) ≡ find (tied z) (x ∷ y ∷ ys)
      placed true e ih = ap (λ (f : Option X). cond (tied z y) (Some y) f) ih ∙ swap (tied z y) (tied z x) (apart e)
      placed false e ih = refl

  find-sorted : (z : X) (ys : List X) → find (tied z) (sorted_by cmp ys) ≡ find (tied z) ys
  find-sorted z [] = refl
  find-sorted z (y ∷ ys) = find-insert z y (sorted_by cmp ys) ∙ ap (λ (f : Option X). cond (tied z y) (Some y) f) (find-sorted z ys)

  -- what ties with z doesn't tie with y, so all of it is kept
  find-filtered : (z y : X) (ws : List X) → tied z y ≡ false → find (tied z) (filter (λ w. not (tied y w)) ws) ≡ find (tied z) ws
  find-filtered z y [] e = refl
  find-filtered z y (w ∷ ws) e = at (tied y w) refl (find-filtered z y ws e)
    where
      apart : tied y w ≡ true → tied z w ≡ false
      apart yw = tied-turned cmp o z w ∙ sym (tied-along cmp o y w z yw) ∙ tied-turned cmp o y z ∙ e

      at : (b : Bool) → tied y w ≡ b → find (tied z) (filter (λ v. not (tied y v)) ws) ≡ find (tied z) ws →
          find (tied z) (cond (not b) (w ∷ filter (λ v. not (tied y v)) ws) (filter (λ v. not (tied y v)) ws)) ≡ cond (tied z w) (Some w) (find (tied z) ws)
      at true yw ih = ih ∙ ap (λ (b : Bool). cond b (Some w) (find (tied z) ws)) (sym (apart yw))
      at false yw ih = ap (λ (f : Option X). cond (tied z w) (Some w) f) ih

  find-each_once : (z : X) (ws : List X) → find (tied z) (each_once tied ws) ≡ find (tied z) ws
  find-each_once z [] = refl
  find-each_once z (w ∷ ws) = at (tied z w) refl (find-each_once z ws)
    where
      at : (b : Bool) → tied z w ≡ b → find (tied z) (each_once tied ws) ≡ find (tied z) ws →
          cond b (Some w) (find (tied z) (filter (λ v. not (tied w v)) (each_once tied ws))) ≡ cond b (Some w) (find (tied z) ws)
      at true e ih = refl
      at false e ih = find-filtered z w (each_once tied ws) e ∙ ih

  find-ordered : (z : X) (ws : List X) → find (tied z) (ordered cmp ws) ≡ find (tied z) ws
  find-ordered z ws = find-sorted z (each_once tied ws) ∙ find-each_once z ws

  find-dedup_from : (z k : X) (ws : List X) → find (tied z) (dedup_from tied k ws) ≡ find (tied z) (k ∷ ws)
  find-dedup_from z k [] = refl
  find-dedup_from z k (w ∷ ws) = at (tied w k) refl (find-dedup_from z k ws) (find-dedup_from z w ws)
    where
      same : tied w k ≡ true → tied z w ≡ tied z k
      same wk = tied-turned cmp o z w ∙ tied-along cmp o w k z wk ∙ tied-turned cmp o k z

      skip : (a b : Bool) → b ≡ a → cond a (Some k) (find (tied z) ws) ≡ cond a (Some k) (cond b (Some w) (find (tied z) ws))
      skip true b h = refl
      skip false b h = ap (λ (c : Bool). cond c (Some w) (find (tied z) ws)) (sym h)

      at : (b : Bool) → tied w k ≡ b → find (tied z) (dedup_from tied k ws) ≡ find (tied z) (k ∷ ws) → find (tied z) (dedup_from tied w ws) ≡ find (tied z) (w ∷ ws) →
          find (tied z) (cond b (dedup_from tied k ws) (k ∷ dedup_from tied w ws)) ≡ cond (tied z k) (Some k) (cond (tied z w) (Some w) (find (tied z) ws))
      at true e ik iw = ik ∙ skip (tied z k) (tied z w) (same e)
      at false e ik iw = ap (λ (f : Option X). cond (tied z k) (Some k) f) iw

  find-dedup : (z : X) (ws : List X) → find (tied z) (dedup tied ws) ≡ find (tied z) ws
  find-dedup z [] = refl
  find-dedup z (w ∷ ws) = find-dedup_from z w ws

  -- the first that passes a test heads those that pass it
  abbrev head_of : List X → Option X
  head_of [] = None
  head_of (x ∷ xs) = Some x

  find-heads : (test : X → Bool) (ws : List X) → find test ws ≡ head_of (filter test ws)
  find-heads test [] = refl
  find-heads test (w ∷ ws) = at (test w) (find-heads test ws)
    where
      at : (b : Bool) → find test ws ≡ head_of (filter test ws) → cond b (Some w) (find test ws) ≡ head_of (cond b (w ∷ filter test ws) (filter test ws))
      at true ih = refl
      at false ih = ih

  -- neither is below the other where the two tie
  ties-tied : (x y : X) → ties below x y ≡ tied x y
  ties-tied x y = at (cmp x y) (cmp y x) (o.antisymm y x)
    where
      at : (r s : Ordering) → s ≡ ordering_reverse r → (not (is_lt r) && not (is_lt s)) ≡ is_eq r
      at Less s h = refl
      at Equal s h = ap (λ (t : Ordering). not (is_lt t)) h
      at Greater s h = ap (λ (t : Ordering). not (is_lt t)) h

  find-stable : (xs ys : List X) → IsStableBy below xs ys → (z : X) → find (tied z) ys ≡ find (tied z) xs
  find-stable xs ys stable z =
      (λ i. find (λ w. sym (ties-tied z w) i) ys) ∙ find-heads (ties below z) ys ∙ ap head_of (stable z) ∙ sym (find-heads (ties below z) xs) ∙ (λ i. find (λ w. ties-tied z w i) xs)

  all-less : (x : X) (ys : List X) → AllByRecursion (λ y. cmp x y ≡ Less) ys → list_all (below x) ys ≡ true
  all-less x [] h = refl
  all-less x (y ∷ ys) h = and_from (below x y) (list_all (below x) ys) (ap is_lt h.0) (all-less x ys h.1)

  rising-strictly : (ys : List X) → IsStrictlySortedBy cmp ys → IsRising cmp o ys
  unfolding IsStrictlySortedBy
  rising-strictly [] h = tt
  rising-strictly (y ∷ ys) h = (all-less y ys h.0, rising-strictly ys h.1)

  find-none : (test : X → Bool) (ws : List X) → list_any test ws ≡ false → find test ws ≡ None
  find-none test [] h = refl
  find-none test (w ∷ ws) h =
      let parts = or_parts (test w) (list_any test ws) h in
      ap (λ (b : Bool). cond b (Some w) (find test ws)) parts.0 ∙ find-none test ws parts.1

  -- lists that rise are one where they have the same first of those that tie with anything
  same-firsts : (xs ys : List X) → IsRising cmp o xs → IsRising cmp o ys → ((z : X) → find (tied z) xs ≡ find (tied z) ys) → xs ≡ ys
  same-firsts [] [] r s h = refl
  same-firsts [] (y ∷ ys) r s h = absurd (no_way (tied y y) (find (tied y) ys) (tied-itself cmp o y) (h y))
    where
      no_way : (a : Bool) (f : Option X) → a ≡ true → None ≡ cond a (Some y) f → ⊥
      no_way true f e g = cc
      no_way false f e g = cc
  same-firsts (x ∷ xs) [] r s h = absurd (no_way (tied x x) (find (tied x) xs) (tied-itself cmp o x) (h x))
    where
      no_way : (a : Bool) (f : Option X) → a ≡ true → cond a (Some x) f ≡ None → ⊥
      no_way true f e g = cc
      no_way false f e g = cc
  same-firsts (x ∷ xs) (y ∷ ys) r s h = at (cmp x y) refl (λ same. same-firsts xs ys r.1 s.1 same)
    where
      -- an element below all of the other list isn't there
      missing : (z w : X) (zs ws : List X) → below z w ≡ true → list_all (below w) ws ≡ true → find (tied z) (z ∷ zs) ≡ find (tied z) (w ∷ ws) → ⊥
      missing z w zs ws less above e =
          let there : find (tied z) (z ∷ zs) ≡ Some z = ap (λ (b : Bool). cond b (Some z) (find (tied z) zs)) (tied-itself cmp o z) in
          let away : find (tied z) (w ∷ ws) ≡ None = find-none (tied z) (w ∷ ws) (none-tied cmp o z (w ∷ ws) (and_from (below z w) (list_all (below z) ws) less (all-below cmp o z w ws less above))) in
          cc

      firsts : tied x y ≡ true → Some x ≡ Some y
      firsts e =
          sym (ap (λ (b : Bool). cond b (Some x) (find (tied x) xs)) (tied-itself cmp o x)) ∙ h x ∙ ap (λ (b : Bool). cond b (Some y) (find (tied x) ys)) e

      tails : tied x y ≡ true → (z : X) → find (tied z) xs ≡ find (tied z) ys
      tails e z = split (tied z x) refl
        where
          zy : tied z y ≡ tied z x
          zy = tied-turned cmp o z y ∙ sym (tied-along cmp o x y z e) ∙ tied-turned cmp o x z

          split : (b : Bool) → tied z x ≡ b → find (tied z) xs ≡ find (tied z) ys
          split true zx =
              find-none (tied z) xs (any-like cmp o z x xs zx ∙ none-tied cmp o x xs r.0) ∙ sym (find-none (tied z) ys (any-like cmp o z y ys (zy ∙ zx) ∙ none-tied cmp o y ys s.0))
          split false zx =
              sym (ap (λ (b : Bool). cond b (Some x) (find (tied z) xs)) zx) ∙ h z ∙ ap (λ (b : Bool). cond b (Some y) (find (tied z) ys)) (zy ∙ zx)

      at : (c : Ordering) → cmp x y ≡ c → (((z : X) → find (tied z) xs ≡ find (tied z) ys) → xs ≡ ys) → x ∷ xs ≡ y ∷ ys
      at Less e ih = absurd (missing x y xs ys (ap is_lt e) s.0 (h x))
      at Greater e ih = absurd (missing y x ys xs (ap is_lt (o.antisymm y x ∙ ap ordering_reverse e)) r.0 (sym (h y)))
      at Equal e ih =
          let t : tied x y ≡ true = ap is_eq e in
          let first : Some x ≡ Some y = firsts t in
          let rest : xs ≡ ys = ih (tails t) in
          cc

  -- a stable sort with each once
  pub sorted-once : (xs ys : List X) → IsSortedBy below ys → IsStableBy below xs ys → dedup tied ys ≡ ordered cmp xs
  sorted-once xs ys sorted stable =
      same-firsts (dedup tied ys) (ordered cmp xs) (rising-strictly (dedup tied ys) (IsStrictlySortedBy-dedup o (λ x y. refl) ys sorted)) (rising-ordered cmp o xs)
      (λ z. find-dedup z ys ∙ find-stable xs ys stable z ∙ sym (find-ordered z xs))

  -- each of a list that rises is below the next
  rising-adjacent : (ys : List X) → IsRising cmp o ys → (k : ℕ) (d : X) → suc k < length ys → below (get_or ys (suc k) d) (get_or ys k d) ≡ false
  rising-adjacent [] r k d h = absurd (omega (arith, h))
  rising-adjacent (x ∷ []) r k d h = absurd (omega (arith, h))
  rising-adjacent (x ∷ y ∷ ys) r zero d h =
      let less : below x y ≡ true = (and_parts (below x y) (list_all (below x) ys) r.0).0 in
      below-turned cmp o y x (tied-turned cmp o y x ∙ below-apart cmp o x y less) ∙ ap not less
  rising-adjacent (x ∷ y ∷ ys) r (suc k) d h = rising-adjacent (y ∷ ys) r.1 k d (omega (arith, h))

  -- a list in order is sorted
  pub sorted-ordered : (ws : List X) → IsSortedBy below (ordered cmp ws)
  sorted-ordered ws = λ k d low high.
      let next : k + 1 ≡ suc k = omega arith in
      ap (λ (n : ℕ). below (get_or (ordered cmp ws) n d) (get_or (ordered cmp ws) k d)) next ∙ rising-adjacent (ordered cmp ws) (rising-ordered cmp o ws) k d (omega (arith, high))
