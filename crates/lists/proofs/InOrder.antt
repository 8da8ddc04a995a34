-- Lists in order, each element once: what an insertion, a sort and the first of those that tie leave.
use Rattle.std.proofs.Common.{◌≡◌, Bool, true, false, cond, not, ◌&&◌, ◌||◌, List, [], ◌∷◌, refl, ap, ◌∙◌, sym, Ordering, Less, Equal, Greater}
use Rattle.std.specs.Prelude.{filter}
use Rattle.std.specs.List.{list_any, list_all}
use Rattle.std.specs.Ordering.{is_lt, is_eq, ordering_reverse}
use Rattle.std.specs.Cmp.{IsTotalOrder, tied_itself}
use Rattle.std.proofs.lemmas.Bool.{and_from, and_parts, or_from, or_left, or_parts}
use Rattle.lists.specs.Lists.{each_once, insert_by, sorted_by, ordered}

module _ {X : Type 0} where
  -- which of those that pass a test are there
  pub any-filter : (t p : X → Bool) (xs : List X) → list_any t (filter p xs) ≡ list_any (λ x. p x && t x) xs
  any-filter t p [] = refl
  any-filter t p (x ∷ xs) = kept (p x) (any-filter t p xs)
    where
      kept : (b : Bool) → list_any t (filter p xs) ≡ list_any (λ x. p x && t x) xs → list_any t (cond b (x ∷ filter p xs) (filter p xs)) ≡ ((b && t x) || list_any (λ x. p x && t x) xs)
      kept true ih = ap (λ (b : Bool). t x || b) ih
      kept false ih = ih

  -- what isn't among some isn't among those of them that pass a test
  pub none-filter : (t p : X → Bool) (xs : List X) → list_any t xs ≡ false → list_any t (filter p xs) ≡ false
  none-filter t p [] h = refl
  none-filter t p (x ∷ xs) h = kept (p x) (none-filter t p xs parts.1)
    where
      parts : (t x ≡ false) × (list_any t xs ≡ false)
      parts = or_parts (t x) (list_any t xs) h

      kept : (b : Bool) → list_any t (filter p xs) ≡ false → list_any t (cond b (x ∷ filter p xs) (filter p xs)) ≡ false
      kept true ih = or_from (t x) (list_any t (filter p xs)) parts.0 ih
      kept false ih = ih

  -- what holds of each holds of each that passes a test
  pub all-filter : (t p : X → Bool) (xs : List X) → list_all t xs ≡ true → list_all t (filter p xs) ≡ true
  all-filter t p [] h = refl
  all-filter t p (x ∷ xs) h = kept (p x) (all-filter t p xs parts.1)
    where
      parts : (t x ≡ true) × (list_all t xs ≡ true)
      parts = and_parts (t x) (list_all t xs) h

      kept : (b : Bool) → list_all t (filter p xs) ≡ true → list_all t (cond b (x ∷ filter p xs) (filter p xs)) ≡ true
      kept true ih = and_from (t x) (list_all t (filter p xs)) parts.0 ih
      kept false ih = ih

module _ {X : Type 0} (cmp : X → X → Ordering) where
  -- an insertion adds one element, and no order changes which are there
  pub any-insert : (t : X → Bool) (x : X) (ys : List X) → list_any t (insert_by cmp x ys) ≡ (t x || list_any t ys)
  any-insert t x [] = refl
  any-insert t x (y ∷ ys) = placed (is_lt (cmp y x)) (any-insert t x ys)
    where
      swap : (a b c : Bool) → (b || (a || c)) ≡ (a || (b || c))
      swap true true c = refl
      swap true false c = refl
      swap false b c = refl

      placed : (b : Bool) → list_any t (insert_by cmp x ys) ≡ (t x || list_any t ys) → list_any t (cond b (y ∷ insert_by cmp x ys) (x ∷ y ∷ ys)) ≡ (t x || (t y || list_any t ys))
      placed true ih = ap (λ (b : Bool). t y || b) ih ∙ swap (t x) (t y) (list_any t ys)
      placed false ih = refl

  pub any-sorted : (t : X → Bool) (ys : List X) → list_any t (sorted_by cmp ys) ≡ list_any t ys
  any-sorted t [] = refl
  any-sorted t (y ∷ ys) = any-insert t y (sorted_by cmp ys) ∙ ap (λ (b : Bool). t y || b) (any-sorted t ys)

module _ {X : Type 0} (cmp : X → X → Ordering) (o : IsTotalOrder cmp) where
  abbrev pub tied : X → X → Bool
  tied x y = is_eq (cmp x y)

  abbrev pub below : X → X → Bool
  below x y = is_lt (cmp x y)

  eq_is : (r : Ordering) → is_eq r ≡ true → r ≡ Equal
  eq_is Less e = absurd (cc)
  eq_is Equal e = refl
  eq_is Greater e = absurd (cc)

  pub lt_is : (r : Ordering) → is_lt r ≡ true → r ≡ Less
  lt_is Less e = refl
  lt_is Equal e = absurd (cc)
  lt_is Greater e = absurd (cc)

  pub tied-turned : (x y : X) → tied x y ≡ tied y x
  tied-turned x y = ap is_eq (o.antisymm x y) ∙ turned (cmp y x)
    where
      turned : (r : Ordering) → is_eq (ordering_reverse r) ≡ is_eq r
      turned Less = refl
      turned Equal = refl
      turned Greater = refl

  -- what ties with one of two that tie ties with both
  pub tied-along : (x y z : X) → tied x y ≡ true → tied x z ≡ tied y z
  tied-along x y z e = ap is_eq (o.congr x y z (eq_is (cmp x y) e))

  -- of two that don't tie one is below the other
  pub below-turned : (x y : X) → tied x y ≡ false → below x y ≡ not (below y x)
  below-turned x y e = other (cmp x y) (cmp y x) (o.antisymm y x) e
    where
      other : (r s : Ordering) → s ≡ ordering_reverse r → is_eq r ≡ false → is_lt r ≡ not (is_lt s)
      other Less s h k = sym (ap (λ (t : Ordering). not (is_lt t)) h)
      other Equal s h k = absurd (cc)
      other Greater s h k = sym (ap (λ (t : Ordering). not (is_lt t)) h)

  -- what ties with another is none of those that don't tie with a third
  pub any-filtered : (x y : X) (ys : List X) → tied x y ≡ false → list_any (tied x) (filter (λ z. not (tied y z)) ys) ≡ list_any (tied x) ys
  any-filtered x y [] e = refl
  any-filtered x y (z ∷ ys) e = at (tied y z) (tied x z) refl refl (any-filtered x y ys e)
    where
      apart : tied y z ≡ true → tied x z ≡ true → ⊥
      apart yz xz = let xy : tied x y ≡ true = tied-turned x y ∙ tied-along y z x yz ∙ tied-turned z x ∙ xz in cc

      at : (b c : Bool) → tied y z ≡ b → tied x z ≡ c → list_any (tied x) (filter (λ z. not (tied y z)) ys) ≡ list_any (tied x) ys →
          list_any (tied x) (cond (not b) (z ∷ filter (λ z. not (tied y z)) ys) (filter (λ z. not (tied y z)) ys)) ≡ (tied x z || list_any (tied x) ys)
      at true true eb ec ih = absurd (apart eb ec)
      at true false eb ec ih = ih ∙ ap (λ (b : Bool). b || list_any (tied x) ys) (sym ec)
      at false c eb ec ih = ap (λ (b : Bool). tied x z || b) ih

  any-removed : (x y : X) (ys : List X) → tied x y ≡ true → list_any (tied x) (filter (λ z. not (tied y z)) ys) ≡ false
  any-removed x y [] e = refl
  any-removed x y (z ∷ ys) e = at (tied y z) refl (any-removed x y ys e)
    where
      at : (b : Bool) → tied y z ≡ b → list_any (tied x) (filter (λ z. not (tied y z)) ys) ≡ false →
          list_any (tied x) (cond (not b) (z ∷ filter (λ z. not (tied y z)) ys) (filter (λ z. not (tied y z)) ys)) ≡ false
      at true eb ih = ih
      at false eb ih = ap (λ (b : Bool). b || list_any (tied x) (filter (λ z. not (tied y z)) ys)) (tied-along x y z e ∙ eb) ∙ ih

  -- ---- Lists that rise are one where they have the same elements.

  pub tied-itself : (x : X) → tied x x ≡ true
  tied-itself x = ap is_eq (tied_itself o x)

  -- what is below isn't tied
  pub below-apart : (x y : X) → below x y ≡ true → tied x y ≡ false
  below-apart x y e = ap is_eq (lt_is (cmp x y) e)

  pub below-trans : (x y z : X) → below x y ≡ true → below y z ≡ true → below x z ≡ true
  below-trans x y z e f = ap is_lt (o.trans x y z (lt_is (cmp x y) e) (lt_is (cmp y z) f))

  -- each is below all behind it
  abbrev pub IsRising : List X → Type 0
  IsRising [] = Unit {0}
  IsRising (x ∷ xs) = (list_all (below x) xs ≡ true) × IsRising xs

  pub none-tied : (x : X) (ys : List X) → list_all (below x) ys ≡ true → list_any (tied x) ys ≡ false
  none-tied x [] h = refl
  none-tied x (y ∷ ys) h =
      let parts = and_parts (below x y) (list_all (below x) ys) h in
      ap (λ (b : Bool). b || list_any (tied x) ys) (below-apart x y parts.0) ∙ none-tied x ys parts.1

  pub all-below : (x y : X) (ys : List X) → below x y ≡ true → list_all (below y) ys ≡ true → list_all (below x) ys ≡ true
  all-below x y [] e h = refl
  all-below x y (z ∷ ys) e h =
      let parts = and_parts (below y z) (list_all (below y) ys) h in
      and_from (below x z) (list_all (below x) ys) (below-trans x y z e parts.0) (all-below x y ys e parts.1)

  all-insert : (t : X → Bool) (x : X) (ys : List X) → t x ≡ true → list_all t ys ≡ true → list_all t (insert_by cmp x ys) ≡ true
  all-insert t x [] e h = and_from (t x) true e refl
  all-insert t x (y ∷ ys) e h = placed (below y x) (all-insert t x ys e)
    where
      parts : (t y ≡ true) × (list_all t ys ≡ true)
      parts = and_parts (t y) (list_all t ys) h

      placed : (b : Bool) → (list_all t ys ≡ true → list_all t (insert_by cmp x ys) ≡ true) → list_all t (cond b (y ∷ insert_by cmp x ys) (x ∷ y ∷ ys)) ≡ true
      placed true ih = and_from (t y) (list_all t (insert_by cmp x ys)) parts.0 (ih parts.1)
      placed false ih = and_from (t x) (list_all t (y ∷ ys)) e h

  all-sorted : (t : X → Bool) (ys : List X) → list_all t ys ≡ true → list_all t (sorted_by cmp ys) ≡ true
  all-sorted t [] h = refl
  all-sorted t (y ∷ ys) h = let parts = and_parts (t y) (list_all t ys) h in all-insert t y (sorted_by cmp ys) parts.0 (all-sorted t ys parts.1)

  all-each_once : (t : X → Bool) (ys : List X) → list_all t ys ≡ true → list_all t (each_once tied ys) ≡ true
  all-each_once t [] h = refl
  all-each_once t (y ∷ ys) h =
      let parts = and_parts (t y) (list_all t ys) h in
      and_from (t y) (list_all t (filter (λ z. not (tied y z)) (each_once tied ys))) parts.0 (all-filter t (λ z. not (tied y z)) (each_once tied ys) (all-each_once t ys parts.1))

  pub all-ordered : (t : X → Bool) (ys : List X) → list_all t ys ≡ true → list_all t (ordered cmp ys) ≡ true
  all-ordered t ys h = all-sorted t (each_once tied ys) (all-each_once t ys h)

  -- no element ties with one behind it
  abbrev pub AreApart : List X → Type 0
  AreApart [] = Unit {0}
  AreApart (x ∷ xs) = (list_any (tied x) xs ≡ false) × AreApart xs

  apart-filter : (p : X → Bool) (ys : List X) → AreApart ys → AreApart (filter p ys)
  apart-filter p [] h = tt
  apart-filter p (y ∷ ys) h = kept (p y) (apart-filter p ys h.1)
    where
      kept : (b : Bool) → AreApart (filter p ys) → AreApart (cond b (y ∷ filter p ys) (filter p ys))
      kept true ih = (none-filter (tied y) p ys h.0, ih)
      kept false ih = ih

  apart-each_once : (ys : List X) → AreApart (each_once tied ys)
  apart-each_once [] = tt
  apart-each_once (y ∷ ys) = (any-removed y y (each_once tied ys) (tied-itself y), apart-filter (λ z. not (tied y z)) (each_once tied ys) (apart-each_once ys))

  rising-insert : (x : X) (ys : List X) → list_any (tied x) ys ≡ false → IsRising ys → IsRising (insert_by cmp x ys)
  rising-insert x [] e h = (refl, tt)
  rising-insert x (y ∷ ys) e h = placed (below y x) refl (λ k. rising-insert x ys k h.1)
    where
      parts : (tied x y ≡ false) × (list_any (tied x) ys ≡ false)
      parts = or_parts (tied x y) (list_any (tied x) ys) e

      placed : (b : Bool) → below y x ≡ b → (list_any (tied x) ys ≡ false → IsRising (insert_by cmp x ys)) → IsRising (cond b (y ∷ insert_by cmp x ys) (x ∷ y ∷ ys))
      placed true less ih = (all-insert (below y) x ys less h.0, ih parts.1)
      placed false other ih =
          let less : below x y ≡ true = below-turned x y parts.0 ∙ ap not other in
          (and_from (below x y) (list_all (below x) ys) less (all-below x y ys less h.0), h)

  rising-sorted : (ys : List X) → AreApart ys → IsRising (sorted_by cmp ys)
  rising-sorted [] h = tt
  rising-sorted (y ∷ ys) h = rising-insert y (sorted_by cmp ys) (any-sorted cmp (tied y) ys ∙ h.0) (rising-sorted ys h.1)

  pub rising-ordered : (ys : List X) → IsRising (ordered cmp ys)
  rising-ordered ys = rising-sorted (each_once tied ys) (apart-each_once ys)

  -- what ties with an element of a list ties with one of those kept
  any-each_once : (x : X) (ys : List X) → list_any (tied x) (each_once tied ys) ≡ list_any (tied x) ys
  any-each_once x [] = refl
  any-each_once x (y ∷ ys) = at (tied x y) refl (any-each_once x ys)
    where
      rest : List X
      rest = filter (λ z. not (tied y z)) (each_once tied ys)

      at : (b : Bool) → tied x y ≡ b → list_any (tied x) (each_once tied ys) ≡ list_any (tied x) ys → (tied x y || list_any (tied x) rest) ≡ (tied x y || list_any (tied x) ys)
      at true e ih = rw e refl
      at false e ih = ap (λ (b : Bool). tied x y || b) (any-filtered x y (each_once tied ys) e ∙ ih)

  pub any-ordered : (x : X) (ys : List X) → list_any (tied x) (ordered cmp ys) ≡ list_any (tied x) ys
  any-ordered x ys = any-sorted cmp (tied x) (each_once tied ys) ∙ any-each_once x ys

  pub any-like : (u v : X) (ws : List X) → tied u v ≡ true → list_any (tied u) ws ≡ list_any (tied v) ws
  any-like u v [] t = refl
  any-like u v (w ∷ ws) t = λ i. tied-along u v w t i || any-like u v ws t i

  -- elements of which those that tie are one
  module _ (good : X → Bool) (told : (x y : X) → good x ≡ true → good y ≡ true → tied x y ≡ true → x ≡ y) where
    same-rising : (xs ys : List X) → list_all good xs ≡ true → list_all good ys ≡ true → IsRising xs → IsRising ys → ((z : X) → list_any (tied z) xs ≡ list_any (tied z) ys) → xs ≡ ys
    same-rising [] [] g k r s h = refl
    same-rising [] (y ∷ ys) g k r s h = absurd (no_way (tied y y) (list_any (tied y) ys) (tied-itself y) (h y))
      where
        no_way : (a b : Bool) → a ≡ true → false ≡ (a || b) → ⊥
        no_way true b e f = cc
        no_way false b e f = cc
    same-rising (x ∷ xs) [] g k r s h = absurd (no_way (tied x x) (list_any (tied x) xs) (tied-itself x) (h x))
      where
        no_way : (a b : Bool) → a ≡ true → (a || b) ≡ false → ⊥
        no_way true b e f = cc
        no_way false b e f = cc
    same-rising (x ∷ xs) (y ∷ ys) g k r s h = at (cmp x y) refl (λ same. same-rising xs ys goods.1 goods'.1 r.1 s.1 same)
      where
        goods : (good x ≡ true) × (list_all good xs ≡ true)
        goods = and_parts (good x) (list_all good xs) g

        goods' : (good y ≡ true) × (list_all good ys ≡ true)
        goods' = and_parts (good y) (list_all good ys) k

        -- an element below all of the other list isn't there
        missing : (z w : X) (zs ws : List X) → below z w ≡ true → list_all (below w) ws ≡ true → list_any (tied z) (z ∷ zs) ≡ list_any (tied z) (w ∷ ws) → ⊥
        missing z w zs ws less above e =
            let there : list_any (tied z) (z ∷ zs) ≡ true = or_left (tied z z) (list_any (tied z) zs) (tied-itself z) in
            let away : list_any (tied z) (w ∷ ws) ≡ false = none-tied z (w ∷ ws) (and_from (below z w) (list_all (below z) ws) less (all-below z w ws less above)) in
            cc

        tails : tied x y ≡ true → (z : X) → list_any (tied z) xs ≡ list_any (tied z) ys
        tails e z = split (tied z x) refl
          where
            zy : tied z y ≡ tied z x
            zy = tied-turned z y ∙ sym (tied-along x y z e) ∙ tied-turned x z

            split : (b : Bool) → tied z x ≡ b → list_any (tied z) xs ≡ list_any (tied z) ys
            split true zx =
                let none : list_any (tied z) xs ≡ false = any-like z x xs zx ∙ none-tied x xs r.0 in
                let none' : list_any (tied z) ys ≡ false = any-like z y ys (zy ∙ zx) ∙ none-tied y ys s.0 in
                cc
            split false zx = sym (ap (λ (b : Bool). b || list_any (tied z) xs) zx) ∙ h z ∙ ap (λ (b : Bool). b || list_any (tied z) ys) (zy ∙ zx)

        at : (r : Ordering) → cmp x y ≡ r → (((z : X) → list_any (tied z) xs ≡ list_any (tied z) ys) → xs ≡ ys) → x ∷ xs ≡ y ∷ ys
        at Less e ih = absurd (missing x y xs ys (ap is_lt e) s.0 (h x))
        at Greater e ih = absurd (missing y x ys xs (ap is_lt (o.antisymm y x ∙ ap ordering_reverse e)) r.0 (sym (h y)))
        at Equal e ih =
            let t : tied x y ≡ true = ap is_eq e in
            let first : x ≡ y = told x y goods.0 goods'.0 t in
            let rest : xs ≡ ys = ih (tails t) in
            cc

    -- lists that have the same elements are one in order
    pub same-ordered : (xs ys : List X) → list_all good xs ≡ true → list_all good ys ≡ true → ((z : X) → list_any (tied z) xs ≡ list_any (tied z) ys) → ordered cmp xs ≡ ordered cmp ys
    same-ordered xs ys g k h =
        same-rising (ordered cmp xs) (ordered cmp ys) (all-ordered good xs g) (all-ordered good ys k) (rising-ordered xs) (rising-ordered ys) (λ z. any-ordered z xs ∙ h z ∙ sym (any-ordered z ys))
