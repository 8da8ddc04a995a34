-- An element put behind those that aren't above it, and one more element of a list in order.
use Rattle.std.proofs.Common.{◌≡◌, ℕ, suc, ◌+◌, Bool, true, false, cond, not, ◌||◌, List, [], ◌∷◌, ◌++◌, append-nil, refl, ap, ◌∙◌, sym, arith, Ordering, Less, Equal, Greater}
use Rattle.std.specs.Prelude.{filter}
use Rattle.std.specs.List.{list_any, prefix_len, insert}
use Rattle.std.specs.Ordering.{is_lt, is_eq, ordering_reverse}
use Rattle.std.specs.Cmp.{IsTotalOrder}
use Rattle.std.proofs.lemmas.Cmp.{alike_right}
use Rattle.std.proofs.lemmas.List.Elements.{filter-append}
use Rattle.lists.specs.Lists.{each_once, insert_by, sorted_by, ordered}
use Rattle.lists.proofs.InOrder.{any-sorted, tied-turned, below-turned, below-trans, lt_is, any-filtered}

module _ {X : Type 0} (cmp : X → X → Ordering) (o : IsTotalOrder cmp) where
  abbrev tied : X → X → Bool
  tied x y = is_eq (cmp x y)

  abbrev below : X → X → Bool
  below x y = is_lt (cmp x y)

  -- x put before the first element that is above it
  abbrev pub put_behind : X → List X → List X
  put_behind x [] = x ∷ []
  put_behind x (y ∷ ys) = cond (below x y) (x ∷ y ∷ ys) (y ∷ put_behind x ys)

  -- what is below an element is below each that isn't below that
  below-up : (x y s : X) → below s y ≡ false → below x y ≡ true → below x s ≡ true
  below-up x y s none less = at (cmp y s) refl
    where
      at : (r : Ordering) → cmp y s ≡ r → below x s ≡ true
      at Less e = ap is_lt (o.trans x y s (lt_is cmp o (cmp x y) less) e)
      at Equal e = sym (ap is_lt (alike_right o y s x e)) ∙ less
      at Greater e = absurd (no_way (cmp s y) (o.antisymm s y ∙ ap ordering_reverse e) none)
        where
          no_way : (r : Ordering) → r ≡ Less → is_lt r ≡ false → ⊥
          no_way Less h k = cc
          no_way Equal h k = cc
          no_way Greater h k = cc

  -- what isn't above something that is below another is below that, too
  below-along : (y s x : X) → below s y ≡ false → below s x ≡ true → below y x ≡ true
  below-along y s x none less = at (cmp y s) refl
    where
      at : (r : Ordering) → cmp y s ≡ r → below y x ≡ true
      at Less e = ap is_lt (o.trans y s x e (lt_is cmp o (cmp s x) less))
      at Equal e = ap is_lt (o.congr y s x e) ∙ less
      at Greater e = absurd (no_way (cmp s y) (o.antisymm s y ∙ ap ordering_reverse e) none)
        where
          no_way : (r : Ordering) → r ≡ Less → is_lt r ≡ false → ⊥
          no_way Less h k = cc
          no_way Equal h k = cc
          no_way Greater h k = cc

  -- two that don't tie are put in either order
  pub insert-swapped : (x y : X) (ys : List X) → tied x y ≡ false → insert_by cmp x (insert_by cmp y ys) ≡ insert_by cmp y (insert_by cmp x ys)
  insert-swapped x y [] e = placed (below y x) (below x y) (below-turned cmp o x y e)
    where
      placed : (b c : Bool) → c ≡ not b → cond b (y ∷ x ∷ []) (x ∷ y ∷ []) ≡ cond c (x ∷ y ∷ []) (y ∷ x ∷ [])
      placed true true h = absurd (cc)
      placed true false h = refl
      placed false true h = refl
      placed false false h = absurd (cc)
  insert-swapped x y (s ∷ ys) e = at (below s x) (below s y) refl refl (insert-swapped x y ys e)
    where
      placed : (b c : Bool) → c ≡ not b → cond b (y ∷ x ∷ s ∷ ys) (x ∷ y ∷ s ∷ ys) ≡ cond c (x ∷ y ∷ s ∷ ys) (y ∷ x ∷ s ∷ ys)
      placed true true h = absurd (cc)
      placed true false h = refl
      placed false true h = refl
      placed false false h = absurd (cc)

      at : (b c : Bool) → below s x ≡ b → below s y ≡ c → insert_by cmp x (insert_by cmp y ys) ≡ insert_by cmp y (insert_by cmp x ys) →
          insert_by cmp x (cond (below s y) (s ∷ insert_by cmp y ys) (y ∷ s ∷ ys)) ≡ insert_by cmp y (cond (below s x) (s ∷ insert_by cmp x ys) (x ∷ s ∷ ys))
      at true true eb ec ih = simp (eb, ec) (ap (λ (l : List X). s ∷ l) ih)
      at true false eb ec ih = let yx : below y x ≡ true = below-along y s x ec eb in simp (eb, ec, yx)
      at false true eb ec ih = let xy : below x y ≡ true = below-along x s y eb ec in simp (eb, ec, xy)
      at false false eb ec ih = simp (eb, ec) (placed (below y x) (below x y) (below-turned cmp o x y e))

  -- one element put before what isn't below it, another behind what isn't above it, in either order
  put-insert : (x y : X) (ys : List X) → insert_by cmp y (put_behind x ys) ≡ put_behind x (insert_by cmp y ys)
  put-insert x y [] = refl
  put-insert x y (s ∷ ys) = at (below x s) (below s y) refl refl (put-insert x y ys)
    where
      at : (b c : Bool) → below x s ≡ b → below s y ≡ c → insert_by cmp y (put_behind x ys) ≡ put_behind x (insert_by cmp y ys) →
          insert_by cmp y (cond (below x s) (x ∷ s ∷ ys) (s ∷ put_behind x ys)) ≡ put_behind x (cond (below s y) (s ∷ insert_by cmp y ys) (y ∷ s ∷ ys))
      at true true eb ec ih = let xy : below x y ≡ true = below-trans cmp o x s y eb ec in simp (eb, ec, xy)
      at true false eb ec ih = simp (eb, ec)
      at false true eb ec ih = simp (eb, ec) (ap (λ (l : List X). s ∷ l) ih)
      at false false eb ec ih = let xy : below x y ≡ false = not_below in simp (eb, ec, xy)
        where
          not_below : below x y ≡ false
          not_below = which (below x y) refl
            where
              which : (b : Bool) → below x y ≡ b → below x y ≡ false
              which true e = let up : below x s ≡ true = below-up x y s ec e in absurd (cc)
              which false e = e

  -- a last element goes behind those that aren't above it
  pub sorted-push : (x : X) (ys : List X) → sorted_by cmp (ys ++ x ∷ []) ≡ put_behind x (sorted_by cmp ys)
  sorted-push x [] = refl
  sorted-push x (y ∷ ys) = ap (insert_by cmp y) (sorted-push x ys) ∙ put-insert x y (sorted_by cmp ys)

  -- an insertion before the first element that is above
  pub inserted : (x : X) (ys : List X) → insert ys (prefix_len (λ other. not (below x other)) ys) x ≡ put_behind x ys
  inserted x [] = refl
  inserted x (y ∷ ys) = at (below x y) (inserted x ys)
    where
      n : ℕ
      n = prefix_len (λ other. not (below x other)) ys

      at : (b : Bool) → insert ys n x ≡ put_behind x ys → insert (y ∷ ys) (cond (not b) (1 + n) 0) x ≡ cond b (x ∷ y ∷ ys) (y ∷ put_behind x ys)
      at true ih = refl
      at false ih = rw one_more (ap (λ (l : List X). y ∷ l) ih)
        where
          one_more : 1 + n ≡ suc n
          one_more = omega arith

  -- ---- One more element behind the others.

  -- a last element counts where no earlier one tied with it
  each_once-push : (x : X) (ys : List X) → each_once tied (ys ++ x ∷ []) ≡ cond (list_any (tied x) (each_once tied ys)) (each_once tied ys) (each_once tied ys ++ x ∷ [])
  each_once-push x [] = refl
  each_once-push x (y ∷ ys) =
      ap (λ (l : List X). y ∷ filter keeps l) (each_once-push x ys) ∙ at (tied x y) (list_any (tied x) (each_once tied ys)) refl refl
    where
      keeps : X → Bool
      keeps z = not (tied y z)

      kept : List X
      kept = filter keeps (each_once tied ys)

      at : (b c : Bool) → tied x y ≡ b → list_any (tied x) (each_once tied ys) ≡ c →
          y ∷ filter keeps (cond c (each_once tied ys) (each_once tied ys ++ x ∷ [])) ≡ cond (b || list_any (tied x) kept) (y ∷ kept) (y ∷ kept ++ x ∷ [])
      at true true eb ec = refl
      at true false eb ec =
          let yx : tied y x ≡ true = tied-turned cmp o y x ∙ eb in
          ap (λ (l : List X). y ∷ l) (filter-append keeps (each_once tied ys) (x ∷ []) ∙ ap (λ (b : Bool). kept ++ cond (not b) (x ∷ []) []) yx ∙ append-nil kept)
      at false true eb ec = ap (λ (b : Bool). cond b (y ∷ kept) (y ∷ kept ++ x ∷ [])) (sym (any-filtered cmp o x y (each_once tied ys) eb ∙ ec))
      at false false eb ec =
          let yx : tied y x ≡ false = tied-turned cmp o y x ∙ eb in
          ap (λ (l : List X). y ∷ l) (filter-append keeps (each_once tied ys) (x ∷ []) ∙ ap (λ (b : Bool). kept ++ cond (not b) (x ∷ []) []) yx)
          ∙ ap (λ (b : Bool). cond b (y ∷ kept) (y ∷ kept ++ x ∷ [])) (sym (any-filtered cmp o x y (each_once tied ys) eb ∙ ec))

  -- one more element, with which one that is there tied
  pub ordered-there : (x : X) (ys : List X) → list_any (tied x) (ordered cmp ys) ≡ true → ordered cmp (ys ++ x ∷ []) ≡ ordered cmp ys
  ordered-there x ys e =
      ap (sorted_by cmp) (each_once-push x ys ∙ ap (λ (b : Bool). cond b (each_once tied ys) (each_once tied ys ++ x ∷ [])) (sym (any-sorted cmp (tied x) (each_once tied ys)) ∙ e))

  -- one with which none tied
  pub ordered-new : (x : X) (ys : List X) → list_any (tied x) (ordered cmp ys) ≡ false → ordered cmp (ys ++ x ∷ []) ≡ sorted_by cmp (each_once tied ys ++ x ∷ [])
  ordered-new x ys e =
      ap (sorted_by cmp) (each_once-push x ys ∙ ap (λ (b : Bool). cond b (each_once tied ys) (each_once tied ys ++ x ∷ [])) (sym (any-sorted cmp (tied x) (each_once tied ys)) ∙ e))
