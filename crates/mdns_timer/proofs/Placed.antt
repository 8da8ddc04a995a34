-- Lists in strict order by a key: what is found at a place, and what a change of the element with a key makes of them.
use Rattle.std.proofs.Common.{◌≡◌, ℕ, zero, suc, ◌<◌, ◌≤◌, Bool, true, false, cond, not, ◌||◌, List, [], ◌∷◌, map, Ordering, Less, Equal, Greater, refl, ap, ◌∙◌, sym, subst, arith, length, get_or, set, add-one}
use Rattle.std.specs.Prelude.{filter}
use Rattle.std.specs.List.{list_any, insert, remove, AllByRecursion}
use Rattle.std.specs.List.Sorted.{IsSortedBy, IsNonDecreasingBy}
use Rattle.std.specs.Ordering.{is_lt, is_eq, ordering_reverse, ordering_index}
use Rattle.std.specs.Cmp.{IsTotalOrder}
use Rattle.std.proofs.lemmas.List.Sorted.{searchable_from_sorted}
use Rattle.lists.specs.Lists.{insert_by}
use Rattle.mdns_timer.specs.Strict.{IsStrict}

-- what holds of each holds of what the keys of each give
each_from : {X : Type 0} (P Q : X → Type 0) (xs : List X) → ((x : X) → P x → Q x) → AllByRecursion P xs → AllByRecursion Q xs
each_from P Q [] f h = tt
each_from P Q (x ∷ xs) f h = (f x h.0, each_from P Q xs f h.1)

each_filter : {X : Type 0} (P : X → Type 0) (p : X → Bool) (xs : List X) → AllByRecursion P xs → AllByRecursion P (filter p xs)
each_filter P p [] h = tt
each_filter P p (x ∷ xs) h = kept (p x) (each_filter P p xs h.1)
  where
    kept : (b : Bool) → AllByRecursion P (filter p xs) → AllByRecursion P (cond b (x ∷ filter p xs) (filter p xs))
    kept true ih = (h.0, ih)
    kept false ih = ih

module _ {X : Type 0} (cmp : X → X → Ordering) where
  each_insert : (P : X → Type 0) (x : X) (ys : List X) → P x → AllByRecursion P ys → AllByRecursion P (insert_by cmp x ys)
  each_insert P x [] h all = (h, tt)
  each_insert P x (y ∷ ys) h all = placed (is_lt (cmp y x)) (each_insert P x ys h all.1)
    where
      placed : (b : Bool) → AllByRecursion P (insert_by cmp x ys) → AllByRecursion P (cond b (y ∷ insert_by cmp x ys) (x ∷ y ∷ ys))
      placed true ih = (all.0, ih)
      placed false ih = (h, all)

  -- a part of a list in strict order is in strict order
  pub strict_filter : (p : X → Bool) (xs : List X) → IsStrict cmp xs → IsStrict cmp (filter p xs)
  strict_filter p [] s = tt
  strict_filter p (x ∷ xs) s = kept (p x) (strict_filter p xs s.1)
    where
      kept : (b : Bool) → IsStrict cmp (filter p xs) → IsStrict cmp (cond b (x ∷ filter p xs) (filter p xs))
      kept true ih = (each_filter (λ y. cmp x y ≡ Less) p xs s.0, ih)
      kept false ih = ih

-- the order is that of the keys
module _ {X K : Type 0} (key : X → K) (cmp : K → K → Ordering) (o : IsTotalOrder cmp) where
  abbrev pub by_key : X → X → Ordering
  by_key x y = cmp (key x) (key y)

  more_than : (a b : K) → cmp a b ≡ Less → cmp b a ≡ Greater
  more_than a b h = o.antisymm b a ∙ ap ordering_reverse h

  less_than : (a b : K) → cmp a b ≡ Greater → cmp b a ≡ Less
  less_than a b h = o.antisymm b a ∙ ap ordering_reverse h

  same_as : (a b : K) → cmp a b ≡ Equal → cmp b a ≡ Equal
  same_as a b h = o.antisymm b a ∙ ap ordering_reverse h

  each_key : (k : K) (xs ys : List X) → map key xs ≡ map key ys → AllByRecursion (λ x. cmp k (key x) ≡ Less) xs → AllByRecursion (λ x. cmp k (key x) ≡ Less) ys
  each_key k [] [] e h = tt
  each_key k [] (y ∷ ys) e h = absurd (cc)
  each_key k (x ∷ xs) [] e h = absurd (cc)
  each_key k (x ∷ xs) (y ∷ ys) e h =
      let head : key x ≡ key y = cc in
      let rest : map key xs ≡ map key ys = cc in
      (ap (cmp k) (sym head) ∙ h.0, each_key k xs ys rest h.1)

  -- strict order is told by the keys alone
  pub strict_keys : (xs ys : List X) → map key xs ≡ map key ys → IsStrict by_key xs → IsStrict by_key ys
  strict_keys [] [] e s = tt
  strict_keys [] (y ∷ ys) e s = absurd (cc)
  strict_keys (x ∷ xs) [] e s = absurd (cc)
  strict_keys (x ∷ xs) (y ∷ ys) e s =
      let head : key x ≡ key y = cc in
      let rest : map key xs ≡ map key ys = cc in
      (subst (λ (k : K). AllByRecursion (λ z. cmp k (key z) ≡ Less) ys) head (each_key (key x) xs ys rest s.0), strict_keys xs ys rest s.1)

  sorted_from_strict : (xs : List X) → IsStrict by_key xs → (k : ℕ) (d : X) → suc k < length xs → is_lt (by_key (get_or xs (suc k) d) (get_or xs k d)) ≡ false
  sorted_from_strict [] s k d h = absurd (omega arith)
  sorted_from_strict (x ∷ []) s k d h = absurd (omega arith)
  sorted_from_strict (x ∷ y ∷ ys) s zero d h = ap is_lt (more_than (key x) (key y) s.0.0)
  sorted_from_strict (x ∷ y ∷ ys) s (suc k) d h = sorted_from_strict (y ∷ ys) s.1 k d (omega arith)

  sorted : (xs : List X) → IsStrict by_key xs → IsSortedBy (λ x y. is_lt (by_key x y)) xs
  sorted xs s = λ k d low high. rw (add-one k) (sorted_from_strict xs s k d (omega arith))

  -- what has a key
  module _ (q : K) (test : X → Bool) (tests : (x : X) → test x ≡ is_eq (cmp q (key x))) where
    unequal : (x : X) (r : Ordering) → is_eq r ≡ false → cmp q (key x) ≡ r → test x ≡ false
    unequal x r other e = tests x ∙ ap is_eq e ∙ other

    past_none : (xs : List X) → AllByRecursion (λ x. cmp q (key x) ≡ Less) xs → AllByRecursion (λ x. test x ≡ false) xs
    past_none xs h = each_from (λ x. cmp q (key x) ≡ Less) (λ x. test x ≡ false) xs (λ x e. unequal x Less refl e) h

    -- where none passes
    pub none_any : (xs : List X) → AllByRecursion (λ x. test x ≡ false) xs → list_any test xs ≡ false
    none_any [] h = refl
    none_any (x ∷ xs) h = ap (λ (b : Bool). b || list_any test xs) h.0 ∙ none_any xs h.1

    pub none_map : (g : X → X) (xs : List X) → AllByRecursion (λ x. test x ≡ false) xs → map (λ x. cond (test x) (g x) x) xs ≡ xs
    none_map g [] h = refl
    none_map g (x ∷ xs) h = λ i. cond (h.0 i) (g x) x ∷ none_map g xs h.1 i

    pub none_filter : (xs : List X) → AllByRecursion (λ x. test x ≡ false) xs → filter (λ x. not (test x)) xs ≡ xs
    none_filter [] h = refl
    none_filter (x ∷ xs) h = ap (λ (b : Bool). cond (not b) (x ∷ filter (λ x. not (test x)) xs) (filter (λ x. not (test x)) xs)) h.0 ∙ ap (λ (l : List X). x ∷ l) (none_filter xs h.1)

    behind : (x : X) (xs : List X) → cmp q (key x) ≡ Equal → AllByRecursion (λ y. by_key x y ≡ Less) xs → AllByRecursion (λ y. test y ≡ false) xs
    behind x xs e h = each_from (λ y. by_key x y ≡ Less) (λ y. test y ≡ false) xs (λ y less. unequal y Less refl (o.congr q (key x) (key y) e ∙ less)) h

    each_at : (P : X → Type 0) (xs : List X) (i : ℕ) (d : X) → i < length xs → AllByRecursion P xs → P (get_or xs i d)
    each_at P [] i d h all = absurd (omega arith)
    each_at P (x ∷ xs) zero d h all = all.0
    each_at P (x ∷ xs) (suc i) d h all = each_at P xs i d (omega arith) all.1

    before : (x : X) (xs : List X) (i : ℕ) (d : X) → i < length xs → cmp q (key (get_or xs i d)) ≡ Equal → AllByRecursion (λ y. by_key x y ≡ Less) xs → test x ≡ false
    before x xs i d h e all =
        let less : cmp (key x) (key (get_or xs i d)) ≡ Less = each_at (λ y. by_key x y ≡ Less) xs i d h all in
        let is : cmp q (key x) ≡ Greater = o.congr q (key (get_or xs i d)) (key x) e ∙ more_than (key x) (key (get_or xs i d)) less in
        unequal x Greater refl is

    -- where the element at a place has the key
    pub found_any : (xs : List X) (i : ℕ) (d : X) → i < length xs → cmp q (key (get_or xs i d)) ≡ Equal → list_any test xs ≡ true
    found_any [] i d h e = absurd (omega arith)
    found_any (x ∷ xs) zero d h e = ap (λ (b : Bool). b || list_any test xs) (tests x ∙ ap is_eq e)
    found_any (x ∷ xs) (suc i) d h e = or_true (test x) (found_any xs i d (omega arith) e)
      where
        or_true : (b : Bool) → list_any test xs ≡ true → (b || list_any test xs) ≡ true
        or_true true ih = refl
        or_true false ih = ih

    pub found_map : (g : X → X) (xs : List X) (i : ℕ) (d : X) → i < length xs → cmp q (key (get_or xs i d)) ≡ Equal → IsStrict by_key xs → map (λ x. cond (test x) (g x) x) xs ≡ set xs i (g (get_or xs i d))
    found_map g [] i d h e s = absurd (omega arith)
    found_map g (x ∷ xs) zero d h e s =
        let passes : test x ≡ true = tests x ∙ ap is_eq e in
        λ j. cond (passes j) (g x) x ∷ none_map g xs (behind x xs e s.0) j
    found_map g (x ∷ xs) (suc i) d h e s =
        let fails : test x ≡ false = before x xs i d (omega arith) e s.0 in
        λ j. cond (fails j) (g x) x ∷ found_map g xs i d (omega arith) e s.1 j

    pub found_filter : (xs : List X) (i : ℕ) (d : X) → i < length xs → cmp q (key (get_or xs i d)) ≡ Equal → IsStrict by_key xs → filter (λ x. not (test x)) xs ≡ remove xs i
    found_filter [] i d h e s = absurd (omega arith)
    found_filter (x ∷ xs) zero d h e s =
        let passes : test x ≡ true = tests x ∙ ap is_eq e in
        ap (λ (b : Bool). cond (not b) (x ∷ filter (λ x. not (test x)) xs) (filter (λ x. not (test x)) xs)) passes ∙ none_filter xs (behind x xs e s.0)
    found_filter (x ∷ xs) (suc i) d h e s =
        let fails : test x ≡ false = before x xs i d (omega arith) e s.0 in
        ap (λ (b : Bool). cond (not b) (x ∷ filter (λ x. not (test x)) xs) (filter (λ x. not (test x)) xs)) fails ∙ ap (λ (l : List X). x ∷ l) (found_filter xs i d (omega arith) e s.1)

    -- where the key would stand between two
    pub apart : (xs : List X) (i : ℕ) → ((k : ℕ) (d : X) → k < i → cmp (key (get_or xs k d)) q ≡ Less) → ((k : ℕ) (d : X) → i ≤ k → k < length xs → cmp (key (get_or xs k d)) q ≡ Greater) → AllByRecursion (λ x. test x ≡ false) xs
    apart [] i low high = tt
    apart (x ∷ xs) zero low high =
        (unequal x Less refl (less_than (key x) q (high 0 x (omega arith) (omega arith))), apart xs zero (λ k d h. absurd (omega arith)) (λ k d h g. high (suc k) d (omega arith) (omega arith)))
    apart (x ∷ xs) (suc i) low high =
        (unequal x Greater refl (more_than (key x) q (low 0 x (omega arith))), apart xs i (λ k d h. low (suc k) d (omega arith)) (λ k d h g. high (suc k) d (omega arith) (omega arith)))

  -- an element that is put where its key stands between two
  pub inserted : (new : X) (xs : List X) (i : ℕ) → i ≤ length xs → ((k : ℕ) (d : X) → k < i → by_key (get_or xs k d) new ≡ Less) → ((k : ℕ) (d : X) → i ≤ k → k < length xs → by_key (get_or xs k d) new ≡ Greater) → insert xs i new ≡ insert_by by_key new xs
  inserted new [] zero h low high = refl
  inserted new [] (suc i) h low high = absurd (omega arith)
  inserted new (x ∷ xs) zero h low high = ap (λ (r : Ordering). cond (is_lt r) (x ∷ insert_by by_key new xs) (new ∷ x ∷ xs)) (sym (high 0 x (omega arith) (omega arith)))
  inserted new (x ∷ xs) (suc i) h low high =
      ap (λ (l : List X). x ∷ l) (inserted new xs i (omega arith) (λ k d g. low (suc k) d (omega arith)) (λ k d g m. high (suc k) d (omega arith) (omega arith)))
      ∙ ap (λ (r : Ordering). cond (is_lt r) (x ∷ insert_by by_key new xs) (new ∷ x ∷ xs)) (sym (low 0 x (omega arith)))

  all_less : (x y : X) (ys : List X) → by_key x y ≡ Less → AllByRecursion (λ z. by_key y z ≡ Less) ys → AllByRecursion (λ z. by_key x z ≡ Less) ys
  all_less x y ys less h = each_from (λ z. by_key y z ≡ Less) (λ z. by_key x z ≡ Less) ys (λ z e. o.trans (key x) (key y) (key z) less e) h

  -- where none has its key, the list stays in strict order
  pub strict_inserted : (new : X) (xs : List X) → list_any (λ x. is_eq (by_key new x)) xs ≡ false → IsStrict by_key xs → IsStrict by_key (insert_by by_key new xs)
  strict_inserted new [] none s = (tt, tt)
  strict_inserted new (x ∷ xs) none s = placed (by_key x new) refl (is_eq (by_key new x)) refl none (λ e. strict_inserted new xs e s.1)
    where
      placed : (r : Ordering) → by_key x new ≡ r → (b : Bool) → is_eq (by_key new x) ≡ b → (b || list_any (λ x. is_eq (by_key new x)) xs) ≡ false →
          (list_any (λ x. is_eq (by_key new x)) xs ≡ false → IsStrict by_key (insert_by by_key new xs)) → IsStrict by_key (cond (is_lt r) (x ∷ insert_by by_key new xs) (new ∷ x ∷ xs))
      placed r is true f e ih = absurd (cc)
      placed Less is false f e ih = (each_insert by_key (λ y. by_key x y ≡ Less) new xs is s.0, ih e)
      placed Equal is false f e ih = let one : is_eq (by_key new x) ≡ true = ap is_eq (same_as (key x) (key new) is) in absurd (cc)
      placed Greater is false f e ih =
          let less : by_key new x ≡ Less = less_than (key x) (key new) is in
          ((less, all_less new x xs less s.0), s)

  -- what a binary search by the keys asks of the list
  pub searchable : (q : K) (xs : List X) → IsStrict by_key xs → IsNonDecreasingBy (λ x. ordering_index (cmp (key x) q)) xs
  searchable q xs s = searchable_from_sorted o key xs q (sorted xs s)
