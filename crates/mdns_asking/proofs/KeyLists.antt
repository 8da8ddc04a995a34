-- Lists of what has a question each, strictly in the order of the questions: what is found in them, and that this tells the list.
use Rattle.std.proofs.Common.{◌≡◌, Bool, true, false, cond, not, ◌&&◌, ◌||◌, List, [], ◌∷◌, map, Option, Some, None, Ordering, Less, Equal, Greater, refl, ap, ◌∙◌, sym, subst}
use Rattle.std.specs.Prelude.{filter}
use Rattle.std.specs.List.{list_any, list_all, find, filter_map, cons_option, AllByRecursion}
use Rattle.std.specs.Option.{option_map, is_some}
use Rattle.std.specs.Ordering.{is_lt, is_eq, ordering_reverse}
use Rattle.std.proofs.lemmas.Bool.{and_from, and_parts, or_parts, cond-true, cond-false}
use Rattle.lists.specs.Lists.{insert_by, each_once, sorted_by, ordered}
use Rattle.lists.proofs.InOrder.{any-sorted, none-filter}
use Rattle.dns_record.specs.declared.record.Key.{Key}
use Rattle.dns_record.specs.Records.{key_eq, key_cmp}
use Rattle.mdns_asking.proofs.KeyOrder.{key_cmp-total, key_eq-is, key_eq-itself, key_eq-turned, key_eq-same, comes_before, before_other, before_before, before_left, before_right}

-- whether a question comes before those of all elements
abbrev pub before_all : {X : Type 0} → (X → Key) → Key → List X → Bool
before_all key k xs = list_all (λ x. comes_before k (key x)) xs

-- Each element's question comes before those of the elements behind it.
abbrev pub IsStrict : {X : Type 0} → (X → Key) → List X → Type 0
IsStrict key [] = Unit {0}
IsStrict key (x ∷ xs) = (before_all key (key x) xs ≡ true) × IsStrict key xs

-- the element of a question
abbrev pub looked : {X : Type 0} → (X → Key) → Key → List X → Option X
looked key q xs = find (λ x. key_eq q (key x)) xs

-- whether an element is of a question
abbrev pub has_key : {X : Type 0} → (X → Key) → Key → List X → Bool
has_key key q xs = list_any (λ x. key_eq q (key x)) xs

pub looked_found : {X : Type 0} (key : X → Key) (q : Key) (xs : List X) (x : X) → looked key q xs ≡ Some x → key_eq q (key x) ≡ true
looked_found key q [] x h = absurd (cc)
looked_found {X = X} key q (y ∷ ys) x h = of (key_eq q (key y)) refl h (looked_found key q ys x)
  where
    of : (b : Bool) → key_eq q (key y) ≡ b → cond b (Some y) (looked key q ys) ≡ Some x → (looked key q ys ≡ Some x → key_eq q (key x) ≡ true) → key_eq q (key x) ≡ true
    of true e g rest = let one : y ≡ x = cc in ap (λ z. key_eq q (key z)) (sym one) ∙ e
    of false e g rest = rest g

pub looked_none : {X : Type 0} (key : X → Key) (q : Key) (xs : List X) → has_key key q xs ≡ false → looked key q xs ≡ None
looked_none key q [] h = refl
looked_none key q (y ∷ ys) h =
    let p = or_parts _ _ h in cond-false (key_eq q (key y)) (Some y) (looked key q ys) p.0 ∙ looked_none key q ys p.1

pub looked_has : {X : Type 0} (key : X → Key) (q : Key) (xs : List X) → is_some (looked key q xs) ≡ has_key key q xs
looked_has key q [] = refl
looked_has {X = X} key q (y ∷ ys) = of (key_eq q (key y)) (looked_has key q ys)
  where
    of : (b : Bool) → is_some (looked key q ys) ≡ has_key key q ys → is_some (cond b (Some y) (looked key q ys)) ≡ (b || has_key key q ys)
    of true ih = refl
    of false ih = ih

pub looked_same : {X : Type 0} (key : X → Key) (p q : Key) (xs : List X) → key_eq p q ≡ true → looked key p xs ≡ looked key q xs
looked_same key p q [] e = refl
looked_same key p q (y ∷ ys) e =
    ap (λ b. cond b (Some y) (looked key p ys)) (key_eq-same p q e (key y)) ∙ ap (λ o. cond (key_eq q (key y)) (Some y) o) (looked_same key p q ys e)

looked_first : {X : Type 0} (key : X → Key) (x : X) (xs : List X) → looked key (key x) (x ∷ xs) ≡ Some x
looked_first key x xs = cond-true (key_eq (key x) (key x)) (Some x) (looked key (key x) xs) (key_eq-itself (key x))

pub before_all-from : {X : Type 0} (key : X → Key) (q k : Key) (xs : List X) → ((c : Key) → comes_before k c ≡ true → comes_before q c ≡ true) →
    before_all key k xs ≡ true → before_all key q xs ≡ true
before_all-from key q k [] more h = refl
before_all-from key q k (x ∷ xs) more h = let p = and_parts _ _ h in and_from _ _ (more (key x) p.0) (before_all-from key q k xs more p.1)

pub none_behind : {X : Type 0} (key : X → Key) (k : Key) (xs : List X) → before_all key k xs ≡ true → has_key key k xs ≡ false
none_behind key k [] h = refl
none_behind key k (x ∷ xs) h = let p = and_parts _ _ h in ap (λ b. b || has_key key k xs) (before_other k (key x) p.0) ∙ none_behind key k xs p.1

-- nothing behind an element is of a question that is its own, or comes before it
pub none_same : {X : Type 0} (key : X → Key) (q k : Key) (xs : List X) → key_eq q k ≡ true → before_all key k xs ≡ true → has_key key q xs ≡ false
none_same key q k xs e h = none_behind key q xs (before_all-from key q k xs (λ c g. before_left q k e c ∙ g) h)

none_before : {X : Type 0} (key : X → Key) (q k : Key) (xs : List X) → comes_before q k ≡ true → before_all key k xs ≡ true → has_key key q xs ≡ false
none_before key q k xs e h = none_behind key q xs (before_all-from key q k xs (λ c g. before_before q k c e g) h)

none_some : {X : Type 0} (x : X) → None ≡ Some x → ⊥
none_some x e = cc

-- Lists in strict order in which the same is found are the same.
pub same_looked : {X : Type 0} (key : X → Key) (xs ys : List X) → IsStrict key xs → IsStrict key ys → ((q : Key) → looked key q xs ≡ looked key q ys) → xs ≡ ys
same_looked key [] [] s t e = refl
same_looked key [] (y ∷ ys) s t e = absurd (none_some y (e (key y) ∙ looked_first key y ys))
same_looked key (x ∷ xs) [] s t e = absurd (none_some x (sym (e (key x)) ∙ looked_first key x xs))
same_looked {X = X} key (x ∷ xs) (y ∷ ys) s t e = of (key_cmp (key x) (key y)) refl (same_looked key xs ys s.1 t.1)
  where
    alone : (a b : X) (bs : List X) → comes_before (key a) (key b) ≡ true → before_all key (key b) bs ≡ true → looked key (key a) (b ∷ bs) ≡ None
    alone a b bs less h =
        looked_none key (key a) (b ∷ bs) (ap (λ c. c || has_key key (key a) bs) (before_other (key a) (key b) less) ∙ none_before key (key a) (key b) bs less h)

    behind : (b : Bool) → key_eq (key x) (key y) ≡ true → (q : Key) → key_eq q (key x) ≡ b → cond b (Some x) (looked key q xs) ≡ cond (key_eq q (key y)) (Some y) (looked key q ys) → looked key q xs ≡ looked key q ys
    behind true one q f g =
        looked_none key q xs (none_same key q (key x) xs f s.0)
        ∙ sym (looked_none key q ys (none_same key q (key y) ys (key_eq-same q (key x) f (key y) ∙ one) t.0))
    behind false one q f g =
        let other : key_eq q (key y) ≡ false = key_eq-turned q (key y) ∙ sym (key_eq-same (key x) (key y) one q) ∙ key_eq-turned (key x) q ∙ f in
        g ∙ cond-false (key_eq q (key y)) (Some y) (looked key q ys) other

    of : (o : Ordering) → key_cmp (key x) (key y) ≡ o → (((q : Key) → looked key q xs ≡ looked key q ys) → xs ≡ ys) → x ∷ xs ≡ y ∷ ys
    of Less c rest = absurd (none_some x (sym (alone x y ys (ap is_lt c) t.0) ∙ sym (e (key x)) ∙ looked_first key x xs))
    of Equal c rest =
        let one : key_eq (key x) (key y) ≡ true = key_eq-is (key x) (key y) ∙ ap is_eq c in
        let first : Some x ≡ Some y = sym (looked_first key x xs) ∙ e (key x) ∙ cond-true (key_eq (key x) (key y)) (Some y) (looked key (key x) ys) one in
        let heads : x ≡ y = cc in
        ap (λ z. z ∷ xs) heads ∙ ap (λ zs. y ∷ zs) (rest (λ q. behind (key_eq q (key x)) one q refl (e q)))
    of Greater c rest =
        let turned : comes_before (key y) (key x) ≡ true = ap is_lt (key_cmp-total.antisymm (key y) (key x) ∙ ap ordering_reverse c) in
        absurd (none_some y (sym (alone y x xs turned s.0) ∙ e (key y) ∙ looked_first key y ys))

-- each element is found by its question
pub all_looked : {X : Type 0} (key : X → Key) (P : X → Type 0) (xs : List X) → IsStrict key xs → ((q : Key) (x : X) → looked key q xs ≡ Some x → P x) → AllByRecursion P xs
all_looked key P [] s each = tt
all_looked {X = X} key P (x ∷ xs) s each = (each (key x) x (looked_first key x xs), all_looked key P xs s.1 (λ q y h. each q y (later q y h)))
  where
    later : (q : Key) (y : X) → looked key q xs ≡ Some y → looked key q (x ∷ xs) ≡ Some y
    later q y h = of (key_eq q (key x)) refl
      where
        of : (b : Bool) → key_eq q (key x) ≡ b → cond b (Some x) (looked key q xs) ≡ Some y
        of true f = absurd (none_some y (sym (looked_none key q xs (none_same key q (key x) xs f s.0)) ∙ h))
        of false f = h

-- what holds of each element holds of what is found
pub found_holds : {X : Type 0} (key : X → Key) (P : X → Type 0) (q : Key) (xs : List X) (x : X) → AllByRecursion P xs → looked key q xs ≡ Some x → P x
found_holds key P q [] x all h = absurd (cc)
found_holds {X = X} key P q (y ∷ ys) x all h = of (key_eq q (key y)) h (found_holds key P q ys x all.1)
  where
    of : (b : Bool) → cond b (Some y) (looked key q ys) ≡ Some x → (looked key q ys ≡ Some x → P x) → P x
    of true g rest = let one : y ≡ x = cc in subst P one all.0
    of false g rest = rest g

-- an element that is put in its place
abbrev by_key : {X : Type 0} → (X → Key) → X → X → Ordering
by_key key a b = key_cmp (key a) (key b)

before_inserted : {X : Type 0} (key : X → Key) (k : Key) (x : X) (xs : List X) → comes_before k (key x) ≡ true → before_all key k xs ≡ true → before_all key k (insert_by (by_key key) x xs) ≡ true
before_inserted key k x [] h g = and_from _ _ h refl
before_inserted {X = X} key k x (y ∷ ys) h g =
    let p = and_parts _ _ g in of (comes_before (key y) (key x)) p.0 (before_inserted key k x ys h p.1)
  where
    of : (b : Bool) → comes_before k (key y) ≡ true → before_all key k (insert_by (by_key key) x ys) ≡ true → before_all key k (cond b (y ∷ insert_by (by_key key) x ys) (x ∷ y ∷ ys)) ≡ true
    of true f rest = and_from _ _ f rest
    of false f rest = and_from _ _ h g

pub strict_inserted : {X : Type 0} (key : X → Key) (x : X) (xs : List X) → has_key key (key x) xs ≡ false → IsStrict key xs → IsStrict key (insert_by (by_key key) x xs)
strict_inserted key x [] none s = (refl, tt)
strict_inserted {X = X} key x (y ∷ ys) none s = let p = or_parts _ _ none in of (key_cmp (key y) (key x)) refl p.0 (strict_inserted key x ys p.1 s.1)
  where
    of : (o : Ordering) → key_cmp (key y) (key x) ≡ o → key_eq (key x) (key y) ≡ false → IsStrict key (insert_by (by_key key) x ys) →
        IsStrict key (cond (is_lt o) (y ∷ insert_by (by_key key) x ys) (x ∷ y ∷ ys))
    of Less c other rest = (before_inserted key (key y) x ys (ap is_lt c) s.0, rest)
    of Equal c other rest =
        let one : key_eq (key x) (key y) ≡ true = key_eq-turned (key x) (key y) ∙ key_eq-is (key y) (key x) ∙ ap is_eq c in absurd (cc)
    of Greater c other rest =
        let first : comes_before (key x) (key y) ≡ true = ap is_lt (key_cmp-total.antisymm (key x) (key y) ∙ ap ordering_reverse c) in
        (and_from _ _ first (before_all-from key (key x) (key y) ys (λ k g. before_before (key x) (key y) k first g) s.0), s)

pub looked_inserted : {X : Type 0} (key : X → Key) (q : Key) (x : X) (xs : List X) → has_key key (key x) xs ≡ false →
    looked key q (insert_by (by_key key) x xs) ≡ cond (key_eq q (key x)) (Some x) (looked key q xs)
looked_inserted key q x [] none = refl
looked_inserted {X = X} key q x (y ∷ ys) none = let p = or_parts _ _ none in of (comes_before (key y) (key x)) p.0 (looked_inserted key q x ys p.1)
  where
    swapped : (a b : Bool) → key_eq q (key x) ≡ a → key_eq q (key y) ≡ b → key_eq (key x) (key y) ≡ false → cond b (Some y) (cond a (Some x) (looked key q ys)) ≡ cond a (Some x) (cond b (Some y) (looked key q ys))
    swapped true true f g other = let one : key_eq q (key y) ≡ key_eq (key x) (key y) = key_eq-same q (key x) f (key y) in absurd (cc)
    swapped true false f g other = refl
    swapped false true f g other = refl
    swapped false false f g other = refl

    of : (b : Bool) → key_eq (key x) (key y) ≡ false → looked key q (insert_by (by_key key) x ys) ≡ cond (key_eq q (key x)) (Some x) (looked key q ys) →
        looked key q (cond b (y ∷ insert_by (by_key key) x ys) (x ∷ y ∷ ys)) ≡ cond (key_eq q (key x)) (Some x) (looked key q (y ∷ ys))
    of true other ih = ap (λ o. cond (key_eq q (key y)) (Some y) o) ih ∙ swapped (key_eq q (key x)) (key_eq q (key y)) refl refl other
    of false other ih = refl

-- elements that are mapped or filtered
before_all-map : {X Y : Type 0} (key : Y → Key) (f : X → Y) (k : Key) (xs : List X) → before_all key k (map f xs) ≡ before_all (λ x. key (f x)) k xs
before_all-map key f k [] = refl
before_all-map key f k (x ∷ xs) = ap (λ b. comes_before k (key (f x)) && b) (before_all-map key f k xs)

pub strict_map : {X Y : Type 0} (key : Y → Key) (f : X → Y) (xs : List X) → IsStrict (λ x. key (f x)) xs → IsStrict key (map f xs)
strict_map key f [] s = tt
strict_map key f (x ∷ xs) s = (before_all-map key f (key (f x)) xs ∙ s.0, strict_map key f xs s.1)

pub strict_unmap : {X Y : Type 0} (key : Y → Key) (f : X → Y) (xs : List X) → IsStrict key (map f xs) → IsStrict (λ x. key (f x)) xs
strict_unmap key f [] s = tt
strict_unmap key f (x ∷ xs) s = (sym (before_all-map key f (key (f x)) xs) ∙ s.0, strict_unmap key f xs s.1)

pub looked_map : {X Y : Type 0} (key : Y → Key) (f : X → Y) (q : Key) (xs : List X) → looked key q (map f xs) ≡ option_map f (looked (λ x. key (f x)) q xs)
looked_map key f q [] = refl
looked_map {X = X} key f q (x ∷ xs) = of (key_eq q (key (f x))) (looked_map key f q xs)
  where
    of : (b : Bool) → looked key q (map f xs) ≡ option_map f (looked (λ y. key (f y)) q xs) → cond b (Some (f x)) (looked key q (map f xs)) ≡ option_map f (cond b (Some x) (looked (λ y. key (f y)) q xs))
    of true ih = refl
    of false ih = ih

before_all-filter : {X : Type 0} (key : X → Key) (p : X → Bool) (k : Key) (xs : List X) → before_all key k xs ≡ true → before_all key k (filter p xs) ≡ true
before_all-filter key p k [] h = refl
before_all-filter {X = X} key p k (x ∷ xs) h = let g = and_parts _ _ h in of (p x) g.0 (before_all-filter key p k xs g.1)
  where
    of : (b : Bool) → comes_before k (key x) ≡ true → before_all key k (filter p xs) ≡ true → before_all key k (cond b (x ∷ filter p xs) (filter p xs)) ≡ true
    of true f rest = and_from _ _ f rest
    of false f rest = rest

pub strict_filter : {X : Type 0} (key : X → Key) (p : X → Bool) (xs : List X) → IsStrict key xs → IsStrict key (filter p xs)
strict_filter key p [] s = tt
strict_filter {X = X} key p (x ∷ xs) s = of (p x) (strict_filter key p xs s.1)
  where
    of : (b : Bool) → IsStrict key (filter p xs) → IsStrict key (cond b (x ∷ filter p xs) (filter p xs))
    of true rest = (before_all-filter key p (key x) xs s.0, rest)
    of false rest = rest

-- what may be there, where it passes a test
abbrev pub if_passes : {X : Type 0} → (X → Bool) → Option X → Option X
if_passes p None = None
if_passes p (Some x) = cond (p x) (Some x) None

pub looked_filter : {X : Type 0} (key : X → Key) (p : X → Bool) (q : Key) (xs : List X) → IsStrict key xs → looked key q (filter p xs) ≡ if_passes p (looked key q xs)
looked_filter key p q [] s = refl
looked_filter {X = X} key p q (x ∷ xs) s = of (p x) refl (key_eq q (key x)) refl (looked_filter key p q xs s.1)
  where
    of : (b : Bool) → p x ≡ b → (c : Bool) → key_eq q (key x) ≡ c → looked key q (filter p xs) ≡ if_passes p (looked key q xs) →
        looked key q (cond b (x ∷ filter p xs) (filter p xs)) ≡ if_passes p (cond c (Some x) (looked key q xs))
    of true e true f ih = cond-true (key_eq q (key x)) (Some x) (looked key q (filter p xs)) f ∙ sym (cond-true (p x) (Some x) None e)
    of true e false f ih = cond-false (key_eq q (key x)) (Some x) (looked key q (filter p xs)) f ∙ ih
    of false e true f ih =
        ih ∙ ap (if_passes p) (looked_none key q xs (none_same key q (key x) xs f s.0)) ∙ sym (cond-false (p x) (Some x) None e)
    of false e false f ih = ih

-- questions in order, each once
abbrev itself : Key → Key
itself k = k

-- No question is one of those behind it.
abbrev AreApart : List Key → Type 0
AreApart [] = Unit {0}
AreApart (k ∷ ks) = (has_key itself k ks ≡ false) × AreApart ks

apart_filter : (p : Key → Bool) (ks : List Key) → AreApart ks → AreApart (filter p ks)
apart_filter p [] h = tt
apart_filter p (k ∷ ks) h = of (p k) (apart_filter p ks h.1)
  where
    of : (b : Bool) → AreApart (filter p ks) → AreApart (cond b (k ∷ filter p ks) (filter p ks))
    of true rest = (none-filter (λ j. key_eq k j) p ks h.0, rest)
    of false rest = rest

-- without those that are one question, another is still there
other_stays : (q k : Key) → key_eq q k ≡ false → (ks : List Key) → has_key itself q (filter (λ j. not (key_eq k j)) ks) ≡ has_key itself q ks
other_stays q k other [] = refl
other_stays q k other (j ∷ ks) = of (key_eq k j) refl (other_stays q k other ks)
  where
    of : (b : Bool) → key_eq k j ≡ b → has_key itself q (filter (λ i. not (key_eq k i)) ks) ≡ has_key itself q ks →
        has_key itself q (cond (not b) (j ∷ filter (λ i. not (key_eq k i)) ks) (filter (λ i. not (key_eq k i)) ks)) ≡ has_key itself q (j ∷ ks)
    of true e ih =
        let unlike : key_eq q j ≡ false = key_eq-turned q j ∙ sym (key_eq-same k j e q) ∙ key_eq-turned k q ∙ other in
        ih ∙ sym (ap (λ c. c || has_key itself q ks) unlike)
    of false e ih = ap (λ c. key_eq q j || c) ih

none_stays : (k : Key) (ks : List Key) → has_key itself k (filter (λ j. not (key_eq k j)) ks) ≡ false
none_stays k [] = refl
none_stays k (j ∷ ks) = of (key_eq k j) refl (none_stays k ks)
  where
    of : (b : Bool) → key_eq k j ≡ b → has_key itself k (filter (λ i. not (key_eq k i)) ks) ≡ false → has_key itself k (cond (not b) (j ∷ filter (λ i. not (key_eq k i)) ks) (filter (λ i. not (key_eq k i)) ks)) ≡ false
    of true e ih = ih
    of false e ih = ap (λ c. c || has_key itself k (filter (λ i. not (key_eq k i)) ks)) e ∙ ih

has_once : (q : Key) (ks : List Key) → has_key itself q (each_once key_eq ks) ≡ has_key itself q ks
has_once q [] = refl
has_once q (k ∷ ks) = of (key_eq q k) refl (has_once q ks)
  where
    of : (b : Bool) → key_eq q k ≡ b → has_key itself q (each_once key_eq ks) ≡ has_key itself q ks →
        (b || has_key itself q (filter (λ j. not (key_eq k j)) (each_once key_eq ks))) ≡ (b || has_key itself q ks)
    of true e ih = refl
    of false e ih = other_stays q k e (each_once key_eq ks) ∙ ih

apart_once : (ks : List Key) → AreApart (each_once key_eq ks)
apart_once [] = tt
apart_once (k ∷ ks) = (none_stays k (each_once key_eq ks), apart_filter (λ j. not (key_eq k j)) (each_once key_eq ks) (apart_once ks))

has_sorted : (q : Key) (ks : List Key) → has_key itself q (sorted_by key_cmp ks) ≡ has_key itself q ks
has_sorted q ks = any-sorted key_cmp (key_eq q) ks

strict_sorted : (ks : List Key) → AreApart ks → IsStrict itself (sorted_by key_cmp ks)
strict_sorted [] apart = tt
strict_sorted (k ∷ ks) apart = strict_inserted itself k (sorted_by key_cmp ks) (has_sorted k ks ∙ apart.0) (strict_sorted ks apart.1)

ordered-is : (ks : List Key) → ordered key_cmp ks ≡ sorted_by key_cmp (each_once key_eq ks)
ordered-is ks = sym (ap (λ (eq : Key → Key → Bool). sorted_by key_cmp (each_once eq ks)) (λ i x y. key_eq-is x y i))

pub has_ordered : (q : Key) (ks : List Key) → has_key itself q (ordered key_cmp ks) ≡ has_key itself q ks
has_ordered q ks = ap (has_key itself q) (ordered-is ks) ∙ has_sorted q (each_once key_eq ks) ∙ has_once q ks

pub strict_ordered : (ks : List Key) → IsStrict itself (ordered key_cmp ks)
strict_ordered ks = subst (λ zs. IsStrict itself zs) (sym (ordered-is ks)) (strict_sorted (each_once key_eq ks) (apart_once ks))

-- what is given for questions in order, each for its own
module _ {X : Type 0} (key : X → Key) (give : Key → Option X) (own : (k : Key) (x : X) → give k ≡ Some x → key_eq k (key x) ≡ true) where
  before_given : (k : Key) (ks : List Key) → before_all itself k ks ≡ true → before_all key k (filter_map give ks) ≡ true
  before_given k [] h = refl
  before_given k (j ∷ ks) h = let p = and_parts _ _ h in of (give j) refl p.0 (before_given k ks p.1)
    where
      of : (o : Option X) → give j ≡ o → comes_before k j ≡ true → before_all key k (filter_map give ks) ≡ true → before_all key k (cons_option o (filter_map give ks)) ≡ true
      of None e f rest = rest
      of (Some x) e f rest = and_from _ _ (sym (before_right j (key x) (own j x e) k) ∙ f) rest

  pub strict_given : (ks : List Key) → IsStrict itself ks → IsStrict key (filter_map give ks)
  strict_given [] s = tt
  strict_given (k ∷ ks) s = of (give k) refl (strict_given ks s.1)
    where
      of : (o : Option X) → give k ≡ o → IsStrict key (filter_map give ks) → IsStrict key (cons_option o (filter_map give ks))
      of None e rest = rest
      of (Some x) e rest =
          (before_all-from key (key x) k (filter_map give ks) (λ c g. sym (before_left k (key x) (own k x e) c) ∙ g) (before_given k ks s.0), rest)

  pub looked_given : ((j k : Key) → key_eq j k ≡ true → give j ≡ give k) → (q : Key) (ks : List Key) → looked key q (filter_map give ks) ≡ cond (has_key itself q ks) (give q) None
  looked_given alike q [] = refl
  looked_given alike q (k ∷ ks) = of (give k) refl (key_eq q k) refl (looked_given alike q ks)
    where
      none : (b : Bool) → give q ≡ None → None ≡ cond b (give q) None
      none true e = sym e
      none false e = refl

      of : (o : Option X) → give k ≡ o → (b : Bool) → key_eq q k ≡ b → looked key q (filter_map give ks) ≡ cond (has_key itself q ks) (give q) None →
          looked key q (cons_option o (filter_map give ks)) ≡ cond (b || has_key itself q ks) (give q) None
      of None e true f ih =
          let nothing : give q ≡ None = alike q k f ∙ e in ih ∙ sym (none (has_key itself q ks) nothing) ∙ sym nothing
      of None e false f ih = ih
      of (Some x) e true f ih =
          cond-true (key_eq q (key x)) (Some x) (looked key q (filter_map give ks)) (key_eq-same q k f (key x) ∙ own k x e) ∙ sym (alike q k f ∙ e)
      of (Some x) e false f ih =
          let other : key_eq q (key x) ≡ false = key_eq-turned q (key x) ∙ sym (key_eq-same k (key x) (own k x e) q) ∙ key_eq-turned k q ∙ f in
          cond-false (key_eq q (key x)) (Some x) (looked key q (filter_map give ks)) other ∙ ih
