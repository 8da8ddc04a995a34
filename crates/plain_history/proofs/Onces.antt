-- Each element once, where one more element stands behind the others.
use Rattle.std.proofs.Common.{◌≡◌, ℕ, Bool, true, false, not, ◌&&◌, ◌||◌, cond, List, [], ◌∷◌, ◌++◌, refl, ap, sym, ◌∙◌, append-nil, append_assoc, ◌<◌, ◌+◌, suc, add-one, length, get_or, drop, drop-cons}
use Rattle.std.specs.Prelude.{filter, map}
use Rattle.std.specs.List.{list_any}
use Rattle.std.proofs.lemmas.List.Elements.{filter-append}
use Rattle.lists.specs.Lists.{each_once, count_up}
use Rattle.plain_history.specs.Kept.{kept_if}

filter_kept : {X : Type 0} (p : X → Bool) (b : Bool) (x : X) → filter p (kept_if b x) ≡ kept_if (b && p x) x
filter_kept p false x = refl
filter_kept p true x = one (p x)
  where
    one : (b : Bool) → cond b (x ∷ []) [] ≡ kept_if (true && b) x
    one true = refl
    one false = refl

turned : (a b : Bool) → not b && not a ≡ not (a || b)
turned true true = refl
turned true false = refl
turned false true = refl
turned false false = refl

-- an element behind others is kept where none of them equals it
pub once_more : {X : Type 0} (eq : X → X → Bool) (xs : List X) (y : X) →
    each_once eq (xs ++ y ∷ []) ≡ each_once eq xs ++ kept_if (not (list_any (λ x. eq x y) xs)) y
once_more eq [] y = refl
once_more {X = X} eq (x ∷ xs) y =
    ap (λ (l : List X). x ∷ filter (λ z. not (eq x z)) l) (once_more eq xs y)
    ∙ ap (λ (l : List X). x ∷ l) (filter-append (λ z. not (eq x z)) (each_once eq xs) (kept_if (not (list_any (λ z. eq z y) xs)) y)
    ∙ ap (λ (l : List X). filter (λ z. not (eq x z)) (each_once eq xs) ++ l)
    (filter_kept (λ z. not (eq x z)) (not (list_any (λ z. eq z y) xs)) y ∙ ap (λ (b : Bool). kept_if b y) (turned (eq x y) (list_any (λ z. eq z y) xs))))

and_true : (a : Bool) → a && true ≡ a
and_true true = refl
and_true false = refl

and_false : (a : Bool) → a && false ≡ false
and_false true = refl
and_false false = refl

any_filter : {X : Type 0} (p q : X → Bool) (xs : List X) → list_any p (filter q xs) ≡ list_any (λ x. p x && q x) xs
any_filter p q [] = refl
any_filter {X = X} p q (x ∷ xs) = one (any_filter p q xs) (q x)
  where
    one : list_any p (filter q xs) ≡ list_any (λ z. p z && q z) xs → (b : Bool) → list_any p (cond b (x ∷ filter q xs) (filter q xs)) ≡ (p x && b) || list_any (λ z. p z && q z) xs
    one ih true = ap (λ (c : Bool). p x || c) ih ∙ ap (λ (c : Bool). c || list_any (λ z. p z && q z) xs) (sym (and_true (p x)))
    one ih false = ih ∙ ap (λ (c : Bool). c || list_any (λ z. p z && q z) xs) (sym (and_false (p x)))

-- the same of the elements that pass a test
pub once_kept_more : {X : Type 0} (eq : X → X → Bool) (q : X → Bool) (xs : List X) (y : X) →
    each_once eq (filter q (xs ++ y ∷ [])) ≡ each_once eq (filter q xs) ++ kept_if (q y && not (list_any (λ x. eq x y && q x) xs)) y
once_kept_more {X = X} eq q xs y = ap (each_once eq) (filter-append q xs (y ∷ [])) ∙ one (q y)
  where
    one : (b : Bool) → each_once eq (filter q xs ++ kept_if b y) ≡ each_once eq (filter q xs) ++ kept_if (b && not (list_any (λ x. eq x y && q x) xs)) y
    one true = once_more eq (filter q xs) y ∙ ap (λ (b : Bool). each_once eq (filter q xs) ++ kept_if (not b) y) (any_filter (λ x. eq x y) q xs)
    one false = ap (each_once eq) (append-nil (filter q xs)) ∙ sym (append-nil (each_once eq (filter q xs)))

-- what is made of the elements that are kept, where it passes another test
pub made_kept : {X Y : Type 0} (f : X → Y) (p : Y → Bool) (b : Bool) (x : X) → filter p (map f (kept_if b x)) ≡ kept_if (b && p (f x)) (f x)
made_kept f p true x = refl
made_kept f p false x = refl

-- the elements that pass a test, with one more in front, behind others
pub kept_front : {X : Type 0} (b : Bool) (x : X) (before rest : List X) → (before ++ kept_if b x) ++ rest ≡ before ++ cond b (x ∷ rest) rest
kept_front true x before rest = append_assoc before (x ∷ []) rest
kept_front false x before rest = append_assoc before [] rest

-- what is left of a list begins with the element at the place
pub drop_front : {X : Type 0} (xs : List X) (i : ℕ) (x : X) → i < length xs → x ≡ get_or xs i x → drop i xs ≡ x ∷ drop (i + 1) xs
drop_front {X = X} xs i x h e = drop-cons xs i x h ∙ ap (λ (y : X). y ∷ drop (suc i) xs) (sym e) ∙ ap (λ n. x ∷ drop n xs) (sym (add-one i))

-- the numbers from one on begin with it
pub count_front : (a b n m : ℕ) → b ≡ a + 1 → n ≡ m + 1 → count_up a n ≡ a ∷ count_up b m
count_front a b n m e f = ap (count_up a) (f ∙ add-one m) ∙ ap (λ k. a ∷ count_up k m) (sym e)

-- those of them that pass a test, behind others
pub counted_front : (p : ℕ → Bool) (a b n m : ℕ) (before : List ℕ) → b ≡ a + 1 → n ≡ m + 1 → (before ++ kept_if (p a) a) ++ filter p (count_up b m) ≡ before ++ filter p (count_up a n)
counted_front p a b n m before e f = kept_front (p a) a before (filter p (count_up b m)) ∙ ap (λ (l : List ℕ). before ++ filter p l) (sym (count_front a b n m e f))
