-- What is put behind others where no equal one is there, is each of it once.
use Rattle.std.proofs.Common.{◌≡◌, Bool, true, false, not, ◌&&◌, ◌||◌, cond, List, [], ◌∷◌, ◌++◌, filter, refl, ap, sym, ◌∙◌, append-nil, append_assoc}
use Rattle.std.specs.List.{list_any, list_all}
use Rattle.std.specs.Cmp.{IsEquivalence}
use Rattle.std.proofs.lemmas.Bool.{and_parts, and_from}
use Rattle.std.proofs.lemmas.List.Folds.{list_any-append}
use Rattle.std.proofs.lemmas.List.Elements.{filter_agree}
use Rattle.std.proofs.lemmas.List.Sums.{fold-append}
use Rattle.lists.specs.Lists.{each_once}
use Rattle.indexmap.specs.IndexSet.{insert_key, insert_all}

filter_both : {X : Type 0} (p q : X → Bool) (xs : List X) → filter p (filter q xs) ≡ filter (λ x. q x && p x) xs
filter_both p q [] = refl
filter_both {X = X} p q (x ∷ xs) = of (q x) (filter_both p q xs)
  where
    rest : List X
    rest = filter (λ y. q y && p y) xs

    of : (b : Bool) → filter p (filter q xs) ≡ rest → filter p (cond b (x ∷ filter q xs) (filter q xs)) ≡ cond (b && p x) (x ∷ rest) rest
    of true e = ap (λ (l : List X). cond (p x) (x ∷ l) l) e
    of false e = e

all_pass : {X : Type 0} (xs : List X) → filter (λ x. true) xs ≡ xs
all_pass [] = refl
all_pass {X = X} (x ∷ xs) = ap (λ (l : List X). x ∷ l) (all_pass xs)

-- what is put and then more, is put with it
pub all_more : {X : Type 0} (eq : X → X → Bool) (ks xs ys : List X) → insert_all eq ks (xs ++ ys) ≡ insert_all eq (insert_all eq ks xs) ys
all_more eq ks xs ys = fold-append (insert_key eq) ks xs ys

module _ {X : Type 0} (eq : X → X → Bool) (laws : IsEquivalence eq) where
  abbrev has : List X → X → Bool
  has ks x = list_any (eq x) ks

  -- those that aren't there yet
  abbrev new : List X → List X → List X
  new ks xs = filter (λ x. not (has ks x)) xs

  -- elements that are equal are there or not
  has_alike : (ks : List X) (x y : X) → eq x y ≡ true → has ks x ≡ has ks y
  has_alike ks x y e = (λ i. list_any (λ z. laws.congr x y z e i) ks)

  -- what is new beside one that is there, is not equal to that
  apart : (ks : List X) (x y : X) → has ks x ≡ true → (not (eq x y) && not (has ks y)) ≡ not (has ks y)
  apart ks x y there = of (eq x y) refl
    where
      of : (b : Bool) → eq x y ≡ b → (not b && not (has ks y)) ≡ not (has ks y)
      of true e = ap not (sym there ∙ has_alike ks x y e)
      of false e = refl

  later : (ks : List X) (x y : X) → not (has (ks ++ x ∷ []) y) ≡ (not (eq x y) && not (has ks y))
  later ks x y = ap not (list_any-append (eq y) ks (x ∷ [])) ∙ ap (λ b. not (has ks y || (b || false))) (laws.symm y x) ∙ of (has ks y) (eq x y)
    where
      of : (a b : Bool) → not (a || (b || false)) ≡ (not b && not a)
      of true true = refl
      of true false = refl
      of false true = refl
      of false false = refl

  -- what is put behind others is what is new, each once
  put : (ks xs : List X) → insert_all eq ks xs ≡ ks ++ new ks (each_once eq xs)
  put ks [] = sym (append-nil ks)
  put ks (x ∷ xs) = of (has ks x) refl (λ others. put others xs)
    where
      once : List X
      once = each_once eq xs

      rest : List X
      rest = filter (λ y. not (eq x y)) once

      of : (b : Bool) → has ks x ≡ b → ((others : List X) → insert_all eq others xs ≡ others ++ new others once) → insert_all eq (cond b ks (ks ++ x ∷ [])) xs ≡ ks ++ cond (not b) (x ∷ new ks rest) (new ks rest)
      of true e more = more ks ∙ ap (λ (l : List X). ks ++ l) (sym (filter_both (λ y. not (has ks y)) (λ y. not (eq x y)) once ∙ filter_agree _ _ (λ y. apart ks x y e) once))
      of false e more =
          more (ks ++ x ∷ [])
          ∙ append_assoc ks (x ∷ []) (new (ks ++ x ∷ []) once)
          ∙ ap (λ (l : List X). ks ++ x ∷ l) (filter_agree _ _ (λ y. later ks x y) once ∙ sym (filter_both (λ y. not (has ks y)) (λ y. not (eq x y)) once))

  -- what is put behind nothing is each of it once
  pub each_put : (xs : List X) → insert_all eq [] xs ≡ each_once eq xs
  each_put xs = put [] xs ∙ all_pass (each_once eq xs)

-- whether each of these is there
abbrev pub are_in : {X : Type 0} → (X → X → Bool) → List X → List X → Bool
are_in eq ks xs = list_all (λ x. list_any (eq x) ks) xs

module _ {X : Type 0} (eq : X → X → Bool) where
  -- what is there is put again without a change
  pub put_again : (ks xs : List X) → are_in eq ks xs ≡ true → insert_all eq ks xs ≡ ks
  put_again ks [] h = refl
  put_again ks (x ∷ xs) h =
      let parts = and_parts (list_any (eq x) ks) (are_in eq ks xs) h in
      ap (λ b. insert_all eq (cond b ks (ks ++ x ∷ [])) xs) parts.0 ∙ put_again ks xs parts.1

  -- what is there stays there
  key_stays : (ks : List X) (y x : X) → list_any (eq x) ks ≡ true → list_any (eq x) (insert_key eq ks y) ≡ true
  key_stays ks y x h = of (list_any (eq y) ks)
    where
      of : (b : Bool) → list_any (eq x) (cond b ks (ks ++ y ∷ [])) ≡ true
      of true = h
      of false = list_any-append (eq x) ks (y ∷ []) ∙ ap (λ b. b || list_any (eq x) (y ∷ [])) h

  keys_stay : (ks ys : List X) (x : X) → list_any (eq x) ks ≡ true → list_any (eq x) (insert_all eq ks ys) ≡ true
  keys_stay ks [] x h = h
  keys_stay ks (y ∷ ys) x h = keys_stay (insert_key eq ks y) ys x (key_stays ks y x h)

  pub still_in : (ks ys xs : List X) → are_in eq ks xs ≡ true → are_in eq (insert_all eq ks ys) xs ≡ true
  still_in ks ys [] h = refl
  still_in ks ys (x ∷ xs) h =
      let parts = and_parts (list_any (eq x) ks) (are_in eq ks xs) h in
      and_from (list_any (eq x) (insert_all eq ks ys)) (are_in eq (insert_all eq ks ys) xs) (keys_stay ks ys x parts.0) (still_in ks ys xs parts.1)

  -- what was put is there
  pub all_in : IsEquivalence eq → (ks xs : List X) → are_in eq (insert_all eq ks xs) xs ≡ true
  all_in laws ks [] = refl
  all_in laws ks (x ∷ xs) =
      and_from (list_any (eq x) (insert_all eq (insert_key eq ks x) xs)) (are_in eq (insert_all eq (insert_key eq ks x) xs) xs)
      (keys_stay (insert_key eq ks x) xs x (of (list_any (eq x) ks) refl)) (all_in laws (insert_key eq ks x) xs)
    where
      of : (b : Bool) → list_any (eq x) ks ≡ b → list_any (eq x) (cond b ks (ks ++ x ∷ [])) ≡ true
      of true e = e
      of false e = list_any-append (eq x) ks (x ∷ []) ∙ ap (λ b. b || list_any (eq x) (x ∷ [])) e ∙ ap (λ b. b || false) (laws.refl x)
