-- Lists put in order one by one.
use Rattle.std.proofs.Common.{◌≡◌, Bool, true, false, cond, List, [], ◌∷◌, ◌++◌, take, drop, ◌+◌, refl, ap, ◌∙◌}
use Rattle.std.specs.List.{prefix_len}
use Rattle.std.proofs.Math.Numerals.{one-add}
use Rattle.std.specs.Ordering.{is_lt}
use Rattle.std.specs.declared.cmp.Ordering.{Ordering}
use Rattle.lists.specs.Lists.{insert_by, sorted_by}
use Rattle.plain_history.specs.Sorting.{sorted_onto}

-- the last element goes in first
pub sorted_onto-last : {X : Type 0} (cmp : X → X → Ordering) (xs : List X) (x : X) (sorted : List X) → sorted_onto cmp (xs ++ x ∷ []) sorted ≡ sorted_onto cmp xs (insert_by cmp x sorted)
sorted_onto-last cmp [] x sorted = refl
sorted_onto-last cmp (y ∷ xs) x sorted = ap (insert_by cmp y) (sorted_onto-last cmp xs x sorted)

-- put into none, they are in order
pub sorted_onto-none : {X : Type 0} (cmp : X → X → Ordering) (xs : List X) → sorted_onto cmp xs [] ≡ sorted_by cmp xs
sorted_onto-none cmp [] = refl
sorted_onto-none cmp (x ∷ xs) = ap (insert_by cmp x) (sorted_onto-none cmp xs)

-- where an element goes
pub insert_place : {X : Type 0} (cmp : X → X → Ordering) (x : X) (ys : List X) →
    take (prefix_len (λ y. is_lt (cmp y x)) ys) ys ++ x ∷ drop (prefix_len (λ y. is_lt (cmp y x)) ys) ys ≡ insert_by cmp x ys
insert_place cmp x [] = refl
insert_place cmp x (y ∷ ys) = at (is_lt (cmp y x)) (insert_place cmp x ys)
  where
    at : (b : Bool) → take (prefix_len (λ z. is_lt (cmp z x)) ys) ys ++ x ∷ drop (prefix_len (λ z. is_lt (cmp z x)) ys) ys ≡ insert_by cmp x ys →
        take (cond b (1 + prefix_len (λ z. is_lt (cmp z x)) ys) 0) (y ∷ ys) ++ x ∷ drop (cond b (1 + prefix_len (λ z. is_lt (cmp z x)) ys) 0) (y ∷ ys) ≡ cond b (y ∷ insert_by cmp x ys) (x ∷ y ∷ ys)
    at true ih = ap (λ n. take n (y ∷ ys) ++ x ∷ drop n (y ∷ ys)) (one-add (prefix_len (λ z. is_lt (cmp z x)) ys)) ∙ ap (λ l. y ∷ l) ih
    at false ih = refl
