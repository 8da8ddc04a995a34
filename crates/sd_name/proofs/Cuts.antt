-- The pieces of a list that is cut at each element that passes a test.
use Rattle.std.proofs.Common.{◌≡◌, ℕ, ◌+◌, ◌-◌, ◌<◌, ◌≤◌, Bool, true, false, not, cond, ltb, ◌==◌, List, [], ◌∷◌, ◌∙◌, length, take, drop, refl, ap, sym, arith, Some, None}
use Rattle.std.proofs.lemmas.Bool.{ltb-true, ltb-false, ne_eqb}
use Rattle.std.proofs.lemmas.List.{take_rest}
use Rattle.std.proofs.lemmas.List.Splits.{slice_split_first}
use Rattle.std.proofs.lemmas.Option.{cond_some}
use Rattle.sd_name.specs.ServiceTypes.{is_end}
use Rattle.std.specs.List.{slice_split, onto_first, position, position_or_len}

-- the first piece ends where the first element passes
pub slice_split-at : (p : ℕ → Bool) (xs : List ℕ) (i : ℕ) → Some i ≡ position p xs → slice_split p xs ≡ take i xs ∷ slice_split p (take (length xs - (i + 1)) (drop (i + 1) xs))
slice_split-at p xs i found =
    let at = cond_some (ltb (position_or_len p xs) (length xs)) (position_or_len p xs) i (sym found) in
    slice_split_first p xs 0 (ltb-true (position_or_len p xs) (length xs) at.0)
    ∙ rw (take_rest xs (i + 1)) (ap (λ n. take n xs ∷ slice_split p (drop (n + 1) xs)) at.1)

whole : (p : ℕ → Bool) (xs : List ℕ) → length xs ≤ position_or_len p xs → slice_split p xs ≡ xs ∷ []
whole p [] none = refl
whole p (x ∷ xs) none = step (p x) none (whole p xs)
  where
    step : (b : Bool) → length (x ∷ xs) ≤ cond (not b) (1 + position_or_len p xs) 0 → (length xs ≤ position_or_len p xs → slice_split p xs ≡ xs ∷ []) → cond b ([] ∷ slice_split p xs) (onto_first x (slice_split p xs)) ≡ (x ∷ xs) ∷ []
    step true none rest = absurd (omega arith)
    step false none rest = ap (onto_first x) (rest (omega arith))

-- there is one piece where no element passes
pub slice_split-none : (p : ℕ → Bool) (xs : List ℕ) → None ≡ position p xs → slice_split p xs ≡ xs ∷ []
slice_split-none p xs none = whole p xs (ltb-false (position_or_len p xs) (length xs) (fails (ltb (position_or_len p xs) (length xs)) none))
  where
    fails : (b : Bool) → None ≡ cond b (Some (position_or_len p xs)) None → b ≡ false
    fails true e = cc
    fails false e = refl

has_piece : (p : ℕ → Bool) (xs : List ℕ) → 0 < length (slice_split p xs)
has_piece p [] = omega arith
has_piece p (x ∷ xs) = step (p x) (slice_split p xs)
  where
    step : (b : Bool) (pieces : List (List ℕ)) → 0 < length (cond b ([] ∷ pieces) (onto_first x pieces))
    step true pieces = omega arith
    step false [] = omega arith
    step false (piece ∷ pieces) = omega arith

-- there is one piece, and it is empty, exactly where the list is
pub is_end-slice_split : (p : ℕ → Bool) (xs : List ℕ) → (length xs == 0) ≡ is_end (slice_split p xs)
is_end-slice_split p [] = refl
is_end-slice_split p (x ∷ xs) = some x xs ∙ sym (step (p x) (slice_split p xs) (has_piece p xs))
  where
    some : (y : ℕ) (ys : List ℕ) → (length (y ∷ ys) == 0) ≡ false
    some y ys = ne_eqb (length (y ∷ ys)) 0 (λ e. absurd (omega (arith, e)))

    step : (b : Bool) (pieces : List (List ℕ)) → 0 < length pieces → is_end (cond b ([] ∷ pieces) (onto_first x pieces)) ≡ false
    step b [] has = absurd (omega arith)
    step true (piece ∷ pieces) has = refl
    step false (piece ∷ []) has = some x piece
    step false (piece ∷ next ∷ pieces) has = refl
