-- Elements that are taken out of a list, looked at from its end on.
use Rattle.std.proofs.Common.{◌≡◌, ℕ, zero, suc, ◌<◌, ◌≤◌, Bool, true, false, cond, List, [], ◌∷◌, ◌++◌, length, take, drop, get_or, refl, ap, ◌∙◌, sym, arith}
use Rattle.std.specs.Prelude.{filter}
use Rattle.std.specs.List.{remove}

module _ {X : Type 0} (p : X → Bool) where
  -- those before a place that pass the test, and all from it on
  abbrev pub left_at : List X → ℕ → List X
  left_at xs i = filter p (take i xs) ++ drop i xs

  with_first : (y : X) (before after some others : List X) → filter p before ++ some ≡ filter p after ++ others → cond (p y) (y ∷ filter p before) (filter p before) ++ some ≡ cond (p y) (y ∷ filter p after) (filter p after) ++ others
  with_first y before after some others e = of (p y)
    where
      of : (b : Bool) → cond b (y ∷ filter p before) (filter p before) ++ some ≡ cond b (y ∷ filter p after) (filter p after) ++ others
      of true = ap (λ l. y ∷ l) e
      of false = e

  -- one that stays
  pub left_stays : (xs : List X) (i : ℕ) (x : X) → i < length xs → x ≡ get_or xs i x → p x ≡ true → left_at xs i ≡ left_at xs (suc i)
  left_stays [] i x h is e = absurd (omega arith)
  left_stays (y ∷ xs) zero x h is e = ap (λ (b : Bool). cond b (y ∷ []) [] ++ xs) (sym (ap p (sym is) ∙ e))
  left_stays (y ∷ xs) (suc i) x h is e = with_first y (take i xs) (take (suc i) xs) (drop i xs) (drop (suc i) xs) (left_stays xs i x (omega arith) is e)

  -- one that goes
  pub left_goes : (xs : List X) (i : ℕ) (x : X) → i < length xs → x ≡ get_or xs i x → p x ≡ false → left_at (remove xs i) i ≡ left_at xs (suc i)
  left_goes [] i x h is e = absurd (omega arith)
  left_goes (y ∷ xs) zero x h is e = ap (λ (b : Bool). cond b (y ∷ []) [] ++ xs) (sym (ap p (sym is) ∙ e))
  left_goes (y ∷ xs) (suc i) x h is e = with_first y (take i (remove xs i)) (take (suc i) xs) (drop i (remove xs i)) (drop (suc i) xs) (left_goes xs i x (omega arith) is e)

  pub left_all : (xs : List X) → left_at xs (length xs) ≡ filter p xs
  left_all [] = refl
  left_all (x ∷ xs) = of (p x) (left_all xs)
    where
      of : (b : Bool) → left_at xs (length xs) ≡ filter p xs
          → cond b (x ∷ filter p (take (length xs) xs)) (filter p (take (length xs) xs)) ++ drop (length xs) xs ≡ cond b (x ∷ filter p xs) (filter p xs)
      of true rest = ap (λ l. x ∷ l) rest
      of false rest = rest

pub shorter : {X : Type 0} (xs : List X) (i : ℕ) → i < length xs → i ≤ length (remove xs i)
shorter [] i h = absurd (omega arith)
shorter (x ∷ xs) zero h = omega arith
shorter (x ∷ xs) (suc i) h = let rest : i ≤ length (remove xs i) = shorter xs i (omega arith) in omega (arith, rest)
