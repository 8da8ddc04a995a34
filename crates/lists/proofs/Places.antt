-- Lists walked from the left.
use Rattle.std.proofs.Common.{◌≡◌, ℕ, zero, suc, ◌+◌, ◌≤◌, List, [], ◌∷◌, ◌∙◌, Option, Some, None, length, drop, ap, sym, arith, length-drop, Bor}
use Rattle.std.specs.Prelude.{slice_get, MatchOption}
use Rattle.std.specs.Option.{option_copied}
use Rattle.std.proofs.lemmas.List.{drop_all}
use Rattle.std.proofs.lemmas.Option.{slice_get_past}

-- one element further
pub walked : {X : Type 0} (all rest : List X) (x : X) (i : ℕ) → drop i all ≡ x ∷ rest → rest ≡ drop (i + 1) all
walked [] rest x zero e = cc
walked (y ∷ all) rest x zero e = cc
walked [] rest x (suc i) e = cc
walked (y ∷ all) rest x (suc i) e = let next : suc i + 1 ≡ suc (i + 1) = omega arith in rw next (walked all rest x i e)

pub here : {X : Type 0} (all rest : List X) (x : X) (i : ℕ) → drop i all ≡ x ∷ rest → slice_get all i ≡ Some x
here [] rest x zero e = cc
here (y ∷ all) rest x zero e = cc
here [] rest x (suc i) e = cc
here (y ∷ all) rest x (suc i) e = here all rest x i e

-- where nothing is left there is nothing further on
pub ended : {X : Type 0} (all : List X) (i place : ℕ) → drop i all ≡ [] → i ≤ place → slice_get all place ≡ None
ended all i place e h = slice_get_past all place (omega (arith, ap length e, length-drop i all))

-- what is answered there
pub answered : (all left rest : List (List ℕ)) (i : ℕ) (r : Option (Bor (List ℕ))) (Q : Bor (List ℕ) → Type 0) → left ≡ drop i all → MatchOption r ((left ≡ []) × (rest ≡ [])) (λ label. (left ≡ label.now ∷ rest) × Q label) → option_copied r ≡ slice_get all i
answered all left rest i None Q e h = sym (ended all i i (sym e ∙ h.0) (omega arith))
answered all left rest i (Some label) Q e h = sym (here all rest label.now i (sym e ∙ h.0))

past_end : (all : List (List ℕ)) (i : ℕ) → drop i all ≡ [] → drop (i + 1) all ≡ []
past_end all i e = drop_all (i + 1) all (omega (arith, ap length e, length-drop i all))

-- one step of a walk, past the end too
pub stepped : (all left rest : List (List ℕ)) (i next : ℕ) (r : Option (Bor (List ℕ))) (Q : Bor (List ℕ) → Type 0) → left ≡ drop i all → next ≡ i + 1 → MatchOption r ((left ≡ []) × (rest ≡ [])) (λ label. (left ≡ label.now ∷ rest) × Q label) → rest ≡ drop next all
stepped all left rest i next None Q e f h = h.1 ∙ sym (past_end all i (sym e ∙ h.0)) ∙ ap (λ (n : ℕ). drop n all) (sym f)
stepped all left rest i next (Some label) Q e f h = walked all rest label.now i (sym e ∙ h.0) ∙ ap (λ (n : ℕ). drop n all) (sym f)
