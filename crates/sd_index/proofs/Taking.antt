-- An operation less under a name.
use Rattle.std.proofs.Common.{◌≡◌, ℕ, Bool, true, false, cond, List, [], ◌∷◌, ◌++◌, IsPermutation, refl, sym, ap, ◌∙◌, true≢false}
use Rattle.std.specs.List.{list_any}
use Rattle.std.specs.Str.{bytes_eq}
use Rattle.std.proofs.lemmas.Slice.Eq.{bytes_eq-Decides}
use Rattle.std.proofs.lemmas.List.Sorted.{IsPermutation-sym, IsPermutation-trans, list_any-IsPermutation}
use Rattle.by_name.specs.At.{At, at}
use Rattle.by_name.specs.Filed.{IsWithout}
use Rattle.sd_index.specs.declared.asker.Asker.{Asker}
use Rattle.sd_index.specs.Asked.{asker_eq, asker_of, askers_of}
use Rattle.sd_index.proofs.Lists.{left_out, head_there}

-- what isn't there needs not be taken out
pub none_less : (name owner : List ℕ) (es : List (At × Asker)) (one : Asker) (rest : List Asker) → list_any (asker_eq one) (askers_of name es) ≡ false →
    IsPermutation (askers_of owner es) (asker_of owner (at name 0, one) ++ rest) → IsPermutation (askers_of owner es) rest
none_less name owner es one rest none h = of (bytes_eq owner name) refl h
  where
    of : (b : Bool) → bytes_eq owner name ≡ b → IsPermutation (askers_of owner es) (cond b (one ∷ []) [] ++ rest) → IsPermutation (askers_of owner es) rest
    of false e k = k
    of true e k =
        let here : owner ≡ name = (bytes_eq-Decides owner name).0 e in
        let there : list_any (asker_eq one) (askers_of owner es) ≡ true = list_any-IsPermutation (asker_eq one) (askers_of owner es) (one ∷ rest) k ∙ head_there one rest in
        absurd (true≢false (sym there ∙ ap (λ (n : List ℕ). list_any (asker_eq one) (askers_of n es)) here ∙ none))

-- where it was taken out the rest is left
pub one_less : (name owner : List ℕ) (number : ℕ) (es after : List (At × Asker)) (one : Asker) (rest : List Asker) → IsWithout name number one es after →
    IsPermutation (askers_of owner es) (asker_of owner (at name 0, one) ++ rest) → IsPermutation (askers_of owner after) rest
one_less name owner number es after one rest without h = of (bytes_eq owner name) (without (asker_of owner) (λ more x less. refl)) h
  where
    of : (b : Bool) → IsPermutation (askers_of owner es) (cond b (one ∷ []) [] ++ askers_of owner after) → IsPermutation (askers_of owner es) (cond b (one ∷ []) [] ++ rest) →
        IsPermutation (askers_of owner after) rest
    of false taken k = IsPermutation-trans _ _ _ (IsPermutation-sym _ _ taken) k
    of true taken k = left_out one (askers_of owner after) rest (IsPermutation-trans _ _ _ (IsPermutation-sym _ _ taken) k)
