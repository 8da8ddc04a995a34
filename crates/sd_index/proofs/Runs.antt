-- What is found at the numbers of a name, one after the other, is what is filed under it.
use Rattle.std.proofs.Common.{◌≡◌, ℕ, zero, suc, ◌<◌, ◌≤◌, eqb, Bool, true, false, cond, ◌&&◌, ⊎_elim, List, [], ◌∷◌, ◌++◌, Option, Some, None, IsPermutation, is_some, refl, sym, ap, subst, ◌∙◌, arith, append-nil}
use Rattle.std.specs.List.{AllByRecursion, IsDistinct}
use Rattle.std.specs.Option.{option_to_list}
use Rattle.std.specs.Str.{bytes_eq}
use Rattle.std.specs.Map.{keys_of, lookup}
use Rattle.std.proofs.lemmas.Bool.{and_right, cases_eq, cases_lt, eq-eqb, ne_eqb}
use Rattle.std.proofs.lemmas.List.Sorted.{IsPermutation-refl, IsPermutation-trans, IsPermutation-cons, IsPermutation-append_left, IsPermutation-to_front}
use Rattle.std.proofs.lemmas.Slice.Eq.{bytes_eq-Decides}
use Rattle.by_name.specs.At.{At, at, at_eq}
use Rattle.by_name.specs.Filed.{found, AreFiled}
use Rattle.by_name.proofs.Finding.{found_below}
use Rattle.sd_index.specs.declared.asker.Asker.{Asker}
use Rattle.sd_index.specs.Asked.{askers_of}
use Rattle.sd_index.proofs.Named.{Entry, found_there, no}

-- what is found at the first numbers of a name
pub run : List ℕ → ℕ → List Entry → List Asker
run owner zero es = []
run owner (suc n) es = run owner n es ++ option_to_list (found owner n es)

pub run-none : (owner : List ℕ) (es : List Entry) → run owner 0 es ≡ []
unfolding run
run-none owner es = refl

pub run-next : (owner : List ℕ) (n : ℕ) (es : List Entry) (one : Asker) → found owner n es ≡ Some one → run owner (suc n) es ≡ run owner n es ++ one ∷ []
unfolding run
run-next owner n es one e = ap (λ (o : Option Asker). run owner n es ++ option_to_list o) e

nothing : (owner : List ℕ) (n : ℕ) → run owner n [] ≡ []
unfolding run
nothing owner zero = refl
nothing owner (suc n) = append-nil (run owner n []) ∙ nothing owner n

module _ (owner : List ℕ) (e : Entry) (es : List Entry) where
  -- an entry of another name, or of another number, isn't found
  of_other : (k : ℕ) → bytes_eq owner e.0.owner ≡ false → found owner k (e ∷ es) ≡ found owner k es
  of_other k h = ap (λ (b : Bool). cond (b && eqb k e.0.number) (Some e.1) (found owner k es)) h

  elsewhere : (k : ℕ) → eqb k e.0.number ≡ false → found owner k (e ∷ es) ≡ found owner k es
  elsewhere k h = ap (λ (b : Bool). cond b (Some e.1) (found owner k es)) (and_right (bytes_eq owner e.0.owner) (eqb k e.0.number) h)

  others : (n : ℕ) → bytes_eq owner e.0.owner ≡ false → run owner n (e ∷ es) ≡ run owner n es
  unfolding run
  others zero h = refl
  others (suc n) h = λ i. others n h i ++ option_to_list (of_other n h i)

  before : (n : ℕ) → n ≤ e.0.number → run owner n (e ∷ es) ≡ run owner n es
  unfolding run
  before zero h = refl
  before (suc n) h = λ i. before n (omega (arith, h)) i ++ option_to_list (elsewhere n (ne_eqb n e.0.number (λ q. absurd (omega (arith, h, q)))) i)

  -- one entry more of the name
  one_more : (n : ℕ) → bytes_eq owner e.0.owner ≡ true → found owner e.0.number es ≡ None → e.0.number < n → IsPermutation (run owner n (e ∷ es)) (e.1 ∷ run owner n es)
  unfolding run
  one_more zero h none less = absurd (omega (arith, less))
  one_more (suc n) h none less = ⊎_elim here (λ apart. later apart (one_more n h none (omega (arith, less, apart)))) (cases_eq n e.0.number)
    where
      here : n ≡ e.0.number → IsPermutation (run owner n (e ∷ es) ++ option_to_list (found owner n (e ∷ es))) (e.1 ∷ (run owner n es ++ option_to_list (found owner n es)))
      here q =
          let there : found owner n (e ∷ es) ≡ Some e.1 = (λ i. cond (h i && eq-eqb n e.0.number q i) (Some e.1) (found owner n es)) in
          let gone : found owner n es ≡ None = ap (λ (k : ℕ). found owner k es) q ∙ none in
          subst (λ (o : Option Asker). IsPermutation (run owner n (e ∷ es) ++ option_to_list o) (e.1 ∷ (run owner n es ++ option_to_list (found owner n es)))) (sym there)
          (subst (λ (l : List Asker). IsPermutation (run owner n (e ∷ es) ++ e.1 ∷ []) (e.1 ∷ l)) (sym (append-nil (run owner n es)) ∙ ap (λ (o : Option Asker). run owner n es ++ option_to_list o) (sym gone))
          (subst (λ (l : List Asker). IsPermutation (l ++ e.1 ∷ []) (e.1 ∷ run owner n es)) (sym (before n (omega (arith, q)))) (IsPermutation-to_front (run owner n es) e.1)))

      later : (n ≡ e.0.number → ⊥) → IsPermutation (run owner n (e ∷ es)) (e.1 ∷ run owner n es) → IsPermutation (run owner n (e ∷ es) ++ option_to_list (found owner n (e ∷ es))) (e.1 ∷ (run owner n es ++ option_to_list (found owner n es)))
      later apart ih =
          subst (λ (o : Option Asker). IsPermutation (run owner n (e ∷ es) ++ option_to_list o) (e.1 ∷ (run owner n es ++ option_to_list (found owner n es)))) (sym (elsewhere n (ne_eqb n e.0.number apart)))
          (IsPermutation-append_left (option_to_list (found owner n es)) (run owner n (e ∷ es)) (e.1 ∷ run owner n es) ih)

-- where no key is this one nothing is found
none_there : (k : At) (es : List Entry) → AllByRecursion (λ (y : At). at_eq k y ≡ false) (keys_of es) → lookup (at_eq k) es ≡ None
none_there k [] h = refl
none_there k (e ∷ es) h = ap (λ (b : Bool). cond b (Some e.1) (lookup (at_eq k) es)) h.0 ∙ none_there k es h.1

-- each entry of a name has a number below
abbrev AreWithin : List ℕ → ℕ → List Entry → Type 0
AreWithin owner n es = AllByRecursion (λ (e : Entry). bytes_eq owner e.0.owner ≡ true → e.0.number < n) es

run-all : (owner : List ℕ) (n : ℕ) (es : List Entry) → IsDistinct at_eq (keys_of es) → AreWithin owner n es → IsPermutation (run owner n es) (askers_of owner es)
unfolding IsDistinct
run-all owner n [] distinct within = subst (λ (l : List Asker). IsPermutation l []) (sym (nothing owner n)) (IsPermutation-refl [])
run-all owner n (e ∷ es) distinct within = of (bytes_eq owner e.0.owner) refl (run-all owner n es distinct.1 within.1)
  where
    of : (b : Bool) → bytes_eq owner e.0.owner ≡ b → IsPermutation (run owner n es) (askers_of owner es) → IsPermutation (run owner n (e ∷ es)) (cond b (e.1 ∷ []) [] ++ askers_of owner es)
    of false h ih = subst (λ (l : List Asker). IsPermutation l (askers_of owner es)) (sym (others owner e es n h)) ih
    of true h ih =
        let is : e.0 ≡ at owner e.0.number = (λ i. record { owner = sym ((bytes_eq-Decides owner e.0.owner).0 h) i; number = e.0.number }) in
        let none : found owner e.0.number es ≡ None = subst (λ (k : At). lookup (at_eq k) es ≡ None) is (none_there e.0 es distinct.0) in
        IsPermutation-trans (run owner n (e ∷ es)) (e.1 ∷ run owner n es) (e.1 ∷ askers_of owner es) (one_more owner e es n h none (within.0 h)) (IsPermutation-cons e.1 (run owner n es) (askers_of owner es) ih)

-- What is found up to the first number at which nothing is found is what is filed under the name.
pub run-filed : (owner : List ℕ) (n : ℕ) (es : List Entry) → AreFiled es → found owner n es ≡ None → IsPermutation (run owner n es) (askers_of owner es)
run-filed owner n es filed none = run-all owner n es filed.distinct (within es (found_there es filed.distinct))
  where
    within : (xs : List Entry) → AllByRecursion (λ (e : Entry). lookup (at_eq e.0) es ≡ Some e.1) xs → AreWithin owner n xs
    within [] there = tt
    within (e ∷ xs) there = (below, within xs there.1)
      where
        below : bytes_eq owner e.0.owner ≡ true → e.0.number < n
        below h =
            let is : e.0 ≡ at owner e.0.number = (λ i. record { owner = sym ((bytes_eq-Decides owner e.0.owner).0 h) i; number = e.0.number }) in
            let here : found owner e.0.number es ≡ Some e.1 = subst (λ (k : At). lookup (at_eq k) es ≡ Some e.1) is there.0 in
            ⊎_elim (λ less. less) (λ past. absurd (no (found owner n es) none (found_below es filed.gapless owner e.0.number n past (ap is_some here)))) (cases_lt e.0.number n)
