-- What is found at the numbers of a name, and what is filed under it.
use Rattle.std.proofs.Common.{◌≡◌, ℕ, ◌<◌, eqb, nat_lt, Bool, true, false, cond, ◌&&◌, ⊎_elim, List, [], ◌∷◌, ◌++◌, ◌||◌, length, Option, Some, None, IsPermutation, is_some, refl, sym, ap, subst, ◌∙◌, arith, true≢false, append-nil}
use Rattle.std.specs.Prelude.{IsSome}
use Rattle.std.specs.List.{list_any, AllByRecursion, IsDistinct}
use Rattle.std.specs.Str.{bytes_eq}
use Rattle.std.specs.Map.{keys_of, lookup}
use Rattle.std.proofs.lemmas.Bool.{false≢true, cases_lt, lt-ltb}
use Rattle.std.proofs.lemmas.Slice.Eq.{bytes_eq-Decides}
use Rattle.std.proofs.lemmas.List.Concat.{flat_map-append}
use Rattle.std.proofs.lemmas.List.Sorted.{IsPermutation-append_comm}
use Rattle.by_name.specs.At.{At, at, at_eq}
use Rattle.by_name.specs.Filed.{found, AreFiled}
use Rattle.by_name.proofs.Finding.{at_eq-laws, found_below}
use Rattle.sd_index.specs.declared.asker.Asker.{Asker}
use Rattle.sd_index.specs.Asked.{asker_eq, asker_of, askers_of}
use Rattle.sd_index.proofs.Lists.{asker_same}

abbrev pub Entry : Type 0
Entry = At × Asker

-- ---- each entry is found at its place

behind : (e : Entry) (xs ys : List Entry) → AllByRecursion (λ (y : At). at_eq e.0 y ≡ false) (keys_of xs) → AllByRecursion (λ (x : Entry). lookup (at_eq x.0) ys ≡ Some x.1) xs →
    AllByRecursion (λ (x : Entry). lookup (at_eq x.0) (e ∷ ys) ≡ Some x.1) xs
behind e [] ys apart there = tt
behind e (x ∷ xs) ys apart there =
    (ap (λ (b : Bool). cond b (Some e.1) (lookup (at_eq x.0) ys)) (at_eq-laws.symm x.0 e.0 ∙ apart.0) ∙ there.0, behind e xs ys apart.1 there.1)

pub found_there : (es : List Entry) → IsDistinct at_eq (keys_of es) → AllByRecursion (λ (e : Entry). lookup (at_eq e.0) es ≡ Some e.1) es
unfolding IsDistinct
found_there [] distinct = tt
found_there (e ∷ es) distinct =
    (ap (λ (b : Bool). cond b (Some e.1) (lookup (at_eq e.0) es)) (at_eq-laws.refl e.0), behind e es es distinct.0 (found_there es distinct.1))

pub no : (o : Option Asker) → o ≡ None → IsSome o → ⊥
no None e h = false≢true h
no (Some x) e h = cc

-- ---- what holds of all that is found at the numbers of a name holds of all that is filed under it

module _ (P : Asker → Type 0) (owner : List ℕ) (number : ℕ) (es : List Entry) (filed : AreFiled es) (none : found owner number es ≡ None)
    (each : (m : ℕ) (one : Asker) → m < number → found owner m es ≡ Some one → P one) where
  all : (xs : List Entry) → AllByRecursion (λ (e : Entry). lookup (at_eq e.0) es ≡ Some e.1) xs → AllByRecursion P (askers_of owner xs)
  all [] there = tt
  all (e ∷ xs) there = of (bytes_eq owner e.0.owner) refl (all xs there.1)
    where
      of : (b : Bool) → bytes_eq owner e.0.owner ≡ b → AllByRecursion P (askers_of owner xs) → AllByRecursion P (cond b (e.1 ∷ []) [] ++ askers_of owner xs)
      of false f rest = rest
      of true f rest =
          let is : e.0 ≡ at owner e.0.number = (λ i. record { owner = sym ((bytes_eq-Decides owner e.0.owner).0 f) i; number = e.0.number }) in
          let here : found owner e.0.number es ≡ Some e.1 = subst (λ (k : At). lookup (at_eq k) es ≡ Some e.1) is there.0 in (
            ⊎_elim (λ less. each e.0.number e.1 less here)
                (λ past. absurd (no (found owner number es) none (found_below es filed.gapless owner e.0.number number past (ap is_some here)))) (cases_lt e.0.number number),
            rest,
          )

  pub all_found : AllByRecursion P (askers_of owner es)
  all_found = all es (found_there es filed.distinct)

no_one : (xs : List Asker) → AllByRecursion (λ (one : Asker). ⊥) xs → xs ≡ []
no_one [] h = refl
no_one (x ∷ xs) h = absurd h.0

-- nothing at the first number, nothing under the name
pub none_filed : (owner : List ℕ) (es : List Entry) → AreFiled es → found owner 0 es ≡ None → askers_of owner es ≡ []
none_filed owner es filed none = no_one (askers_of owner es) (all_found (λ one. ⊥) owner 0 es filed none (λ m one less there. absurd (omega (arith, less))))

-- something at a number, something under the name
pub some_filed : (owner : List ℕ) (number : ℕ) (es : List Entry) → IsSome (found owner number es) → 0 < length (askers_of owner es)
some_filed owner number [] h = absurd (false≢true h)
some_filed owner number (e ∷ es) h = of (bytes_eq owner e.0.owner) (eqb number e.0.number) h (some_filed owner number es)
  where
    of : (b c : Bool) → IsSome (cond (b && c) (Some e.1) (found owner number es)) → (IsSome (found owner number es) → 0 < length (askers_of owner es)) →
        0 < length (cond b (e.1 ∷ []) [] ++ askers_of owner es)
    of true c h ih = omega arith
    of false c h ih = ih h

pub has_filed : (owner : List ℕ) (es : List Entry) → AreFiled es → is_some (found owner 0 es) ≡ nat_lt 0 (length (askers_of owner es))
has_filed owner es filed = of (found owner 0 es) refl
  where
    of : (o : Option Asker) → found owner 0 es ≡ o → is_some o ≡ nat_lt 0 (length (askers_of owner es))
    of None e = sym (ap (λ (l : List Asker). nat_lt 0 (length l)) (none_filed owner es filed e))
    of (Some one) e = sym (lt-ltb 0 (length (askers_of owner es)) (some_filed owner 0 es (ap is_some e)))

-- what is none of those at the numbers of a name isn't filed under it
pub none_of : (one : Asker → Bool) (xs : List Asker) → AllByRecursion (λ (x : Asker). one x ≡ false) xs → list_any one xs ≡ false
none_of one [] h = refl
none_of one (x ∷ xs) h = ap (λ (b : Bool). b || list_any one xs) h.0 ∙ none_of one xs h.1

-- ---- one more behind the others

pub pushed : (owner : List ℕ) (es : List Entry) (place : At) (one : Asker) (name : List ℕ) → place.owner ≡ name →
    IsPermutation (askers_of owner (es ++ (place, one) ∷ [])) (asker_of owner (at name 0, one) ++ askers_of owner es)
pushed owner es place one name is =
    subst (λ (l : List Asker). IsPermutation l (asker_of owner (at name 0, one) ++ askers_of owner es)) (sym
    (flat_map-append (asker_of owner) es ((place, one) ∷ [])
    ∙ ap (λ (l : List Asker). askers_of owner es ++ l) (append-nil (asker_of owner (place, one)) ∙ ap (λ (n : List ℕ). cond (bytes_eq owner n) (one ∷ []) []) is)))
    (IsPermutation-append_comm (askers_of owner es) (asker_of owner (at name 0, one)))

-- what holds of each operation under a name holds of one
pub each_has : (P : Asker → Type 0) (xs : List Asker) → AllByRecursion P xs → (one : Asker) → list_any (asker_eq one) xs ≡ true → P one
each_has P [] h one there = absurd (true≢false (sym there))
each_has P (x ∷ xs) h one there = of (asker_eq one x) refl there (each_has P xs h.1 one)
  where
    of : (b : Bool) → asker_eq one x ≡ b → (b || list_any (asker_eq one) xs) ≡ true → (list_any (asker_eq one) xs ≡ true → P one) → P one
    of true e k rest = subst P (sym (asker_same one x e)) h.0
    of false e h rest = rest h
