-- Places and the values that are found at them.
use Rattle.std.proofs.Common.{◌≡◌, ◌≢◌, ℕ, zero, suc, ◌+◌, ◌<◌, ◌≤◌, eqb, true, false, ⊎_elim, List, [], ◌∷◌, length, refl, sym, ap, subst, arith, true≢false}
use Rattle.std.specs.Prelude.{IsSome}
use Rattle.std.specs.Cmp.{IsEquivalence}
use Rattle.std.specs.Cmp.Rules.{comparing}
use Rattle.std.specs.Str.{bytes_eq}
use Rattle.std.specs.List.{list_any, AllByRecursion, IsDistinct}
use Rattle.std.specs.Map.{lookup}
use Rattle.std.proofs.Common.{rules}
use Rattle.std.proofs.lemmas.Bool.{and_parts, and_from, or_cases, eqb-true, eq-eqb, false_from_ne_true}
use Rattle.std.proofs.lemmas.Slice.Eq.{bytes_eq-Decides}
use Rattle.std.proofs.lemmas.Map.Steps.{length-le_from_keys}
use Rattle.by_name.specs.At.{At, at, at_eq}
use Rattle.by_name.specs.Filed.{found, HaveNoGap}

pub at_eq-laws : IsEquivalence at_eq
at_eq-laws = search (comparing, rules)

-- equal places are one
pub at_same : (one other : At) → at_eq one other ≡ true → one ≡ other
at_same one other e =
    let parts = and_parts (bytes_eq one.owner other.owner) (eqb one.number other.number) e in
    let owner = (bytes_eq-Decides one.owner other.owner).0 parts.0 in
    let number = eqb-true one.number other.number parts.1 in
    λ i. record { owner = owner i; number = number i }

-- ---- a name has no more numbers than there are entries

places : List ℕ → ℕ → ℕ → List At
places owner first zero = []
places owner first (suc more) = at owner first ∷ places owner (first + 1) more

places-length : (owner : List ℕ) (first more : ℕ) → length (places owner first more) ≡ more
unfolding places
places-length owner first zero = refl
places-length owner first (suc more) = ap suc (places-length owner (first + 1) more)

place_apart : (owner : List ℕ) (one other : ℕ) → one ≢ other → at_eq (at owner one) (at owner other) ≡ false
place_apart owner one other apart =
    false_from_ne_true (at_eq (at owner one) (at owner other)) (λ e. apart (eqb-true one other (and_parts (bytes_eq owner owner) (eqb one other) e).1))

places_later : (owner : List ℕ) (one first more : ℕ) → one < first → AllByRecursion (λ (k : At). at_eq (at owner one) k ≡ false) (places owner first more)
unfolding places
places_later owner one first zero h = tt
places_later owner one first (suc more) h = (place_apart owner one first (λ e. absurd (omega arith)), places_later owner one (first + 1) more (omega arith))

places-distinct : (owner : List ℕ) (first more : ℕ) → IsDistinct at_eq (places owner first more)
unfolding places IsDistinct
places-distinct owner first zero = tt
places-distinct owner first (suc more) = (places_later owner first (first + 1) more (omega arith), places-distinct owner (first + 1) more)

some_place : (owner : List ℕ) (first more : ℕ) (q : At) → list_any (at_eq q) (places owner first more) ≡ true → (n : ℕ) × (n < first + more) × (q ≡ at owner n)
unfolding places
some_place owner first zero q h = absurd (true≢false (sym h))
some_place owner first (suc more) q h =
    ⊎_elim (λ e. (first, omega arith, at_same q (at owner first) e))
    (λ rest. let r = some_place owner (first + 1) more q rest in (r.0, omega (arith, r.1), r.2))
    (or_cases (at_eq q (at owner first)) (list_any (at_eq q) (places owner (first + 1) more)) h)

module _ {T : Type 0} where
  -- what is found at a number of a name is found at each lower one
  pub found_below : (es : List (At × T)) → HaveNoGap es → (owner : List ℕ) (number less : ℕ) → less ≤ number → IsSome (found owner number es) → IsSome (found owner less es)
  found_below es gapless owner zero less h some = subst (λ (n : ℕ). IsSome (found owner n es)) (let e : 0 ≡ less = omega arith in e) some
  found_below es gapless owner (suc number) less h some =
      ⊎_elim (λ e. subst (λ (n : ℕ). IsSome (found owner n es)) (sym e) some) (λ apart. found_below es gapless owner number less (omega (arith, apart)) (gapless owner number some))
      (Rattle.std.proofs.lemmas.Bool.cases_eq less (suc number))

  pub found_within : (es : List (At × T)) → HaveNoGap es → (owner : List ℕ) (number : ℕ) → IsSome (found owner number es) → number < length es
  found_within es gapless owner number some =
      let counted = length-le_from_keys at_eq-laws (places owner 0 (suc number)) es (places-distinct owner 0 (suc number)) there in
      let len = places-length owner 0 (suc number) in
      omega arith
    where
      there : (q : At) → list_any (at_eq q) (places owner 0 (suc number)) ≡ true → IsSome (lookup (at_eq q) es)
      there q h =
          let r = some_place owner 0 (suc number) q h in
          subst (λ (k : At). IsSome (lookup (at_eq k) es)) (sym r.2) (found_below es gapless owner number r.0 (omega (arith, r.1)) some)
