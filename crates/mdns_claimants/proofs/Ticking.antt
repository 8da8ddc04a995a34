-- A tick at the groups of which something is due, one behind the other.
use Rattle.std.proofs.Common.{◌≡◌, ℕ, zero, suc, ◌+◌, ◌<◌, ◌≤◌, Bool, List, [], ◌∷◌, ◌++◌, length, map, take, drop, get_or, set, ap, subst, sym, ◌∙◌, append-nil, arith}
use Rattle.std.proofs.Math.Seq.{take-length}
use Rattle.std.proofs.lemmas.List.{drop_all}
use Rattle.mdns_timer.specs.Tree.{moment_at}
use Rattle.mdns_timer.specs.Parts.{NoneDue}
use Rattle.mdns_probe.specs.Kept.{Kept}
use Rattle.mdns_claimants.specs.Due.{moment_of, ticked_at, IsChangedAt}
use Rattle.mdns_claimants.proofs.Places.{element, moment_here, same_from, timed_length}
use Rattle.mdns_claimants.proofs.Still.{still_at}

-- the elements before a place as they are, and the others changed
abbrev pub changed_from : {X : Type 0} → (X → X) → List X → ℕ → List X
changed_from t xs k = take k xs ++ map t (drop k xs)

-- one that a change leaves as it is
kept_one : {X : Type 0} (t : X → X) (xs : List X) (k : ℕ) (d : X) → k < length xs → t (get_or xs k d) ≡ get_or xs k d → changed_from t xs (suc k) ≡ changed_from t xs k
kept_one t [] k d h e = absurd (omega arith)
kept_one t (x ∷ xs) zero d h e = ap (λ y. y ∷ map t xs) (sym e)
kept_one t (x ∷ xs) (suc k) d h e = ap (λ l. x ∷ l) (kept_one t xs k d (omega arith) e)

-- one that was changed
changed_one : {X : Type 0} (t : X → X) (xs : List X) (k : ℕ) (x : X) → k < length xs → x ≡ get_or xs k x → changed_from t (set xs k (t x)) (suc k) ≡ changed_from t xs k
changed_one t [] k x h e = absurd (omega arith)
changed_one t (y ∷ xs) zero x h e = ap (λ z. t z ∷ map t xs) e
changed_one t (y ∷ xs) (suc k) x h e = ap (λ l. y ∷ l) (changed_one t xs k x (omega arith) e)

-- groups that are passed over
passed : (now : ℕ) (announces : Bool) (kept : List Kept) (moments : List ℕ) (from place : ℕ) → moments ≡ map moment_of kept → from ≤ place → place ≤ length kept → NoneDue moments now from place →
    changed_from (ticked_at now announces) kept place ≡ changed_from (ticked_at now announces) kept from
passed now announces kept moments from place timed h within none =
    same_from (changed_from (ticked_at now announces) kept) from place h (λ k low high.
    let there : k < length kept = omega arith in
    let one = element kept k there in
    kept_one (ticked_at now announces) kept k one.0 there
    (still_at now (get_or kept k one.0) (subst (λ (m : ℕ). now < m) (moment_here kept k one.0 there) (subst (λ (ms : List ℕ). now < moment_at ms k) timed (none k low high))) announces))

-- one group more
pub tick_more : (now : ℕ) (announces : Bool) (kept after : List Kept) (moments : List ℕ) (from place : ℕ) → moments ≡ map moment_of kept → from ≤ place → place < length kept → NoneDue moments now from place →
    IsChangedAt (ticked_at now announces) place kept after → changed_from (ticked_at now announces) after (place + 1) ≡ changed_from (ticked_at now announces) kept from
tick_more now announces kept after moments from place timed h within none changed =
    let one = element kept place within in
    let next : place + 1 ≡ suc place = omega arith in
    (λ i. changed_from (ticked_at now announces) (changed one.0 one.1 i) (next i))
    ∙ changed_one (ticked_at now announces) kept place one.0 within one.1
    ∙ passed now announces kept moments from place timed h (omega arith) none

-- no group more
pub tick_done : (now : ℕ) (announces : Bool) (kept : List Kept) (moments : List ℕ) (from : ℕ) → moments ≡ map moment_of kept → from ≤ length kept → NoneDue moments now from (length moments) →
    kept ≡ changed_from (ticked_at now announces) kept from
tick_done now announces kept moments from timed h none =
    sym (append-nil kept)
    ∙ (λ i. sym (take-length kept) i ++ map (ticked_at now announces) (sym (drop_all (length kept) kept (omega arith)) i))
    ∙ passed now announces kept moments from (length kept) timed h (omega arith) (λ k low high. none k low (omega (arith, high, len)))
  where
    len : length moments ≡ length kept
    len = timed_length kept moments timed
