-- Lists that are changed at a place, and the moments that are kept of their elements; and places that are passed over.
use Rattle.std.proofs.Common.{◌≡◌, ℕ, zero, suc, ◌<◌, ◌≤◌, List, [], ◌∷◌, length, map, get_or, set, refl, ap, subst, sym, ◌∙◌, ⊎_elim, arith}
use Rattle.std.specs.List.{remove}
use Rattle.std.proofs.lemmas.Bool.{cases_eq}
use Rattle.std.proofs.lemmas.List.{map-set, get_or-set_same, length-map, length-set}
use Rattle.mdns_timer.specs.Tree.{moment_at}
use Rattle.mdns_probe.specs.Kept.{Kept}
use Rattle.mdns_claimants.specs.Due.{moment_of, IsChangedAt}

-- what stands at a place
pub element : {X : Type 0} (xs : List X) (i : ℕ) → i < length xs → (x : X) × (x ≡ get_or xs i x)
element [] i h = absurd (omega arith)
element (x ∷ xs) zero h = (x, refl)
element (x ∷ xs) (suc i) h = element xs i (omega arith)

pub map_remove : {X Y : Type 0} (f : X → Y) (xs : List X) (i : ℕ) → map f (remove xs i) ≡ remove (map f xs) i
map_remove f [] zero = refl
map_remove f [] (suc i) = refl
map_remove f (x ∷ xs) zero = refl
map_remove f (x ∷ xs) (suc i) = ap (λ l. f x ∷ l) (map_remove f xs i)

-- what holds at a place holds at an earlier one, where it is carried back from each place between to the one before
pub back_to : (G : ℕ → Type 0) (from to : ℕ) → from ≤ to → ((k : ℕ) → from ≤ k → k < to → G (suc k) → G k) → G to → G from
back_to G from zero h step at = let e : 0 ≡ from = omega arith in subst G e at
back_to G from (suc to) h step at = ⊎_elim (λ e. subst G (sym e) at) (λ apart. back_to G from to (omega (arith, apart)) (λ k low high. step k low (omega arith)) (step to (omega (arith, apart)) (omega arith) at)) (cases_eq from (suc to))

-- what is the same of each place between and the one behind it is the same of both ends
pub same_from : {A : Type 0} (f : ℕ → A) (from to : ℕ) → from ≤ to → ((k : ℕ) → from ≤ k → k < to → f (suc k) ≡ f k) → f to ≡ f from
same_from f from to h step = back_to (λ k. f to ≡ f k) from to h (λ k low high e. e ∙ step k low high) refl

-- the moment at a place is that of the group there
pub moment_here : (kept : List Kept) (k : ℕ) (d : Kept) → k < length kept → moment_at (map moment_of kept) k ≡ moment_of (get_or kept k d)
moment_here [] k d h = absurd (omega arith)
moment_here (one ∷ kept) zero d h = refl
moment_here (one ∷ kept) (suc k) d h = moment_here kept k d (omega arith)

pub timed_length : (kept : List Kept) (moments : List ℕ) → moments ≡ map moment_of kept → length moments ≡ length kept
timed_length kept moments timed = ap length timed ∙ length-map kept moment_of

-- a changed group, and its moment
pub retimed : (change : Kept → Kept) (kept after : List Kept) (moments then_moments : List ℕ) (place v : ℕ) (d : Kept) → place < length kept → moments ≡ map moment_of kept → IsChangedAt change place kept after →
    v ≡ moment_of (get_or after place d) → then_moments ≡ set moments place v → then_moments ≡ map moment_of after
retimed change kept after moments then_moments place v d within timed changed told put =
    put
    ∙ (λ i. set (timed i) place ((told ∙ ap moment_of here) i))
    ∙ sym (map-set moment_of kept place (change old.0))
    ∙ ap (map moment_of) (sym (changed old.0 old.1))
  where
    old : (x : Kept) × (x ≡ get_or kept place x)
    old = element kept place within

    here : get_or after place d ≡ change old.0
    here = ap (λ (l : List Kept). get_or l place d) (changed old.0 old.1) ∙ get_or-set_same kept place (change old.0) d within

pub changed_length : (change : Kept → Kept) (kept after : List Kept) (place : ℕ) → place < length kept → IsChangedAt change place kept after → length after ≡ length kept
changed_length change kept after place within changed = let old = element kept place within in ap length (changed old.0 old.1) ∙ length-set kept place (change old.0)
