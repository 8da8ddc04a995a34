-- What a plug does to its lists, where it tells them, and to its count of faults.
use Rattle.std.specs.Prelude.{◌≡◌, ℕ, ◌+◌, ◌<◌, ◌≤◌, List, [], ◌∷◌, ◌++◌, drop, take, Option, Some}
use Rattle.std.specs.List.{concat}
use Rattle.mdns_base.specs.Outside.{Rose}

-- a list is told
abbrev pub Tells : {A : Type 0} → Option (List A) → Type 0
Tells {A} list = (items : List A) × (list ≡ Some items)

-- a list that is told now was told before, and is the same
abbrev pub StaysTold : {A : Type 0} → Option (List A) → Option (List A) → Type 0
StaysTold {A} old new = (items : List A) → new ≡ Some items → old ≡ Some items

-- a list that is told now was told before, and has one more element at its end
abbrev pub AddsOne : {A : Type 0} → Option (List A) → Option (List A) → A → Type 0
AddsOne {A} old new one = (after : List A) → new ≡ Some after → (before : List A) × (old ≡ Some before) × (after ≡ before ++ one ∷ [])

-- the first of the lists is what is left, or nothing where there is none; the others stay
abbrev pub TakesComing : Option (List (List ℕ)) → Option (List (List ℕ)) → Option (List ℕ) → Type 0
TakesComing old new left = (after : List (List ℕ)) → new ≡ Some after →
    (before : List (List ℕ)) × (old ≡ Some before) × (after ≡ drop 1 before) × (left ≡ Some (concat (take 1 before)))

-- a count of faults rises exactly where a source or a sink has faults
pub record CountsBack (source sink before now : ℕ) : Type 0 where
  pub later : before ≤ now
  pub rose : 0 < source + sink → Rose before now
  pub quiet : source ≡ 0 → sink ≡ 0 → now ≡ before
