-- Values by name: the entries of a map from places to values.
use Rattle.std.specs.Prelude.{◌≡◌, ◌⊎◌, ℕ, suc, ◌+◌, ◌≤◌, ◌==◌, max, Bool, true, List, [], ◌∷◌, ◌++◌, map, filter, slice_get, Option, Some, IsSome}
use Rattle.std.specs.List.{flat_map, AllByRecursion, IsDistinct}
use Rattle.std.specs.List.Sorted.{IsPermutation}
use Rattle.std.specs.Map.{keys_of, lookup}
use Rattle.lists.specs.Lists.{count_up}
use Rattle.by_name.specs.At.{At, at, at_eq}

-- an entry: a value with its place
abbrev pub Entry : Type 0 → Type 0
Entry T = At × T

-- What contracts see of values by name: the entries in the map's order, and how many more there is room for.
pub record Filing (T : Type 0) : Type 0 where
  pub entries : List (At × T)
  pub spare : ℕ

module _ {T : Type 0} where
  -- the value at a number of a name
  abbrev pub found : List ℕ → ℕ → List (At × T) → Option T
  found owner number es = lookup (at_eq (at owner number)) es

  -- a number that is above all numbers of entries
  abbrev pub above : List (At × T) → ℕ
  above [] = 0
  above (e ∷ es) = max (e.0.number + 1) (above es)

  -- the values of a number, one of each name
  abbrev pub numbered : List (At × T) → ℕ → List T
  numbered es number = map (λ (e : At × T). e.1) (filter (λ (e : At × T). e.0.number == number) es)

  -- all values: those of number 0, then those of number 1, and so on
  abbrev pub in_layers : List (At × T) → List T
  in_layers es = flat_map (numbered es) (count_up 0 (above es))

  -- the numbers of each name are 0, 1 and so on without a gap
  abbrev pub HaveNoGap : List (At × T) → Type 0
  HaveNoGap es = (owner : List ℕ) (number : ℕ) → IsSome (found owner (suc number) es) → IsSome (found owner number es)

  -- at an index stands the value of a place
  abbrev pub IsFoundAt : At → ℕ → List (At × T) → Type 0
  IsFoundAt place index es = (one : T) × (slice_get es index ≡ Some (place, one)) × (found place.owner place.number es ≡ Some one)

  -- a test of owners and values passes all entries
  abbrev pub AllOwned : (List ℕ → T → Bool) → List (At × T) → Type 0
  AllOwned test es = AllByRecursion (λ (e : At × T). test e.0.owner e.1 ≡ true) es

  -- a function of entries that doesn't tell the numbers of a name from this one on apart
  abbrev pub IsBlindFrom : List ℕ → ℕ → {Y : Type 0} → (At × T → List Y) → Type 0
  IsBlindFrom owner number f = (more : ℕ) (one : T) → number ≤ more → f (at owner more, one) ≡ f (at owner number, one)

  -- A value of a name was taken out: a later one of the name may have come in its place.
  abbrev pub IsWithout : List ℕ → ℕ → T → List (At × T) → List (At × T) → Type 0
  IsWithout owner number one before after =
      (f : At × T → List T) → IsBlindFrom owner number f → IsPermutation (flat_map f before) (f (at owner number, one) ++ flat_map f after)

-- What the entries are like: no place has two, and the numbers of a name have no gap.
pub record AreFiled {T : Type 0} (es : List (At × T)) : Type 0 where
  pub distinct : IsDistinct at_eq (keys_of es)
  pub gapless : HaveNoGap es

-- a place is one of several
abbrev pub IsOneOf : List ℕ → ℕ → Type 0
IsOneOf [] place = ⊥
IsOneOf (one ∷ more) place = (one ≡ place) ⊎ IsOneOf more place

-- two lists agree but at some places
abbrev pub AgreeBut : {X : Type 0} → List ℕ → List X → List X → Type 0
AgreeBut places before after = (place : ℕ) → (slice_get after place ≡ slice_get before place) ⊎ IsOneOf places place
