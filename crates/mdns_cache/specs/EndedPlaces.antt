-- Names of records that have ended, each told by its record's place.
use Rattle.std.specs.Prelude.{◌≡◌, ℕ, ◌≤◌, List, Some, slice_get}
use Rattle.std.specs.List.{AllByRecursion}
use Rattle.mdns_history.specs.declared.held.Held.{Held}

-- a name is the owner of a record that has ended
abbrev pub IsEnded : List Held → ℕ → List (List ℕ) → Type 0
IsEnded held moment name = (place : ℕ) × (one : Held) × (slice_get held place ≡ Some one) × (one.end ≤ moment) × (one.rr.owner ≡ name)

-- each name is the owner of a record that has ended
abbrev pub AreEnded : List Held → ℕ → List (List (List ℕ)) → Type 0
AreEnded held moment names = AllByRecursion (IsEnded held moment) names
