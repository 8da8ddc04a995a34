-- The names of records that have ended.
use Rattle.std.specs.Prelude.{◌≡◌, ℕ, ◌≤◌, nat_le, ◌&&◌, Bool, true, List}
use Rattle.std.specs.List.{list_any, AllByRecursion}
use Rattle.dns_name.specs.Names.{folded_eq}
use Rattle.mdns_history.specs.declared.held.Held.{Held}

-- a name is one of several, case aside
abbrev pub is_among : List (List (List ℕ)) → List (List ℕ) → Bool
is_among names name = list_any (folded_eq name) names

-- a name is the owner of one of the records that have ended, case aside
abbrev pub is_of_ended : List Held → ℕ → List (List ℕ) → Bool
is_of_ended held moment name = list_any (λ (one : Held). nat_le one.end moment && folded_eq name one.rr.owner) held

-- the owners of all records that have ended are among the names
abbrev pub HasEnded : List Held → ℕ → List (List (List ℕ)) → Type 0
HasEnded held moment names = AllByRecursion (λ (one : Held). one.end ≤ moment → is_among names one.rr.owner ≡ true) held

-- each name is the owner of a record that has ended
abbrev pub AreOfEnded : List Held → ℕ → List (List (List ℕ)) → Type 0
AreOfEnded held moment names = AllByRecursion (λ (name : List (List ℕ)). is_of_ended held moment name ≡ true) names
