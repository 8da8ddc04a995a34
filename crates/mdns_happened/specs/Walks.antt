-- The records of names around an event: those held before it, and those held after it; and the daemon's own. Only the names that an event
-- concerns are walked.
use Rattle.std.specs.Prelude.{◌≡◌, ℕ, Bool, true, false, List, filter, Option}
use Rattle.std.specs.List.{list_any, find, AllByRecursion}
use Rattle.dns_name.specs.Names.{folded_eq}
use Rattle.dns_record.specs.declared.record.Rr.{Rr}
use Rattle.mdns_history.specs.declared.held.Held.{Held}
use Rattle.mdns_cache.specs.Lifetimes.{held_of}
use Rattle.mdns_happened.specs.declared.walk.Walk.{Walk}

-- whether a walk is of a name, case aside
abbrev pub is_for : List (List ℕ) → Walk → Bool
is_for name walk = folded_eq walk.name name

-- the walk of a name
abbrev pub walk_of : List (List ℕ) → List Walk → Option Walk
walk_of name walks = find (is_for name) walks

-- a name was walked
abbrev pub is_walked : List Walk → List (List ℕ) → Bool
is_walked walks name = list_any (is_for name) walks

-- A walk has the records of its name among those held before an event, and among those held after it, in their order.
pub record IsWalk (held after : List Held) (walk : Walk) : Type 0 where
  pub earlier : walk.earlier.items ≡ held_of walk.name held
  pub later : walk.later.items ≡ held_of walk.name after

abbrev pub AreWalks : List Held → List Held → List Walk → Type 0
AreWalks held later walks = AllByRecursion (IsWalk held later) walks

-- What an event makes of the records of a name is known by walks: the name was walked, or its records stay as they are.
abbrev pub IsKnown : List Held → List Held → List Walk → List (List ℕ) → Type 0
IsKnown held later walks name = is_walked walks name ≡ false → held_of name later ≡ held_of name held

-- the own records of a name, case aside
abbrev pub own_of : List (List ℕ) → List Rr → List Rr
own_of name own = filter (λ rr. folded_eq rr.owner name) own

-- A walk has the own records of its name before an event, and after it, in their order.
pub record IsOwnWalk (own after : List Rr) (walk : Walk) : Type 0 where
  pub earlier : walk.own.earlier ≡ own_of walk.name own
  pub later : walk.own.later ≡ own_of walk.name after

abbrev pub AreOwnWalks : List Rr → List Rr → List Walk → Type 0
AreOwnWalks own later walks = AllByRecursion (IsOwnWalk own later) walks

-- What an event makes of the own records of a name is known by walks: the name was walked, or they stay as they are.
abbrev pub IsOwnKnown : List Rr → List Rr → List Walk → List (List ℕ) → Type 0
IsOwnKnown own later walks name = is_walked walks name ≡ false → own_of name later ≡ own_of name own
