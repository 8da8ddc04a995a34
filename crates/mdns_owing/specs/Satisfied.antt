-- Which queries are owed nothing any more.
use Rattle.std.specs.Prelude.{◌≡◌, ℕ, ◌<◌, false, List, length, slice_index_or, IsTrue}
use Rattle.std.specs.List.{All}
use Rattle.mdns_debts.specs.Queries.{Query}
use Rattle.mdns_debts.specs.Following.{has_owed}
use Rattle.mdns_owing.specs.declared.satisfied.Satisfied.{Satisfied}
use Rattle.mdns_owing.specs.declared.satisfied.Satisfied.TheVariants.{Nobody, One, Many}

-- a query is owed something
abbrev pub IsOwed : Query → Type 0
IsOwed query = IsTrue (has_owed query)

-- The query at a place, which is before another, is the only one that is owed nothing.
pub record IsAlone (end place : ℕ) (queries : List Query) : Type 0 where
  pub before : place < end
  pub within : place < length queries
  pub gone : (d : Query) → has_owed (slice_index_or queries place d) ≡ false
  pub others : (k : ℕ) (d : Query) → k < length queries → (k ≡ place → ⊥) → IsOwed (slice_index_or queries k d)

-- Which queries are owed nothing any more is told up to a place, from which on all are owed something: each of several isn't told.
abbrev pub AreTold : ℕ → Satisfied → List Query → Type 0
AreTold end Nobody queries = All IsOwed queries
AreTold end (One place) queries = IsAlone end place queries
AreTold end Many queries = Unit {0}
