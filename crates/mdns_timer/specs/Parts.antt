-- A part of a tree, and the first place in it at which something is due.
use Rattle.std.specs.Prelude.{◌≡◌, ℕ, ◌+◌, ◌*◌, ◌<◌, ◌≤◌, List}
use Rattle.mdns_timer.specs.declared.part.Part.{Part}
use Rattle.mdns_timer.specs.Tree.{moment_at, width}

-- what lies below a node: so many places from the first one on
pub record IsPart (size : ℕ) (part : Part) : Type 0 where
  pub height : ℕ
  pub wide : part.width ≡ width height
  pub stands : part.node * width height ≡ size + part.first
  pub within : part.first + part.width ≤ size

-- no place from one on up to another has a moment that has come
abbrev pub NoneDue : List ℕ → ℕ → ℕ → ℕ → Type 0
NoneDue moments now from end = (k : ℕ) → from ≤ k → k < end → now < moment_at moments k

-- the first place from one on that has a moment that has come
pub record IsFirstDue (moments : List ℕ) (now from place : ℕ) : Type 0 where
  pub behind : from ≤ place
  pub due : moment_at moments place ≤ now
  pub first : NoneDue moments now from place
