-- The least of several moments, kept as a tree: a node has the least of its two children, and the leaves are the places of a list.
use Rattle.std.specs.Prelude.{◌≡◌, ℕ, zero, suc, ◌+◌, ◌-◌, ◌*◌, ◌/◌, ◌^◌, ◌<◌, ◌≤◌, ◌==◌, nat_lt, Bool, true, false, ◌||◌, ◌⊎◌, List, length, min, slice_index_or, if◌then◌else◌}

-- moments by place, and how many more there is room for
pub record Moments : Type 0 where
  pub moments : List ℕ
  pub spare : ℕ

-- the moment at a place; behind the list it is the last one that there is
abbrev pub moment_at : List ℕ → ℕ → ℕ
moment_at moments place = slice_index_or moments place (2 ^ 64 - 1)

-- the least moment below a node, or the moment at the place that it stands for
abbrev pub least_at : List ℕ → List ℕ → ℕ → ℕ
least_at nodes moments k = if nat_lt k (length nodes) then slice_index_or nodes k 0 else moment_at moments (k - length nodes)

-- a node is reached from another in so many steps upwards at most
abbrev pub is_above : ℕ → ℕ → ℕ → Bool
is_above zero k j = false
is_above (suc steps) k j = (k == j) || is_above steps (k / 2) j

-- a node lies on the path from another to the root
abbrev pub IsOn : ℕ → ℕ → Type 0
IsOn k j = (steps : ℕ) × (is_above steps k j ≡ true)

-- a node has the least of its two children
abbrev pub HasLeast : List ℕ → List ℕ → ℕ → Type 0
HasLeast moments nodes j = slice_index_or nodes j 0 ≡ min (least_at nodes moments (2 * j)) (least_at nodes moments (2 * j + 1))

-- each node has the least of its two children, but for those above a place
pub record IsTreeBut (place : ℕ) (moments nodes : List ℕ) : Type 0 where
  pub at : (j : ℕ) → 1 ≤ j → j < length nodes → HasLeast moments nodes j ⊎ IsOn (length nodes + place) j

-- each node has the least of its two children
pub record IsTree (moments nodes : List ℕ) : Type 0 where
  pub at : (j : ℕ) → 1 ≤ j → j < length nodes → HasLeast moments nodes j

-- how many places lie below a node that is so high
abbrev pub width : ℕ → ℕ
width zero = 1
width (suc height) = 2 * width height

-- a number is such a width
abbrev pub IsWidth : ℕ → Type 0
IsWidth n = (height : ℕ) × (n ≡ width height)

-- the tree has a leaf for each place, and all leaves are as high
pub record IsKept (moments nodes : List ℕ) : Type 0 where
  pub tree : IsTree moments nodes
  pub room : length moments ≤ length nodes
  pub small : length nodes < 2 ^ 60
  pub even : 1 ≤ length nodes → IsWidth (length nodes)
