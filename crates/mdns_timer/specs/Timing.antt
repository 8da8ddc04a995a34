-- What contracts see of timers.
use Rattle.std.specs.Prelude.{ℕ, nat_le, Bool, not, List, [], ◌∷◌, filter, Option, Some, None, if◌then◌else◌}
use Rattle.std.specs.List.{list_any}
use Rattle.std.specs.Ordering.{nat_cmp, ordering_then, is_eq}
use Rattle.std.specs.declared.cmp.Ordering.{Ordering}
use Rattle.lists.specs.Lists.{insert_by}

-- the moments with what is due then, by moment and then by what, each pair once; and how many more there is room for
pub record Timing : Type 0 where
  pub pairs : List (ℕ × ℕ)
  pub spare : ℕ

-- the order of pairs: by moment, then by what is due
abbrev pub pair_cmp : ℕ × ℕ → ℕ × ℕ → Ordering
pair_cmp left right = ordering_then (nat_cmp left.0 right.0) (nat_cmp left.1 right.1)

-- whether a pair is one of these
abbrev pub has_pair : ℕ × ℕ → List (ℕ × ℕ) → Bool
has_pair pair pairs = list_any (λ one. is_eq (pair_cmp pair one)) pairs

-- the pairs with one more, which stays once if it was there
abbrev pub with_pair : ℕ × ℕ → List (ℕ × ℕ) → List (ℕ × ℕ)
with_pair pair pairs = if has_pair pair pairs then pairs else insert_by pair_cmp pair pairs

-- the pairs without one
abbrev pub without_pair : ℕ × ℕ → List (ℕ × ℕ) → List (ℕ × ℕ)
without_pair pair pairs = filter (λ one. not (is_eq (pair_cmp pair one))) pairs

-- the least moment, if there is one
abbrev pub first_moment : List (ℕ × ℕ) → Option ℕ
first_moment [] = None
first_moment (pair ∷ pairs) = Some (pair.0)

-- the least pair, if its moment has come
abbrev pub first_due : ℕ → List (ℕ × ℕ) → Option (ℕ × ℕ)
first_due now [] = None
first_due now (pair ∷ pairs) = if nat_le (pair.0) now then Some pair else None

-- the pairs without the least one, if its moment has come
abbrev pub without_due : ℕ → List (ℕ × ℕ) → List (ℕ × ℕ)
without_due now [] = []
without_due now (pair ∷ pairs) = if nat_le (pair.0) now then pairs else pair ∷ pairs
