-- Lists put in order one by one.
use Rattle.std.specs.Prelude.{List, [], ◌∷◌}
use Rattle.std.specs.declared.cmp.Ordering.{Ordering}
use Rattle.lists.specs.Lists.{insert_by}

-- elements put into others that are in order, the last one first
abbrev pub sorted_onto : {X : Type 0} → (X → X → Ordering) → List X → List X → List X
sorted_onto cmp [] sorted = sorted
sorted_onto cmp (x ∷ xs) sorted = insert_by cmp x (sorted_onto cmp xs sorted)
