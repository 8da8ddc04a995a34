-- One element or none.
use Rattle.std.specs.Prelude.{Bool, cond, List, [], ◌∷◌}

-- an element where a test passes
abbrev pub kept_if : {X : Type 0} → Bool → X → List X
kept_if test x = cond test (x ∷ []) []
