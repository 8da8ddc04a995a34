-- Lists in an order of which no two elements are equal.
use Rattle.std.specs.Prelude.{◌≡◌, List, [], ◌∷◌}
use Rattle.std.specs.List.{AllByRecursion}
use Rattle.std.specs.declared.cmp.Ordering.{Ordering}
use Rattle.std.specs.declared.cmp.Ordering.TheVariants.{Less}

-- each element is less than all behind it
abbrev pub IsStrict : {X : Type 0} → (X → X → Ordering) → List X → Type 0
IsStrict cmp [] = Unit {0}
IsStrict cmp (x ∷ xs) = AllByRecursion (λ y. cmp x y ≡ Less) xs × IsStrict cmp xs
