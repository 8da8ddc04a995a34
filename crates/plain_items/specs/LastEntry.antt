-- What is said of the last entry of a history.
use Rattle.std.specs.Prelude.{List, [], ◌∷◌}
use Rattle.mdns_history.specs.declared.entry.Entry.{Entry}

-- what f says of the last entry and the history before it, and else, where there is no entry, none
abbrev pub of_last : {X : Type 0} → X → (Entry → List Entry → X) → List Entry → X
of_last none f [] = none
of_last none f (entry ∷ past) = f entry past
