-- Where a new operation stands among those of its session.
use Rattle.std.specs.Prelude.{ℕ, suc, nat_lt, List, [], ◌∷◌, if◌then◌else◌}
use Rattle.mdns_history.specs.declared.operation.Operation.{Operation}

-- how many operations stand before the first of a number or of a greater one
abbrev pub count_below : ℕ → List Operation → ℕ
count_below op [] = 0
count_below op (operation ∷ operations) = if nat_lt operation.op op then suc (count_below op operations) else 0
