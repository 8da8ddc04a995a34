-- The operations of a session, by their numbers, and what its call makes of them.
use Rattle.std.specs.Prelude.{◌≡◌, ℕ, suc, ◌==◌, nat_lt, Bool, true, List, [], ◌∷◌, filter, Option, Some, None, if◌then◌else◌}
use Rattle.std.specs.List.{list_any, list_all}
use Rattle.mdns_history.specs.declared.operation.Operation.{Operation}
use Rattle.mdns_history.specs.Sessions.{after_request}
use Rattle.sd_operations.specs.declared.call.Call.{Call}

-- Each operation's number is less than those behind it.
abbrev pub AreRising : List Operation → Type 0
AreRising [] = Unit {0}
AreRising (operation ∷ operations) = (list_all (λ other. nat_lt operation.op other.op) operations ≡ true) × AreRising operations

-- how many operations stand before the first of a number or of a greater one
abbrev pub count_below : ℕ → List Operation → ℕ
count_below op [] = 0
count_below op (operation ∷ operations) = if nat_lt operation.op op then suc (count_below op operations) else 0

-- the operations of a session after its call, where there is one
abbrev pub after_own : ℕ → Option Call → List Operation → List Operation
after_own number None operations = operations
after_own number (Some call) operations = after_request number call.op call.request operations

-- a number is one of several
abbrev pub has_one : List ℕ → ℕ → Bool
has_one numbers op = list_any (λ (n : ℕ). n == op) numbers

-- the operations of these numbers
abbrev pub of_numbers : List ℕ → List Operation → List Operation
of_numbers numbers operations = filter (λ (operation : Operation). has_one numbers operation.op) operations
