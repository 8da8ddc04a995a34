-- The answers of registrations around an event. They are told of those whose answers change; the others have what they had.
use Rattle.std.specs.Prelude.{◌≡◌, ℕ, ◌==◌, Bool, ◌&&◌, List, Option}
use Rattle.std.specs.List.{list_any, find, AllByRecursion}
use Rattle.std.specs.Option.{option_to_list}
use Rattle.sd_call.specs.declared.answer.Answer.{Answer}
use Rattle.mdns_happened.specs.declared.around.Registered.{Registered}

-- whether it is told of the registration of a session and a number
abbrev pub is_of : ℕ → ℕ → Registered → Bool
is_of session op one = (one.session == session) && (one.op == op)

-- what is told of a registration
abbrev pub registered_in : List Registered → ℕ → ℕ → Option Registered
registered_in told session op = find (is_of session op) told

-- whether something is told of a registration
abbrev pub is_told : List Registered → ℕ → ℕ → Bool
is_told told session op = list_any (is_of session op) told

-- What is told of a registration are its answers before an event, and after it.
pub record IsRegistered (earlier later : ℕ → ℕ → List Answer) (one : Registered) : Type 0 where
  pub had : option_to_list one.had ≡ earlier one.session one.op
  pub has : option_to_list one.has ≡ later one.session one.op

abbrev pub AreRegistered : (ℕ → ℕ → List Answer) → (ℕ → ℕ → List Answer) → List Registered → Type 0
AreRegistered earlier later told = AllByRecursion (IsRegistered earlier later) told
