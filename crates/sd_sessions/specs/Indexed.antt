-- Which operations stand under a name in the index that the sessions keep.
use Rattle.std.specs.Prelude.{◌≡◌, ℕ, nat_lt, Bool, true, List, length, Option}
use Rattle.std.specs.List.{flat_map}
use Rattle.std.specs.List.Sorted.{IsPermutation}
use Rattle.by_name.specs.At.{At, owner_of}
use Rattle.mdns_cache.specs.Ended.{is_among}
use Rattle.mdns_history.specs.declared.operation.Operation.{Operation}
use Rattle.mdns_history.specs.Sessions.{Accepted}
use Rattle.mdns_happened.specs.Told.{Told}
use Rattle.sd_index.specs.declared.asker.Asker.{Asker}
use Rattle.sd_index.specs.Asked.{askers_of, if_asks}
use Rattle.sd_sessions.specs.Sessions.{Session}
use Rattle.sd_sessions.specs.Settling.{left_to, remaining_but}

-- an operation as an index has it
abbrev pub asker_for : Operation → Asker
asker_for operation = record { session = operation.session; op = operation.op }

-- the operations that ask for a name
abbrev pub asking_of : List ℕ → List Operation → List Asker
asking_of owner operations = flat_map (λ (operation : Operation). if_asks owner operation.request (asker_for operation)) operations

-- those of all sessions, where each has the operations that this gives it
abbrev pub askers_by : (Session → List Operation) → List ℕ → List Session → List Asker
askers_by operations owner sessions = flat_map (λ (session : Session). asking_of owner (operations session)) sessions

-- those of all sessions
abbrev pub askers_in : List ℕ → List Session → List Asker
askers_in owner sessions = askers_by (λ session. session.operations) owner sessions

-- An index has under each name the operations of these sessions that ask for it, each once.
abbrev pub AreIndexed : List (At × Asker) → List Session → Type 0
AreIndexed entries sessions = (owner : List ℕ) → IsPermutation (askers_of owner entries) (askers_in owner sessions)

-- the operations that an accepted call leaves to a session
abbrev pub left_by : Option Accepted → Session → List Operation
left_by call session = left_to call session.number session.operations

-- who asks for a name after what is told
abbrev pub askers_after : Told → List ℕ → List Session → List Asker
askers_after told owner sessions = askers_by (left_by told.call) owner (remaining_but told.detached sessions)

-- whether an index has an operation that asks for a name
abbrev pub is_asked : List (At × Asker) → List (List ℕ) → Bool
is_asked entries name = nat_lt 0 (length (askers_of (owner_of name) entries))

-- the touched names that are asked for are among these names
abbrev pub ArePut : List (List (List ℕ)) → List (At × Asker) → List (List (List ℕ)) → Type 0
ArePut touched entries names = (name : List (List ℕ)) → is_among touched name ≡ true → is_asked entries name ≡ true → is_among names name ≡ true
