-- Which operations an event concerns: of the others nothing was walked or told.
use Rattle.std.specs.Prelude.{◌≡◌, ℕ, ◌⊎◌, Bool, true, false, List, [], ◌∷◌, ◌++◌, Option, Some, None}
use Rattle.std.specs.List.{list_any, AllByRecursion}
use Rattle.sd_call.specs.declared.request.Request.{Request}
use Rattle.sd_call.specs.Requests.{is_register}
use Rattle.sd_answer.specs.Known.{rrs_of}
use Rattle.by_name.specs.At.{At, owner_of}
use Rattle.mdns_history.specs.declared.operation.Operation.{Operation}
use Rattle.mdns_history.specs.Answers.{answers_over}
use Rattle.mdns_history.specs.Questions.{keys_of}
use Rattle.mdns_history.specs.Sessions.{Accepted}
use Rattle.mdns_happened.specs.declared.around.Around.{Around}
use Rattle.mdns_happened.specs.declared.around.Registered.{Registered}
use Rattle.mdns_happened.specs.declared.walk.Walk.{Walk}
use Rattle.mdns_happened.specs.Registrations.{registered_in}
use Rattle.sd_index.specs.declared.asker.Asker.{Asker}
use Rattle.sd_index.specs.Asked.{asker_eq, askers_of}
use Rattle.sd_operations.specs.declared.call.Call.{Call}
use Rattle.sd_operations.specs.Operations.{has_one}
use Rattle.sd_sessions.specs.Sessions.{Session}
use Rattle.sd_operations.specs.Codes.{is_running}
use Rattle.sd_sessions.specs.Walked.{walk_for}

-- the operation of a session and a number
abbrev pub asker_at : ℕ → ℕ → Asker
asker_at session op = record { session = session; op = op }

-- an operation is one of several
abbrev pub is_one_of : List Asker → Asker → Bool
is_one_of askers one = list_any (asker_eq one) askers

-- the records of a walk's name give the same answers before the event and after it
abbrev pub IsStill : Walk → Type 0
IsStill walk = (request : Request) → answers_over request (rrs_of walk.earlier.items ++ walk.own.earlier) ≡ answers_over request (rrs_of walk.later.items ++ walk.own.later)

-- there is no walk, or its records give the same answers
abbrev pub IsUnmoved : Option Walk → Type 0
IsUnmoved None = Unit {0}
IsUnmoved (Some walk) = IsStill walk

-- The name that an operation asks for was not walked, or its records give the same answers as before; or nothing is told of it as a
-- registration.
pub record IsApart (around : Around) (operation : Operation) : Type 0 where
  pub walked : is_register operation.request ≡ false → IsUnmoved (walk_for (keys_of operation.request) around.walks.now)
  pub told : is_register operation.request ≡ true → registered_in around.registered.now operation.session operation.op ≡ None

-- an event concerns no operation but of these numbers, and the others were there before
abbrev pub IsCovered : List ℕ → Around → List Operation → Operation → Type 0
IsCovered numbers around before operation = has_one numbers operation.op ≡ false → IsApart around operation × (is_running operation.op before ≡ true)

-- the operation of a session's call has one of these numbers
abbrev pub IsOwnCovered : List ℕ → Option Call → Type 0
IsOwnCovered numbers None = Unit {0}
IsOwnCovered numbers (Some call) = has_one numbers call.op ≡ true

-- an event concerns no operation of a session but these
abbrev pub IsMet : List Asker → Around → Session → Type 0
IsMet concerned around session =
    AllByRecursion (λ (operation : Operation). is_one_of concerned (asker_at session.number operation.op) ≡ false → IsApart around operation) session.operations

-- the operation of an accepted call is one of these
abbrev pub IsCallMet : List Asker → Option Accepted → Type 0
IsCallMet concerned None = Unit {0}
IsCallMet concerned (Some call) = is_one_of concerned (asker_at call.session call.op) ≡ true

-- a walk's records give the same answers as before, or those that an index has under its name are among these
abbrev pub IsWalkMet : List (At × Asker) → List Asker → Walk → Type 0
IsWalkMet entries concerned walk = IsStill walk ⊎ ((one : Asker) → is_one_of (askers_of (owner_of walk.name) entries) one ≡ true → is_one_of concerned one ≡ true)

-- the registrations of which something is told are among these
abbrev pub AreToldMet : List Asker → List Registered → Type 0
AreToldMet concerned told = AllByRecursion (λ (one : Registered). is_one_of concerned (asker_at one.session one.op) ≡ true) told

-- those that are among some are among more
abbrev pub AreMore : List Asker → List Asker → Type 0
AreMore some more = (one : Asker) → is_one_of some one ≡ true → is_one_of more one ≡ true

-- the operations that an event may concern, where these are the numbers of those that it concerns
abbrev pub concerned : List ℕ → List Operation → List Operation
concerned [] operations = []
concerned (number ∷ numbers) operations = operations
