-- How events go: the codes of calls, and the other outcomes.
use Rattle.std.specs.Prelude.{ℕ, ◌+◌, ◌^◌, nat_le, Bool, false, not, ◌&&◌, ◌||◌, List, [], ◌∷◌, length, take, Option, Some, None, ℤ, if◌then◌else◌}
use Rattle.std.specs.Option.{is_some, unwrap_or}
use Rattle.dns_name.specs.Names.{is_under}
use Rattle.sd_name.specs.ServiceTypes.{service_type, instance_name, local_name}
use Rattle.sd_call.specs.declared.request.Request.{Request}
use Rattle.sd_call.specs.declared.request.Request.TheVariants as request
use Rattle.sd_call.specs.declared.item.Item.{Item}
use Rattle.sd_call.specs.Requests.{no_error, bad_param, bad_reference, unsupported, name_conflict, invalid, refused, well_formed, is_start, is_register}
use Rattle.mdns_history.specs.declared.event.Event.{Event}
use Rattle.mdns_history.specs.declared.event.Event.TheVariants as event
use Rattle.mdns_history.specs.declared.entry.Outcome.{Outcome}
use Rattle.mdns_history.specs.declared.entry.Outcome.TheVariants as outcome
use Rattle.mdns_history.specs.declared.entry.Entry.{Entry}
use Rattle.mdns_history.specs.Sessions.{operation_request, operations_of, opened_count, attached_sessions, is_attached, is_cut}
use Rattle.mdns_history.specs.Groups.{no_type, groups, names_of, is_taken, registered_count, host_of}
use Rattle.mdns_history.specs.Answers.{operation_group}
use Rattle.mdns_history.specs.Items.{queue}

-- the most sessions that are attached at a time
abbrev pub most_sessions : ℕ
most_sessions = 64

-- the most live operations of a session
abbrev pub most_operations : ℕ
most_operations = 64

-- the most sessions, and registrations, of a daemon over its life
abbrev pub most_over_life : ℕ
most_over_life = 2 ^ 63

-- an update is of a live registration that hasn't failed
abbrev pub may_update : ℕ → ℕ → Option Request → List Entry → Bool
may_update session op None history = false
may_update session op (Some request) history =
    is_register request && is_some (operation_group (record { session = session; op = op; request = request }) history)

-- a stop is of a live operation, an update of a registration
abbrev pub is_bad_reference : ℕ → ℕ → Request → List Entry → Bool
is_bad_reference session op request.Stop history = not (is_some (operation_request session op history))
is_bad_reference session op (request.Update txt) history = not (may_update session op (operation_request session op history) history)
is_bad_reference session op _ history = false

-- a name that isn't under `local`, or a registration on a daemon without a host
abbrev pub is_unsupported : Request → List Entry → Bool
is_unsupported (request.Query kind name) history = not (is_under name local_name)
is_unsupported (request.Address families name) history = not (is_under name local_name)
is_unsupported (request.Register label regtype port norename txt) history = not (is_some (host_of history))
is_unsupported _ history = false

-- no room for another operation of the session, or for another registration
abbrev pub is_refused : ℕ → Request → List Entry → Bool
is_refused session request history =
    is_start request && (nat_le most_operations (length (operations_of session history)) || (is_register request && nat_le most_over_life (registered_count history)))

-- a registration that is to keep its name, which a live group holds
abbrev pub is_name_conflict : Request → List Entry → Bool
is_name_conflict (request.Register label regtype port norename txt) history =
    norename && is_taken (names_of (groups history) history) (instance_name label (unwrap_or (service_type regtype) no_type))
is_name_conflict _ history = false

-- the code of a call: the first that applies
unfoldable pub call_code : ℕ → ℕ → Request → List Entry → ℤ
call_code session op request history =
    if is_start request && is_some (operation_request session op history) then invalid
    else if is_bad_reference session op request history then bad_reference
    else if not (well_formed request) then bad_param
    else if is_unsupported request history then unsupported
    else if is_refused session request history then refused
    else if is_name_conflict request history then name_conflict
    else no_error

-- a session is opened with the next number
abbrev pub attach_outcome : List Entry → Outcome
attach_outcome history =
    if nat_le most_sessions (length (attached_sessions history)) || nat_le most_over_life (opened_count history) then outcome.Full
    else outcome.Opened (opened_count history + 1)

-- the outcome of a call: of a session that isn't attached, of a cut one, or a code
abbrev pub call_outcome : ℕ → ℕ → Request → List Entry → Outcome
call_outcome session op request history =
    if not (is_attached session history) then outcome.Closed else if is_cut session history then outcome.Cut else outcome.Code (call_code session op request history)

-- what a take hands over
abbrev pub items_or_empty : List Item → Outcome
items_or_empty [] = outcome.Empty
items_or_empty (item ∷ items) = outcome.Items (item ∷ items)

-- a take sees the queue with what its own entry gives
abbrev pub take_outcome : ℕ → ℕ → List Entry → Outcome
take_outcome session max history =
    if not (is_attached session history) then outcome.Closed else if is_cut session history then outcome.Cut else items_or_empty (take max (queue session history))

-- the outcomes that the history before decides
unfoldable pub early_outcome : Event → List Entry → Outcome
early_outcome event.Attach history = attach_outcome history
early_outcome (event.Detach session) history = if is_attached session history then outcome.Ended else outcome.Closed
early_outcome (event.Call session op request) history = call_outcome session op request history
early_outcome _ history = outcome.Done

-- the outcome of a take, which sees the entry too
abbrev pub late_outcome : Event → Outcome → List Entry → Outcome
late_outcome (event.Take session max) early history = take_outcome session max history
late_outcome _ early history = early
