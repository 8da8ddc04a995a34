-- Sessions and operations: which are there, and what they ask.
use Rattle.std.specs.Prelude.{ℕ, ◌==◌, Bool, true, false, not, ◌&&◌, ◌||◌, List, [], ◌∷◌, map, filter, Option, Some, None, if◌then◌else◌}
use Rattle.std.specs.List.{list_any, flat_map, find}
use Rattle.std.specs.Option.{option_map, option_map_or, unwrap_or, is_some}
use Rattle.std.specs.Ordering.{int_eq, nat_cmp}
use Rattle.std.specs.declared.cmp.Ordering.{Ordering}
use Rattle.lists.specs.Lists.{insert_by, count_where, count_up}
use Rattle.sd_call.specs.declared.request.Request.{Request}
use Rattle.sd_call.specs.declared.request.Request.TheVariants as request
use Rattle.sd_call.specs.Requests.{no_error, with_txt}
use Rattle.mdns_history.specs.declared.event.Event.{Event}
use Rattle.mdns_history.specs.declared.event.Event.TheVariants as event
use Rattle.mdns_history.specs.declared.mark.Mark.{Mark}
use Rattle.mdns_history.specs.declared.mark.Mark.TheVariants as mark
use Rattle.mdns_history.specs.declared.entry.Outcome.{Outcome}
use Rattle.mdns_history.specs.declared.entry.Outcome.TheVariants as outcome
use Rattle.mdns_history.specs.declared.entry.Entry.{Entry}
pub use Rattle.mdns_history.specs.declared.operation.Operation.{Operation}
use Rattle.mdns_history.specs.History.{latest, has_mark}

-- the session that an outcome opened
abbrev pub opened : Outcome → Option ℕ
opened (outcome.Opened session) = Some session
opened _ = None

-- how many sessions were opened
abbrev pub opened_count : List Entry → ℕ
opened_count history = count_where (λ entry. is_some (opened entry.outcome)) history

-- whether an outcome is that of a detach
abbrev pub is_ended : Outcome → Bool
is_ended outcome.Ended = true
is_ended _ = false

-- the session that an entry detached
abbrev pub detached : Event → Outcome → Option ℕ
detached (event.Detach session) outcome = if is_ended outcome then Some session else None
detached _ outcome = None

-- whether a number is there, and is this one
abbrev pub is_number : ℕ → Option ℕ → Bool
is_number n None = false
is_number n (Some m) = m == n

-- whether an entry opened a session or detached it
abbrev pub attaching : ℕ → Entry → Option Bool
attaching session entry =
    if is_number session (opened entry.outcome) then Some true
    else if is_number session (detached entry.event entry.outcome) then Some false else None

-- A session is attached from the entry that opened it until the one that detached it.
unfoldable pub is_attached : ℕ → List Entry → Bool
is_attached session history = unwrap_or (latest (attaching session) history) false

-- the sessions that are attached, by number
unfoldable pub attached_sessions : List Entry → List ℕ
attached_sessions history = filter (λ session. is_attached session history) (count_up 1 (opened_count history))

-- the mark that a session was cut
abbrev pub is_cut_of : ℕ → Mark → Bool
is_cut_of session (mark.Cut s) = s == session
is_cut_of session _ = false

-- A session is cut from its mark Cut on. No number is given to two sessions.
unfoldable pub is_cut : ℕ → List Entry → Bool
is_cut session history = list_any (has_mark (is_cut_of session)) history

-- whether an outcome is the code 0
abbrev pub succeeded : Outcome → Bool
succeeded (outcome.Code code) = int_eq code no_error
succeeded _ = false

-- a call that was answered with code 0
pub record Accepted : Type 0 where
  pub session : ℕ
  pub op : ℕ
  pub request : Request

-- the call of an event, where its outcome is the code 0
abbrev pub accepted_call : Event → Outcome → Option Accepted
accepted_call (event.Call session op request) outcome = if succeeded outcome then Some (record { session = session; op = op; request = request }) else None
accepted_call _ outcome = None

-- the call that an entry accepted
abbrev pub accepted_in : Entry → Option Accepted
accepted_in entry = accepted_call entry.event entry.outcome

-- the order of a session's operations
abbrev pub by_op : Operation → Operation → Ordering
by_op left right = nat_cmp left.op right.op

-- whether an operation has a number
abbrev pub has_op : ℕ → Operation → Bool
has_op op operation = operation.op == op

-- an operation whose TXT an update replaces
abbrev pub updated : ℕ → List ℕ → Operation → Operation
updated op txt operation = record operation { request = if has_op op operation then with_txt txt operation.request else operation.request }

-- A start adds an operation, a stop takes one out, an update replaces the TXT of one.
abbrev pub after_request : ℕ → ℕ → Request → List Operation → List Operation
after_request session op (request.Update txt) before = map (updated op txt) before
after_request session op request.Stop before = filter (λ operation. not (has_op op operation)) before
after_request session op request before = insert_by by_op (record { session = session; op = op; request = request }) before

-- the operations of a session after a call, if it was that session's
abbrev pub after_call : ℕ → Option Accepted → List Operation → List Operation
after_call session None before = before
after_call session (Some call) before = if call.session == session then after_request session call.op call.request before else before

-- The live operations of a session, by number: each from its start until its stop or its session's end, with the TXT of its last update.
unfoldable pub operations_of : ℕ → List Entry → List Operation
operations_of session [] = []
operations_of session (entry ∷ past) =
    let before = operations_of session past in
    if is_number session (detached entry.event entry.outcome) then [] else after_call session (accepted_in entry) before

-- all live operations, by session and then by number
unfoldable pub operations : List Entry → List Operation
operations history = flat_map (λ session. operations_of session history) (attached_sessions history)

-- the request of a live operation
unfoldable pub operation_request : ℕ → ℕ → List Entry → Option Request
operation_request session op history = option_map (λ operation. operation.request) (find (has_op op) (operations_of session history))

-- the TXT of a registration
abbrev pub txt_of : Request → List ℕ
txt_of (request.Register label regtype port norename txt) = txt
txt_of _ = []

-- the TXT with which a registration stands
unfoldable pub present_txt : ℕ → ℕ → List Entry → List ℕ
present_txt session op history = option_map_or txt_of (operation_request session op history) []

-- whether a request is a stop
abbrev pub is_stop : Request → Bool
is_stop request.Stop = true
is_stop _ = false

-- whether a call stops an operation
abbrev pub stops : ℕ → ℕ → Option Accepted → Bool
stops session op None = false
stops session op (Some call) = (call.session == session) && (call.op == op) && is_stop call.request

-- whether an entry ends an operation: by its stop, or with its session
abbrev pub ends_operation : ℕ → ℕ → Entry → Bool
ends_operation session op entry = is_number session (detached entry.event entry.outcome) || stops session op (accepted_in entry)
