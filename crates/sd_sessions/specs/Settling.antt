-- What an event makes of the sessions that are kept.
use Rattle.std.specs.Prelude.{ℕ, ◌==◌, false, not, ◌||◌, List, [], ◌∷◌, ◌++◌, map, filter, Option, Some, None, if◌then◌else◌, take, drop}
use Rattle.std.specs.List.{flat_map, find}
use Rattle.sd_call.specs.declared.item.Item.{Item}
use Rattle.mdns_history.specs.declared.operation.Operation.{Operation}
use Rattle.mdns_history.specs.declared.event.Event.{Event}
use Rattle.mdns_history.specs.declared.mark.Mark.{Mark}
use Rattle.mdns_history.specs.declared.mark.Mark.TheVariants as mark
use Rattle.mdns_history.specs.declared.entry.Given.{Given}
use Rattle.mdns_history.specs.declared.entry.Outcome.{Outcome}
use Rattle.mdns_history.specs.declared.entry.Outcome.TheVariants as outcome
use Rattle.mdns_history.specs.Outcomes.{items_or_empty}
use Rattle.mdns_history.specs.Sessions.{Accepted, accepted_call, detached, is_number}
use Rattle.mdns_history.specs.Items.{given_to}
use Rattle.mdns_happened.specs.Told.{Told, Taking, taking_of, told_of}
use Rattle.sd_operations.specs.declared.call.Call.{Call}
use Rattle.sd_sessions.specs.declared.change.SessionChange.{SessionChange}
use Rattle.sd_operations.specs.Operations.{after_own}
use Rattle.sd_sessions.specs.Sessions.{Session}
use Rattle.sd_sessions.specs.Codes.{has_number}
use Rattle.sd_sessions.specs.Answered.{Answering}
use Rattle.sd_sessions.specs.Changes.{items_between, passes}

-- the call of a session of this number, where an accepted call is the session's
abbrev pub own_call : Option Accepted → ℕ → Option Call
own_call None number = None
own_call (Some call) number = if call.session == number then Some (record { op = call.op; request = call.request }) else None

-- the operations that an accepted call leaves to a session
abbrev pub left_to : Option Accepted → ℕ → List Operation → List Operation
left_to call number operations = after_own number (own_call call number) operations

-- the operations of a session after an event with its outcome
abbrev pub operations_then : Event → Outcome → Session → List Operation
operations_then event outcome session = left_to (accepted_call event outcome) session.number session.operations

-- what a session has of an event, told of the answers before and after it
abbrev pub brought_told : Told → Answering → Answering → Session → List Item
brought_told told earlier later session =
    if session.cut || is_number session.number told.detached then []
    else items_between earlier later (told.reply session.number) session.operations (left_to told.call session.number session.operations)

-- the change of a session: its call, what it is brought, and whether that would pass the limit of its queue
abbrev pub change_told : Told → Answering → Answering → Session → SessionChange
change_told told earlier later session =
    record {
      session = session.number;
      call = own_call told.call session.number;
      brought = brought_told told earlier later session;
      cuts = passes session.queue (brought_told told earlier later session);
    }

-- what a session has of an event with its outcome
abbrev pub brought_to : Event → Outcome → Answering → Answering → Session → List Item
brought_to event outcome earlier later session = brought_told (told_of event outcome []) earlier later session

-- the change of a session by an event with its outcome
abbrev pub change_for : Event → Outcome → Answering → Answering → Session → SessionChange
change_for event outcome earlier later session = change_told (told_of event outcome []) earlier later session

-- the marks of the sessions that are cut
abbrev pub cuts_of : List SessionChange → List Mark
cuts_of changes = map (λ change. mark.Cut change.session) (filter (λ change. change.cuts) changes)

-- what the other sessions are given
abbrev pub gifts_of : List SessionChange → List Given
gifts_of changes = flat_map (λ change. map (given_to change.session) change.brought) (filter (λ change. not change.cuts) changes)

-- a session with its change: its operations after its call, and cut for good, or with what it was brought behind its queue
abbrev pub settled : Session → SessionChange → Session
settled session change =
    record {
      number = session.number;
      operations = after_own session.number change.call session.operations;
      cut = session.cut || change.cuts;
      queue = if session.cut || change.cuts then [] else session.queue ++ change.brought;
    }

-- sessions with their changes
abbrev pub all_settled : List Session → List SessionChange → List Session
all_settled [] changes = []
all_settled (session ∷ sessions) [] = session ∷ sessions
all_settled (session ∷ sessions) (change ∷ changes) = settled session change ∷ all_settled sessions changes

-- the sessions but one that was detached
abbrev pub remaining_but : Option ℕ → List Session → List Session
remaining_but gone sessions = filter (λ session. not (is_number session.number gone)) sessions

-- the sessions that an event leaves attached
abbrev pub remaining : Event → Outcome → List Session → List Session
remaining event outcome sessions = remaining_but (detached event outcome) sessions

-- a session that was just opened
abbrev pub opened_session : ℕ → Session
opened_session number = record { number = number; operations = []; cut = false; queue = [] }

-- the sessions after what an event opens
abbrev pub with_opened : Option ℕ → List Session → List Session
with_opened None sessions = sessions
with_opened (Some number) sessions = sessions ++ opened_session number ∷ []

-- the sessions with their changes, after what is ended and opened
abbrev pub shifted_told : Told → List Session → List SessionChange → List Session
shifted_told told sessions changes = with_opened told.opened (remaining_but told.detached (all_settled sessions changes))

-- the sessions with their changes, after what an event ends and opens
abbrev pub shifted : Event → Outcome → List Session → List SessionChange → List Session
shifted event outcome sessions changes = shifted_told (told_of event outcome []) sessions changes

-- what a take hands over to a session that may be there
abbrev pub handed_to : ℕ → Option Session → Outcome
handed_to max None = outcome.Closed
handed_to max (Some session) = if session.cut then outcome.Cut else items_or_empty (take max session.queue)

-- how many items a take may hand over
abbrev pub most_taken : Option Taking → ℕ
most_taken None = 0
most_taken (Some taking) = taking.max

-- the outcome of a take, where these are the sessions, or else that which is known early
abbrev pub outcome_told : Option Taking → Outcome → List Session → Outcome
outcome_told None early sessions = early
outcome_told (Some taking) early sessions = handed_to taking.max (find (has_number taking.session) sessions)

-- the outcome of an event, where these are the sessions after it
abbrev pub outcome_then : Event → Outcome → List Session → Outcome
outcome_then event early sessions = outcome_told (taking_of event) early sessions

-- the session of a number without the first items of its queue
abbrev pub taken_from : ℕ → ℕ → List Session → List Session
taken_from number max [] = []
taken_from number max (session ∷ sessions) =
    if session.number == number then record session { queue = drop max session.queue } ∷ sessions else session ∷ taken_from number max sessions

-- the sessions when a take has handed over what it hands over
abbrev pub sessions_told : Option Taking → List Session → List Session
sessions_told None sessions = sessions
sessions_told (Some taking) sessions = taken_from taking.session taking.max sessions

-- the sessions when an event has handed over what it hands over
abbrev pub sessions_after : Event → List Session → List Session
sessions_after event sessions = sessions_told (taking_of event) sessions
