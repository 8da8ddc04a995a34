-- Which questions an event asks, which get or lose a user, and what is then kept of them, told of what is kept before it. (RFC 6762 5.2, 7.1 and 7.3)
use Rattle.std.specs.Prelude.{ℕ, ◌+◌, ◌==◌, nat_le, Bool, not, ◌&&◌, ◌||◌, List, [], ◌∷◌, ◌++◌, map, filter, Option, Some, None, if◌then◌else◌}
use Rattle.std.specs.List.{list_any, list_all, flat_map, find}
use Rattle.mdns_base.specs.Hosts.{mdns_port}
use Rattle.dns_record.specs.declared.record.Key.{Key}
use Rattle.dns_record.specs.Records.{matches, same}
use Rattle.dns_message.specs.Packing.{pack_query}
use Rattle.sd_call.specs.declared.request.Request.{Request}
use Rattle.sd_call.specs.declared.request.Request.TheVariants as request
use Rattle.mdns_history.specs.declared.event.Event.{Event}
use Rattle.mdns_history.specs.declared.mark.Mark.{Mark}
use Rattle.mdns_history.specs.declared.mark.Cause.{Cause}
use Rattle.mdns_history.specs.declared.mark.Cause.TheVariants as cause
use Rattle.mdns_history.specs.declared.held.Held.{Held}
use Rattle.mdns_history.specs.declared.operation.Operation.{Operation}
use Rattle.mdns_history.specs.declared.entry.Sent.{Sent}
use Rattle.mdns_history.specs.declared.entry.Outcome.{Outcome}
use Rattle.mdns_history.specs.Hearings.{Heard}
use Rattle.mdns_history.specs.Sessions.{Accepted, accepted_call, detached, has_op}
use Rattle.mdns_history.specs.Questions.{keys_of}
use Rattle.mdns_history.specs.Asking.{asks_openly}
use Rattle.mdns_history.specs.Sending.{to_all}
use Rattle.mdns_happened.specs.Told.{is_tick, heard_of}
use Rattle.mdns_known.specs.Known.{known_of, all_known_of}
use Rattle.mdns_question.specs.declared.tracked.Tracked.{Tracked}
use Rattle.mdns_question.specs.Tracking.{with_user, without_user, with_asking, due_at}
use Rattle.mdns_asking.specs.State.{asker_of}
use Rattle.sd_sessions.specs.Sessions.{Session}
use Rattle.sd_sessions.specs.Codes.{has_number}
use Rattle.sd_sessions.specs.Kept.{operations_in}

-- Another's query asks a question in the daemon's stead where it is due within a second, and the query lists no answer that the daemon wouldn't.
abbrev pub is_asked_by : List Held → ℕ → Heard → Tracked → Bool
is_asked_by held moment heard one =
    not heard.message.response && (heard.from.port == mdns_port) && not heard.message.truncated && list_any (asks_openly one.key) heard.message.questions
    && nat_le one.next (moment + 1000)
    && list_all (λ rr. not (matches one.key rr) || list_any (same rr) (known_of one.key held moment)) heard.message.answers

-- the questions that a message asks in the daemon's stead
abbrev pub heard_for : List Tracked → List Held → ℕ → Option Heard → List (Key × Cause)
heard_for questions held moment None = []
heard_for questions held moment (Some heard) = map (λ one. (one.key, cause.Heard)) (filter (is_asked_by held moment heard) questions)

-- the questions that are asked, each with its cause, where these records are live: those that are due once time has passed, and those that a message asks
unfoldable pub asked_told : Bool → Option Heard → List Tracked → List Held → ℕ → List (Key × Cause)
asked_told ticks heard questions held moment = if ticks then due_at (asker_of questions held) moment else heard_for questions held moment heard

-- the questions that an event asks, where these records are live after it and these marks refuse its packet
abbrev pub asked_for : List Tracked → List Held → ℕ → List Mark → Event → List (Key × Cause)
asked_for questions held moment refusal event = asked_told (is_tick event) (heard_of refusal event) questions held moment

-- the queries of questions, with the known answers of all of them
abbrev pub queries_for : List Held → ℕ → List Key → List Sent
queries_for held moment keys = map to_all (pack_query keys (all_known_of keys held moment))

-- what is sent: once time has passed the queries of the questions that are asked
abbrev pub sent_told : Bool → List Held → ℕ → List (Key × Cause) → List Sent
sent_told ticks held moment asked = if ticks then queries_for held moment (map (λ due. due.0) asked) else []

-- what an event sends
abbrev pub sent_for : List Held → ℕ → Event → List (Key × Cause) → List Sent
sent_for held moment event asked = sent_told (is_tick event) held moment asked

-- the questions that get a user: those of the operation that an accepted call starts
abbrev pub begun_keys : Option Accepted → List Key
begun_keys None = []
begun_keys (Some call) = keys_of call.request

-- the operation that a request stops among those of a session
abbrev pub stopped_in : Request → ℕ → List Operation → List Operation
stopped_in request.Stop op operations = filter (has_op op) operations
stopped_in _ op operations = []

-- the operation that an accepted call stops
abbrev pub stopped_by : Option Accepted → List Session → List Operation
stopped_by None sessions = []
stopped_by (Some call) sessions = stopped_in call.request call.op (operations_in (find (has_number call.session) sessions))

-- the operations that end with a session
abbrev pub ended_with : Option ℕ → List Session → List Operation
ended_with None sessions = []
ended_with (Some number) sessions = operations_in (find (has_number number) sessions)

-- the questions that lose a user: those of the operations that an accepted call stops, or that end with a session
abbrev pub ended_told : Option Accepted → Option ℕ → List Session → List Key
ended_told call gone sessions = flat_map (λ operation. keys_of operation.request) (stopped_by call sessions ++ ended_with gone sessions)

-- the questions that lose a user by an event
abbrev pub ended_keys : Event → Outcome → List Session → List Key
ended_keys event outcome sessions = ended_told (accepted_call event outcome) (detached event outcome) sessions

-- questions with one user more for each of these keys
abbrev pub all_begun : ℕ → ℕ → List Key → List Tracked → List Tracked
all_begun moment word [] questions = questions
all_begun moment word (key ∷ keys) questions = all_begun moment word keys (with_user moment word key questions)

-- questions with one user less for each of these keys
abbrev pub all_ended : List Key → List Tracked → List Tracked
all_ended [] questions = questions
all_ended (key ∷ keys) questions = all_ended keys (without_user key questions)

-- questions after these askings
abbrev pub all_asked : ℕ → List (Key × Cause) → List Tracked → List Tracked
all_asked moment [] questions = questions
all_asked moment (asking ∷ more) questions = all_asked moment more (with_asking moment asking.0 asking.1 questions)

-- what is kept of questions after a call or the end of a session, where these are asked
unfoldable pub questions_told : Option Accepted → Option ℕ → List Session → ℕ → ℕ → List (Key × Cause) → List Tracked → List Tracked
questions_told call gone sessions moment word asked questions =
    all_asked moment asked (all_ended (ended_told call gone sessions) (all_begun moment word (begun_keys call) questions))

-- what is kept of questions after an event with its outcome, which asks these
abbrev pub questions_after : List Session → ℕ → ℕ → Event → Outcome → List (Key × Cause) → List Tracked → List Tracked
questions_after sessions moment word event outcome asked questions =
    questions_told (accepted_call event outcome) (detached event outcome) sessions moment word asked questions
