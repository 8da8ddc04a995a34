-- What sessions are given, what they have taken, and what is queued for them.
use Rattle.std.specs.Prelude.{ℕ, ◌==◌, nat_lt, Bool, not, List, [], ◌∷◌, ◌++◌, map, length, filter, drop, Option, Some, None, if◌then◌else◌}
use Rattle.std.specs.List.{flat_map, filter_map, find}
use Rattle.std.specs.Option.{option_map_or, option_to_list}
use Rattle.lists.specs.Lists.{without}
use Rattle.sd_call.specs.declared.request.Request.{Request}
use Rattle.sd_call.specs.declared.request.Request.TheVariants as request
use Rattle.sd_call.specs.declared.request.Verb.{Verb}
use Rattle.sd_call.specs.declared.request.Verb.TheVariants as verb
use Rattle.sd_call.specs.declared.answer.Answer.{Answer}
use Rattle.sd_call.specs.declared.item.Item.{Item}
use Rattle.sd_call.specs.declared.item.Item.TheVariants.{Reply, Add, Remove}
use Rattle.sd_call.specs.Answers.{answer_eq, frames_len, queue_limit}
use Rattle.mdns_history.specs.declared.event.Event.{Event}
use Rattle.mdns_history.specs.declared.event.Event.TheVariants as event
use Rattle.mdns_history.specs.declared.mark.Mark.{Mark}
use Rattle.mdns_history.specs.declared.mark.Mark.TheVariants as mark
use Rattle.mdns_history.specs.declared.entry.Given.{Given}
use Rattle.mdns_history.specs.declared.entry.Outcome.{Outcome}
use Rattle.mdns_history.specs.declared.entry.Outcome.TheVariants as outcome
use Rattle.mdns_history.specs.declared.entry.Entry.{Entry}
use Rattle.mdns_history.specs.Sessions.{Operation, has_op, operations_of, attached_sessions, is_cut}
use Rattle.mdns_history.specs.Answers.{answers}

-- what a request's reply says that it answers
abbrev pub verb_of : Request → Verb
verb_of (request.Update txt) = verb.Update
verb_of request.Stop = verb.Stop
verb_of _ = verb.Start

-- the reply to a session's own call
abbrev pub reply_of : ℕ → Event → Outcome → Option Item
reply_of session (event.Call s op request) (outcome.Code code) = if s == session then Some (Reply op (verb_of request) code) else None
reply_of session _ _ = None

-- the answers that a session's operation had before, where it was live
abbrev pub earlier_answers : ℕ → List Entry → Operation → List Answer
earlier_answers session past operation = option_map_or (λ before. answers before past) (find (has_op operation.op) (operations_of session past)) []

-- the removes of an operation: what it had before and has no more
abbrev pub removes : ℕ → Entry → List Entry → Operation → List Item
removes session entry past operation =
    map (λ answer. Remove operation.op answer) (without answer_eq (earlier_answers session past operation) (answers operation (entry ∷ past)))

-- the adds of an operation: what it has newly
abbrev pub adds : ℕ → Entry → List Entry → Operation → List Item
adds session entry past operation =
    map (λ answer. Add operation.op answer) (without answer_eq (answers operation (entry ∷ past)) (earlier_answers session past operation))

-- what an entry brings a session: the reply to its call, then the removes, then the adds, by operation and answer
unfoldable pub change_items : ℕ → Entry → List Entry → List Item
change_items session entry past = let live = operations_of session (entry ∷ past) in
    option_to_list (reply_of session entry.event entry.outcome) ++ flat_map (removes session entry past) live ++ flat_map (adds session entry past) live

-- the sessions that an entry finds or makes attached and that aren't cut, by number
unfoldable pub served_sessions : Entry → List Entry → List ℕ
served_sessions entry past = filter (λ session. not (is_cut session (entry ∷ past))) (attached_sessions (entry ∷ past))

-- an item for a session
abbrev pub given_to : ℕ → Item → Given
given_to session item = record { session = session; item = item }

-- all that an entry gives
unfoldable pub given_items : Entry → List Entry → List Given
given_items entry past = flat_map (λ session. map (given_to session) (change_items session entry past)) (served_sessions entry past)

-- the items of one session among those given
abbrev pub item_for : ℕ → Given → Option Item
item_for session given = if given.session == session then Some given.item else None

-- all items that a session was given, in order
unfoldable pub session_items : ℕ → List Entry → List Item
session_items session [] = []
session_items session (entry ∷ past) = session_items session past ++ filter_map (item_for session) entry.given

-- the items that an entry's outcome hands over to a session
abbrev pub handed_over : ℕ → Event → Outcome → List Item
handed_over session (event.Take s max) (outcome.Items items) = if s == session then items else []
handed_over session _ _ = []

-- all items that a session took, in order
unfoldable pub taken_items : ℕ → List Entry → List Item
taken_items session [] = []
taken_items session (entry ∷ past) = taken_items session past ++ handed_over session entry.event entry.outcome

-- the items that a session was given and hasn't taken; none are queued for a cut one
unfoldable pub queue : ℕ → List Entry → List Item
queue session history = if is_cut session history then [] else drop (length (taken_items session history)) (session_items session history)

-- whether what an entry brings a session would pass the limit of its queue
abbrev pub would_pass : Entry → List Entry → ℕ → Bool
would_pass entry past session = nat_lt queue_limit (frames_len (queue session past ++ change_items session entry past))

-- the marks of the sessions that an entry cuts
unfoldable pub cut_marks : Entry → List Entry → List Mark
cut_marks entry past = map (λ session. mark.Cut session) (filter (would_pass entry past) (served_sessions entry past))
