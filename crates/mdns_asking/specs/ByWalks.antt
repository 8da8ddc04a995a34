-- What is asked and sent, as it is seen on the walks of names: questions of other names are as what is kept of them says. (RFC 6762 5.2, 7.1 and 7.3)
use Rattle.std.specs.Prelude.{ℕ, nat_le, Bool, List, [], map, filter, Option, Some, None, if◌then◌else◌}
use Rattle.std.specs.List.{flat_map, filter_map}
use Rattle.std.specs.Option.{option_map}
use Rattle.dns_name.specs.Names.{folded_eq}
use Rattle.lists.specs.Lists.{ordered}
use Rattle.dns_record.specs.declared.record.Rr.{Rr}
use Rattle.dns_record.specs.declared.record.Key.{Key}
use Rattle.dns_record.specs.Records.{record_cmp}
use Rattle.dns_message.specs.Packing.{pack_query}
use Rattle.mdns_history.specs.declared.mark.Cause.{Cause}
use Rattle.mdns_history.specs.declared.mark.Cause.TheVariants as cause
use Rattle.mdns_history.specs.declared.held.Held.{Held}
use Rattle.mdns_history.specs.declared.entry.Sent.{Sent}
use Rattle.mdns_history.specs.Hearings.{Heard}
use Rattle.mdns_history.specs.Sending.{to_all}
use Rattle.mdns_happened.specs.declared.walk.Walk.{Walk}
use Rattle.mdns_happened.specs.Told.{Told}
use Rattle.mdns_happened.specs.Walks.{walk_of}
use Rattle.mdns_known.specs.Known.{known_of}
use Rattle.mdns_question.specs.declared.tracked.Tracked.{Tracked}
use Rattle.mdns_question.specs.Refreshing.{cause_of}
use Rattle.mdns_asking.specs.Asked.{is_asked_by}
use Rattle.mdns_asking.specs.Timed.{timed}

-- a walk's later records, if there is one
abbrev pub later_in : Option Walk → List Held
later_in None = []
later_in (Some walk) = walk.later.items

-- the records of a name that are held after an event, if it was walked
abbrev pub later_of : List (List ℕ) → List Walk → List Held
later_of name walks = later_in (walk_of name walks)

-- a question with the first refresh point of a walk's later records, and as it is kept where there is no walk
abbrev pub timed_in : Tracked → Option Walk → Tracked
timed_in one None = one
timed_in one (Some walk) = timed walk.later.items one

-- a question with the first refresh point of the records that are held after an event, if its name was walked
abbrev pub timed_by : List Walk → Tracked → Tracked
timed_by walks one = timed_in one (walk_of one.key.name walks)

-- a question with the first refresh point of a walk's later records, if the walk is of its name
abbrev pub timed_if : Walk → Tracked → Tracked
timed_if walk one = if folded_eq walk.name one.key.name then timed walk.later.items one else one

-- why a question whose turn in its series hasn't come is asked, if it is due by this refresh point
abbrev pub refresh_cause : ℕ → Option ℕ → Option Cause
refresh_cause moment None = None
refresh_cause moment (Some point) = if nat_le point moment then Some cause.Refresh else None

-- a question with its cause, if it is due
abbrev pub due_by : List Walk → ℕ → Tracked → Option (Key × Cause)
due_by walks moment one = option_map (λ cause. (one.key, cause)) (cause_of moment (timed_by walks one))

-- a message asks a question in the daemon's stead
abbrev pub is_heard_by : List Walk → ℕ → Heard → Tracked → Bool
is_heard_by walks moment heard one = is_asked_by (later_of one.key.name walks) moment heard one

-- the questions that a message asks in the daemon's stead
abbrev pub heard_by : List Tracked → List Walk → ℕ → Option Heard → List (Key × Cause)
heard_by questions walks moment None = []
heard_by questions walks moment (Some heard) = map (λ one. (one.key, cause.Heard)) (filter (is_heard_by walks moment heard) questions)

-- why a message asks a question, if it does
abbrev pub cause_heard : List Walk → ℕ → Option Heard → Tracked → Option Cause
cause_heard walks moment None one = None
cause_heard walks moment (Some heard) one = if is_heard_by walks moment heard one then Some cause.Heard else None

-- why an event asks a question, if it does
abbrev pub cause_by : Told → ℕ → List Walk → Tracked → Option Cause
cause_by told moment walks one = if told.ticks then cause_of moment (timed_by walks one) else cause_heard walks moment told.heard one

-- the questions that are asked, each with its cause
unfoldable pub asked_by : Bool → Option Heard → List Tracked → List Walk → ℕ → List (Key × Cause)
asked_by ticks heard questions walks moment = if ticks then filter_map (due_by walks moment) questions else heard_by questions walks moment heard

-- the known answers of several questions, each once, in record order
unfoldable pub known_by : List Key → List Walk → ℕ → List Rr
known_by keys walks moment = ordered record_cmp (flat_map (λ key. known_of key (later_of key.name walks) moment) keys)

-- the queries of questions, with the known answers of all of them
abbrev pub queries_by : List Walk → ℕ → List Key → List Sent
queries_by walks moment keys = map to_all (pack_query keys (known_by keys walks moment))

-- what is sent: once time has passed the queries of the questions that are asked
abbrev pub sent_by : Bool → List Walk → ℕ → List (Key × Cause) → List Sent
sent_by ticks walks moment asked = if ticks then queries_by walks moment (map (λ due. due.0) asked) else []
