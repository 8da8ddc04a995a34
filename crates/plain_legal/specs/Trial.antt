-- What the last entry of a history is given, told of parts that were computed.
use Rattle.std.specs.Prelude.{◌≡◌, ℕ, nat_le, Bool, true, false, not, ◌&&◌, List, [], ◌∷◌, map, Option, Some, None, if◌then◌else◌}
use Rattle.mdns_history.specs.declared.event.Event.{Event}
use Rattle.mdns_history.specs.declared.event.Event.TheVariants as event
use Rattle.mdns_history.specs.declared.mark.Mark.{Mark}
use Rattle.mdns_history.specs.declared.mark.Mark.TheVariants as mark
use Rattle.mdns_history.specs.declared.entry.Sent.{Sent}
use Rattle.mdns_history.specs.declared.entry.Given.{Given}
use Rattle.mdns_history.specs.declared.entry.Entry.{Entry}
use Rattle.mdns_history.specs.Hearings.{Heard}
use Rattle.mdns_history.specs.Asking.{tick_askings, heard_askings}
use Rattle.mdns_history.specs.Announcing.{announced_groups}
use Rattle.mdns_history.specs.Fitting.{bad_mark, is_boot, last_moment}
use Rattle.mdns_history.specs.declared.entry.Outcome.{Outcome}
use Rattle.mdns_history.specs.declared.entry.Outcome.TheVariants as outcome
use Rattle.mdns_history.specs.History.{now}
use Rattle.mdns_history.specs.Outcomes.{take_outcome}

-- what f says of the last entry and the history before it, and else, where there is no entry, none
abbrev pub of_last : {X : Type 0} → X → (Entry → List Entry → X) → List Entry → X
of_last none f [] = none
of_last none f (entry ∷ past) = f entry past

-- the message that is taken in, unless there would be too many live records
abbrev pub admitted_unless : Bool → Option Heard → Option Heard
admitted_unless full None = None
admitted_unless full (Some heard) = if full then None else Some heard

-- why a packet counts as not heard
abbrev pub refusal_of : Bool → Event → List Mark
refusal_of full (event.Hear from bytes) = if full then mark.Full ∷ [] else bad_mark bytes
refusal_of full _ = []

-- the marks of questions that a tick asks, or that a packet asks in the daemon's stead
abbrev pub asked_at : ℕ → Event → Option Heard → List Entry → List Mark
asked_at moment event.Tick heard past = tick_askings past moment
asked_at moment _ heard past = heard_askings past moment heard

-- the marks of the groups that a tick announces, which is the last entry of the history
abbrev pub announced_told : ℕ → Event → List Entry → List Mark
announced_told moment event.Tick history = map (λ group. mark.Announced group.id) (announced_groups history moment)
announced_told moment _ history = []

-- a history whose last entry is made anew
abbrev pub on_last : (Entry → List Entry → Entry) → List Entry → List Entry
on_last f [] = []
on_last f (entry ∷ past) = f entry past ∷ past

-- how a take goes that is the last entry of a history, and nothing of other events
abbrev pub told_last : Event → List Entry → Option Outcome
told_last (event.Take session max) history = Some (take_outcome session max history)
told_last _ history = None

-- an entry with an outcome, if there is one
abbrev pub ending_with : Option Outcome → Entry → Entry
ending_with None entry = entry
ending_with (Some outcome) entry = record entry { outcome = outcome }

-- whether a list has no element
abbrev pub is_empty : {X : Type 0} → List X → Bool
is_empty [] = true
is_empty (x ∷ xs) = false

-- whether there is nothing to tell of how an event went
abbrev pub is_done : Outcome → Bool
is_done outcome.Done = true
is_done _ = false

-- whether an entry has neither marks nor messages nor items, and there is nothing to tell of how it went
abbrev pub has_nothing : Entry → Bool
has_nothing entry = is_empty entry.marks && is_empty entry.sent && is_empty entry.given && is_done entry.outcome

-- whether an entry is no boot, and neither earlier than a history nor past the last moment
abbrev pub may_follow : List Entry → Entry → Bool
may_follow history entry = nat_le (now history) entry.moment && nat_le entry.moment last_moment && not (is_boot entry.event)

-- an entry has these marks, messages and items, and went so
abbrev pub HasParts : Entry → List Mark → List Sent → List Given → Outcome → Type 0
HasParts entry marks sent given outcome = (entry.marks ≡ marks) × (entry.sent ≡ sent) × (entry.given ≡ given) × (entry.outcome ≡ outcome)
