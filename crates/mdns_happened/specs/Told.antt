-- What the parts of a daemon are told of an event: by the event with its outcome, and by what happened.
use Rattle.std.specs.Prelude.{ℕ, ◌==◌, Bool, true, false, List, [], ◌∷◌, Option, Some, None, if◌then◌else◌}
use Rattle.std.specs.Ordering.{int_eq}
use Rattle.sd_call.specs.declared.item.Item.{Item}
use Rattle.sd_call.specs.declared.item.Item.TheVariants.{Reply}
use Rattle.sd_call.specs.Requests.{no_error}
use Rattle.mdns_history.specs.declared.event.Event.{Event}
use Rattle.mdns_history.specs.declared.event.Event.TheVariants as event
use Rattle.mdns_history.specs.declared.mark.Mark.{Mark}
use Rattle.mdns_history.specs.declared.mark.Mark.TheVariants as mark
use Rattle.mdns_history.specs.declared.entry.Outcome.{Outcome}
use Rattle.mdns_history.specs.declared.entry.Outcome.TheVariants as outcome
use Rattle.mdns_history.specs.Hearings.{Heard, brought}
use Rattle.mdns_history.specs.Sessions.{Accepted, accepted_call, opened, detached}
use Rattle.mdns_history.specs.Items.{reply_of, verb_of}
use Rattle.mdns_happened.specs.declared.happened.Happened.{Happened}
use Rattle.mdns_happened.specs.declared.happened.Happened.TheVariants as happened
use Rattle.mdns_happened.specs.declared.happened.Refusal.{Refusal}
use Rattle.mdns_happened.specs.declared.happened.Refusal.TheVariants as refusal
use Rattle.mdns_happened.specs.declared.happened.Idle.{Idle}
use Rattle.mdns_happened.specs.declared.happened.Idle.TheVariants as idle

-- a take of items: of which session, and how many at most
pub record Taking : Type 0 where
  pub session : ℕ
  pub max : ℕ

-- What is told of an event: whether time has passed, the message that it brings, the mark of a packet that is refused, the call that it
-- accepts, its reply to each session, the session that it opens or ends, what it takes, and how it goes, but for a take.
pub record Told : Type 0 where
  pub ticks : Bool
  pub heard : Option Heard
  pub refusal : List Mark
  pub call : Option Accepted
  pub reply : ℕ → Option Item
  pub opened : Option ℕ
  pub detached : Option ℕ
  pub taking : Option Taking
  pub outcome : Outcome

-- whether time has passed
abbrev pub is_tick : Event → Bool
is_tick event.Tick = true
is_tick _ = false

-- what was heard, unless the packet was refused
abbrev pub unless : List Mark → Option Heard → Option Heard
unless [] heard = heard
unless (mark ∷ marks) heard = None

-- the message that an event brings, unless these marks refuse its packet
abbrev pub heard_of : List Mark → Event → Option Heard
heard_of marks (event.Hear from bytes) = unless marks (brought (event.Hear from bytes))
heard_of marks _ = None

-- the take of an event
abbrev pub taking_of : Event → Option Taking
taking_of (event.Take session max) = Some (record { session = session; max = max })
taking_of _ = None

-- what is told of an event that goes so, where these marks refuse its packet
abbrev pub told_of : Event → Outcome → List Mark → Told
told_of event outcome marks =
    record {
      ticks = is_tick event;
      heard = heard_of marks event;
      refusal = marks;
      call = accepted_call event outcome;
      reply = λ session. reply_of session event outcome;
      opened = opened outcome;
      detached = detached event outcome;
      taking = taking_of event;
      outcome = outcome;
    }

-- the mark of a packet that is refused
abbrev pub mark_of : Refusal → Mark
mark_of (refusal.Bad number) = mark.Bad number
mark_of refusal.Full = mark.Full

-- how an event goes that amounts to nothing
abbrev pub outcome_of : Idle → Outcome
outcome_of idle.Ignored = outcome.Done
outcome_of idle.Full = outcome.Full
outcome_of idle.Closed = outcome.Closed
outcome_of idle.Cut = outcome.Cut

-- what is told of an event that only goes so
abbrev pub nothing_but : Outcome → Told
nothing_but outcome =
    record { ticks = false; heard = None; refusal = []; call = None; reply = λ session. None; opened = None; detached = None; taking = None; outcome = outcome }

-- what is told of what happened
abbrev pub told_by : Happened → Told
told_by happened.Ticked = record (nothing_but outcome.Done) { ticks = true }
told_by (happened.Heard said) = record (nothing_but outcome.Done) { heard = Some (record { from = said.from.now; message = said.message }) }
told_by (happened.Refused why) = record (nothing_but outcome.Done) { refusal = mark_of why ∷ [] }
told_by (happened.Opened session) = record (nothing_but (outcome.Opened session)) { opened = Some session }
told_by (happened.Called session op request code) =
    record (nothing_but (outcome.Code code)) {
      call = if int_eq code no_error then Some (record { session = session; op = op; request = request.now }) else None;
      reply = λ number. if session == number then Some (Reply op (verb_of request.now) code) else None;
    }
told_by (happened.Detached session) = record (nothing_but outcome.Ended) { detached = Some session }
told_by (happened.Took session max) = record (nothing_but outcome.Done) { taking = Some (record { session = session; max = max }) }
told_by (happened.Nothing why) = nothing_but (outcome_of why)

-- what is told of a packet that brings this, where these marks refuse it
abbrev pub packet_told : Option Heard → List Mark → Told
packet_told heard marks = record (nothing_but outcome.Done) { heard = unless marks heard; refusal = marks }
