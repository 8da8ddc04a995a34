-- What a plan says, and that there is room for it.
use Rattle.std.specs.Prelude.{◌≡◌, ◌<◌, ◌≤◌, true, List, [], map, vec_capacity}
use Rattle.std.specs.Option.{is_some}
use Rattle.mdns_history.specs.declared.event.Event.{Event}
use Rattle.mdns_history.specs.declared.mark.Mark.{Mark}
use Rattle.mdns_happened.specs.Told.{Told, told_of}
use Rattle.sd_sessions.specs.Codes.{Knowing, kept_outcome}
use Rattle.sd_sessions.specs.declared.sessions.Plan.{Plan}
use Rattle.sd_sessions.specs.Sessions.{Session, State}
use Rattle.sd_sessions.specs.Answered.{Answering}
use Rattle.sd_sessions.specs.Settling.{change_told, most_taken}
use Rattle.sd_sessions.specs.Kept.{HasRoom, HavePlaces, IsFresh, IsWellFormedCall}

-- A plan is of what happened to these sessions, where their operations have these answers before it and after it.
pub record IsPlan (told : Told) (earlier later : Answering) (sessions : List Session) (plan : Plan) : Type 0 where
  pub changes : plan.changes.items ≡ map (change_told told earlier later) sessions
  pub call : IsWellFormedCall told.call
  pub fresh : IsFresh told sessions
  pub empty : plan.taken.items ≡ []
  pub room : most_taken told.taking ≤ vec_capacity plan.taken

-- There is room for a plan: in each queue, for an operation of the session that calls, for a session that is opened, and in the index.
pub record IsReady (told : Told) (plan : Plan) (state : State) : Type 0 where
  pub queues : HasRoom state.room plan.changes.items
  pub starts : HavePlaces state.starts plan.changes.items
  pub place : is_some told.opened ≡ true → 0 < state.places
  pub filing : is_some told.call ≡ true → 0 < state.filing

-- What is told is what an event amounts to for these sessions, whatever is known of registrations.
abbrev pub IsTold : Told → State → Type 0
IsTold told state =
    (knowing : Knowing) × (event : Event) × (marks : List Mark) × (told ≡ told_of event (kept_outcome knowing state.opened state.sessions event) marks)

-- A plan is of what happened to these sessions, by some answers before it and after it.
abbrev pub IsAnyPlan : Told → List Session → Plan → Type 0
IsAnyPlan told sessions plan = (earlier : Answering) × (later : Answering) × IsPlan told earlier later sessions plan
