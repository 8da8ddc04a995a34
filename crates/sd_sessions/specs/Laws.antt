-- What one entry makes of the sessions, for every legal history and any duties.
use Rattle.std.specs.Prelude.{◌≡◌, ℕ, false, List, ◌∷◌, ◌++◌, map}
use Rattle.std.specs.Option.{unwrap_or}
use Rattle.mdns_history.specs.declared.event.Event.{Event}
use Rattle.mdns_history.specs.declared.entry.Outcome.{Outcome}
use Rattle.mdns_history.specs.declared.entry.Entry.{Entry}
use Rattle.mdns_history.specs.InForce.{Duties}
use Rattle.mdns_history.specs.Sessions.{opened}
use Rattle.mdns_history.specs.Answers.{answers}
use Rattle.mdns_history.specs.Outcomes.{early_outcome}
use Rattle.mdns_history.specs.Fitting.{bare_entry, event_marks, next_entry, is_boot, IsLegal}
use Rattle.sd_sessions.specs.declared.change.SessionChange.{SessionChange}
use Rattle.sd_sessions.specs.Sessions.{State, Stands}
use Rattle.sd_sessions.specs.Answered.{Answering}
use Rattle.sd_sessions.specs.Settling.{change_for, cuts_of, gifts_of, shifted, outcome_then, sessions_after}

-- the answers of operations in a history
abbrev pub answers_in : List Entry → Answering
answers_in history = λ operation. answers operation history

-- the changes of sessions that stand for a history, by the answers that operations have in it and with the next entry
abbrev pub changes_with : Entry → List Entry → Event → State → List SessionChange
changes_with entry past event state = map (change_for event (early_outcome event past) (answers_in past) (answers_in (entry ∷ past))) state.sessions

-- sessions after an event with its outcome, and with their changes
abbrev pub carried_on : Event → Outcome → List SessionChange → State → State
carried_on event outcome changes state =
    record state { opened = unwrap_or (opened outcome) state.opened; sessions = sessions_after event (shifted event outcome state.sessions changes) }

-- An entry carries sessions on: what it gives, which it cuts, how it goes and what then stands for the longer history is told by their changes.
pub record CarriesOn (duties : Duties) (past : List Entry) (moment word : ℕ) (event : Event) (state : State) (changes : List SessionChange) (entry : Entry) : Type 0 where
  pub given : entry.given ≡ gifts_of changes
  pub marks : entry.marks ≡ event_marks duties (bare_entry moment word event past) past ++ cuts_of changes
  pub outcome : entry.outcome ≡ outcome_then event (early_outcome event past) (shifted event (early_outcome event past) state.sessions changes)
  pub stands : Stands (carried_on event (early_outcome event past) changes state) (entry ∷ past)

-- Sessions that stand for a history are carried on by the entry that follows.
abbrev pub SessionsFollow : Type 0
SessionsFollow =
    (duties : Duties) (past : List Entry) (state : State) → IsLegal duties past → Stands state past → (moment word : ℕ) (event : Event) → is_boot event ≡ false
    → CarriesOn duties past moment word event state (changes_with (next_entry duties past moment word event) past event state) (next_entry duties past moment word event)
