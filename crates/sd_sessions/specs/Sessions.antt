-- What is kept of the attached sessions, and the histories that it stands for.
use Rattle.std.specs.Prelude.{◌≡◌, ℕ, Bool, List, map}
use Rattle.sd_call.specs.declared.item.Item.{Item}
use Rattle.mdns_history.specs.declared.entry.Entry.{Entry}
use Rattle.mdns_history.specs.declared.operation.Operation.{Operation}
use Rattle.mdns_history.specs.Sessions.{opened_count, attached_sessions, operations_of, is_cut}
use Rattle.mdns_history.specs.Items.{queue}

-- an attached session: its live operations by number, whether it was cut, and the items that are queued for it
pub record Session : Type 0 where
  pub number : ℕ
  pub operations : List Operation
  pub cut : Bool
  pub queue : List Item

-- What contracts see of the sessions: how many were opened, those that are attached, for how many more items the queue of each has room, for
-- how many more operations each has room, for how many more sessions there is room, and for how many more operations the index of who asks for a
-- name has room.
pub record State : Type 0 where
  pub opened : ℕ
  pub sessions : List Session
  pub room : List ℕ
  pub starts : List ℕ
  pub places : ℕ
  pub filing : ℕ

-- a session as a history has it
abbrev pub session_in : List Entry → ℕ → Session
session_in history number = record { number = number; operations = operations_of number history; cut = is_cut number history; queue = queue number history }

-- the attached sessions as a history has them, by number
abbrev pub sessions_in : List Entry → List Session
sessions_in history = map (session_in history) (attached_sessions history)

-- Sessions stand for a history: as many were opened, and those that are attached are as the history has them.
pub record Stands (state : State) (history : List Entry) : Type 0 where
  pub opened : state.opened ≡ opened_count history
  pub sessions : state.sessions ≡ sessions_in history
