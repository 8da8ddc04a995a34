-- What the types of the sessions mean.
use Rattle.std.specs.Prelude.{◌≡◌, ℕ, ◌<◌, ◌≤◌, ◌==◌, nat_lt, nat_le, true, IsTrue, List, [], ◌∷◌, ◌++◌, map, length, Option, Some, None, is_none, vec_len, vec_capacity}
use Rattle.std.specs.List.{list_all, find, AllByRecursion}
use Rattle.std.specs.Option.{is_some}
use Rattle.sd_call.specs.declared.item.Item.{Item}
use Rattle.sd_call.specs.Requests.{well_formed, is_start}
use Rattle.mdns_history.specs.declared.operation.Operation.{Operation}
use Rattle.mdns_history.specs.Sessions.{Accepted, has_op}
use Rattle.mdns_happened.specs.Told.{Told}
pub use Rattle.sd_outbox.specs.Queues.{queued}
use Rattle.sd_sessions.specs.declared.session.SessionState.{SessionState}
use Rattle.sd_operations.specs.declared.call.Call.{Call}
use Rattle.sd_sessions.specs.declared.change.SessionChange.{SessionChange}
use Rattle.sd_sessions.specs.Sessions.{Session}
use Rattle.sd_sessions.specs.Changes.{passes}
use Rattle.sd_operations.specs.Operations.{AreRising}

-- each operation asks for something well formed
abbrev pub AreWellFormed : List Operation → Type 0
AreWellFormed operations = AllByRecursion (λ (operation : Operation). IsTrue (well_formed operation.request)) operations

-- each session's operations ask for something well formed
abbrev pub HaveWellFormed : List Session → Type 0
HaveWellFormed sessions = AllByRecursion (λ (session : Session). AreWellFormed session.operations) sessions

-- in each session the numbers of operations rise
abbrev pub HaveRising : List Session → Type 0
HaveRising sessions = AllByRecursion (λ (session : Session). AreRising session.operations) sessions

-- Each number is less than those behind it.
abbrev pub IsRising : List ℕ → Type 0
IsRising [] = Unit {0}
IsRising (n ∷ ns) = (list_all (nat_lt n) ns ≡ true) × IsRising ns

-- each operation is of the session of this number
abbrev pub AreOwn : ℕ → List Operation → Type 0
AreOwn number operations = AllByRecursion (λ (operation : Operation). operation.session ≡ number) operations

-- each session has its own operations
abbrev pub HaveOwn : List Session → Type 0
HaveOwn sessions = AllByRecursion (λ (session : Session). AreOwn session.number session.operations) sessions

-- the numbers of sessions
abbrev pub numbers_of : List Session → List ℕ
numbers_of sessions = map (λ session. session.number) sessions

-- What holds of the sessions that are kept: their operations are their own and well formed and each has a number of its own, and so has each
-- session, of those that were opened.
pub record AreKept (opened : ℕ) (sessions : List Session) : Type 0 where
  pub formed : HaveWellFormed sessions
  pub rising : HaveRising sessions
  pub own : HaveOwn sessions
  pub numbers : IsRising (numbers_of sessions)
  pub within : list_all (λ n. nat_le n opened) (numbers_of sessions) ≡ true

-- a start that is accepted is of a number that no operation of its session has
abbrev pub IsNewIn : Option Accepted → Session → Type 0
IsNewIn None session = Unit {0}
IsNewIn (Some call) session = (call.session == session.number) ≡ true → is_start call.request ≡ true → find (has_op call.op) session.operations ≡ None

-- What is told begins nothing that is there: an operation of a number that its session hasn't, and a session behind all others.
pub record IsFresh (told : Told) (sessions : List Session) : Type 0 where
  pub operation : AllByRecursion (IsNewIn told.call) sessions
  pub session : (n : ℕ) → told.opened ≡ Some n → list_all (λ m. nat_lt m n) (numbers_of sessions) ≡ true

-- a queue that may have been cut, with items behind it
abbrev pub joined : Option (List Item) → List Item → Option (List Item)
joined None more = None
joined (Some items) more = Some (items ++ more)

-- a session as it is kept
abbrev pub session_of : SessionState → Session
session_of state = record { number = state.number; operations = state.operations.items; cut = is_none state.outbox.items; queue = queued state.outbox.items }

-- the sessions as they are kept
abbrev pub sessions_of : List SessionState → List Session
sessions_of states = map session_of states

-- a session has room for what it is brought, and for an operation where it calls
pub record HasRoomFor (state : SessionState) (change : SessionChange) : Type 0 where
  pub queue : length change.brought ≤ state.outbox.spare
  pub place : is_some change.call ≡ true → vec_len state.operations < vec_capacity state.operations

-- each session has room for its change
abbrev pub HaveRoom : List SessionState → List SessionChange → Type 0
HaveRoom [] changes = Unit {0}
HaveRoom (state ∷ states) [] = Unit {0}
HaveRoom (state ∷ states) (change ∷ changes) = HasRoomFor state change × HaveRoom states changes

-- a change fits a session, whose operations have numbers that rise: it cuts exactly where what it brings would pass the limit of the queue, and
-- brings nothing to a session that was cut
pub record IsFit (session : Session) (change : SessionChange) : Type 0 where
  pub cuts : change.cuts ≡ passes session.queue change.brought
  pub cut : session.cut ≡ true → change.brought ≡ []
  pub rising : AreRising session.operations

-- each change fits its session
abbrev pub AreFit : List Session → List SessionChange → Type 0
AreFit [] changes = Unit {0}
AreFit (session ∷ sessions) [] = Unit {0}
AreFit (session ∷ sessions) (change ∷ changes) = IsFit session change × AreFit sessions changes

-- the operations of a session that may be there
abbrev pub operations_in : Option Session → List Operation
operations_in None = []
operations_in (Some session) = session.operations

-- each queue has room for what its session is brought
abbrev pub HasRoom : List ℕ → List SessionChange → Type 0
HasRoom [] changes = Unit {0}
HasRoom (room ∷ rooms) [] = Unit {0}
HasRoom (room ∷ rooms) (change ∷ changes) = (length change.brought ≤ room) × HasRoom rooms changes

-- each session that calls has room for an operation
abbrev pub HavePlaces : List ℕ → List SessionChange → Type 0
HavePlaces [] changes = Unit {0}
HavePlaces (place ∷ places) [] = Unit {0}
HavePlaces (place ∷ places) (change ∷ changes) = (is_some change.call ≡ true → 0 < place) × HavePlaces places changes

-- a call that was accepted is well formed
abbrev pub IsWellFormedCall : Option Accepted → Type 0
IsWellFormedCall None = Unit {0}
IsWellFormedCall (Some call) = IsTrue (well_formed call.request)

-- a session's own call is well formed
abbrev pub IsWellFormedOwn : Option Call → Type 0
IsWellFormedOwn None = Unit {0}
IsWellFormedOwn (Some call) = IsTrue (well_formed call.request)
