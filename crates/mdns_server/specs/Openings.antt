-- The sessions that a server opens.
use Rattle.std.specs.Prelude.{◌≡◌, ℕ, ◌+◌, Bool, true, List, [], ◌∷◌, ◌++◌, length, Option, Some, None}
use Rattle.mdns_history.specs.declared.event.Event.TheVariants as event
use Rattle.mdns_history.specs.declared.entry.Outcome.{Outcome}
use Rattle.mdns_history.specs.declared.entry.Outcome.TheVariants.{Opened}
use Rattle.mdns_turn.specs.History.{StartsWith}
use Rattle.mdns_turn.specs.Models.{SeatModel, IsSameSeat}
use Rattle.mdns_serve.specs.declared.shared.Shared.{Shared}
use Rattle.mdns_serve.specs.declared.happening.Happening.{Happening}
use Rattle.mdns_serve.specs.declared.happening.Happening.TheVariants.{Entered, Missed}
use Rattle.mdns_serve.specs.Reading.{IsFor}

-- each of the turns was to open a session
abbrev pub AreOpenings : List Happening → Type 0
AreOpenings [] = Unit {0}
AreOpenings (turn ∷ turns) = IsFor event.Attach turn × AreOpenings turns

-- A seat took turns that each were to open a session: one for each connection that was given, where all were let in.
pub record Opens (old new : SeatModel Shared Happening) (given_old given_new : Option ℕ) (whole : Bool) : Type 0 where
  pub same : IsSameSeat old new
  pub joined : new.joined ≡ old.joined
  pub seen : StartsWith new.seen old.seen
  pub opened : List Happening
  pub are : AreOpenings opened
  pub mine : new.mine ≡ old.mine ++ opened
  pub given : whole ≡ true → (now : ℕ) → given_new ≡ Some now → (was : ℕ) × (given_old ≡ Some was) × (now ≡ was + length opened)

-- A seat took one turn that was to open a session.
pub record OpensOne (old new : SeatModel Shared Happening) : Type 0 where
  pub same : IsSameSeat old new
  pub joined : new.joined ≡ old.joined
  pub seen : StartsWith new.seen old.seen
  pub turn : Happening
  pub is : IsFor event.Attach turn
  pub mine : new.mine ≡ old.mine ++ turn ∷ []

-- the session that was opened, by an outcome
abbrev pub opened_by : Outcome → Option ℕ
opened_by (Opened session) = Some session
opened_by _ = None

-- the session that a turn opened, if it did
abbrev pub opened_in : Happening → Option ℕ
opened_in (Entered entry) = opened_by entry.outcome
opened_in (Missed detaching) = None

-- The last of these turns opened this session.
abbrev pub HasOpened : List Happening → ℕ → Type 0
HasOpened turns session = (before : List Happening) × (turn : Happening) × (turns ≡ before ++ turn ∷ []) × (opened_in turn ≡ Some session)
