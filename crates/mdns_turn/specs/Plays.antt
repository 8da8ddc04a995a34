-- What each step tells the seat that takes it: of the step, the seat before, the number that the step found in the word, and the seat after.
use Rattle.std.specs.Prelude.{◌≡◌, ◌≢◌, ℕ, ◌<◌, List, [], ◌∷◌, ◌++◌, ◌⊎◌, Option, Some, None}
use Rattle.atomic_table.specs.Table.{Step, rest}
use Rattle.mdns_turn.specs.History.{StartsWith, turns_of, StandsAfter, HasTurns}
use Rattle.mdns_turn.specs.Views.{SeatState, waiting, inside, served, numbered, heeded}
use Rattle.mdns_turn.specs.declared.view.Stage.TheVariants.{Waiting}

abbrev pub Tells : Type 0 → Type 0 → Type 1
Tells T E = Step (Option T) → SeatState T E → ℕ → SeatState T E → Type 0

module _ {T E : Type 0} where
  -- a compare and exchange: the seat becomes won where the number expected was found, and else stays as it was
  abbrev pub Tries : SeatState T E → Tells T E
  Tries won at old found new = (found ≡ at.first → new ≡ won) × (found ≢ at.first → new ≡ old)

  -- draw: the number found is the seat's ticket
  abbrev pub Draws : Tells T E
  Draws at old found new = Tries (waiting old.0 found, old.1) at old found new

  -- the value stands for the history, which goes on by these entries from what the seat had seen, and has all turns that the seat speaks for
  pub record IsCurrent (stands : List E → T → Type 0) (old : SeatState T E) (between : List (ℕ × E)) (value : T) : Type 0 where
    pub right : (x : T) → old.0.opening ≡ Some x → StandsAfter stands x (old.0.seen ++ between) value
    pub turns : HasTurns (old.0.seen ++ between) old.0.number old.0.mine old.0.joined

  -- the current value came to the seat
  pub record Comes (stands : List E → T → Type 0) (ticket : ℕ) (old new : SeatState T E) : Type 0 where
    pub value : T
    pub between : List (ℕ × E)
    pub current : IsCurrent stands old between value
    pub seat : new ≡ (inside old.0 ticket (old.0.seen ++ between), (0, Some value) ∷ old.1)

  -- look: the value comes where the number found is the seat's ticket
  abbrev pub Looks : (List E → T → Type 0) → Tells T E
  Looks stands at old found new = (ticket : ℕ) → old.0.stage ≡ Waiting ticket → (found ≡ ticket → Comes stands ticket old new) × (found ≢ ticket → new ≡ old)

  -- serve: these turns were added, and the value that came is at home again
  abbrev pub Serves : List E → Tells T E
  Serves added at old found new = new ≡ (served old.0 added, rest old.1)

  -- name: the number found is the seat's. It is above that of the seat which this one was split from, and has no turn
  abbrev pub Names : Tells T E
  Names at old found new = Tries (numbered old.0 found, old.1) at old found new × (old.0.number < found) × (turns_of found old.0.seen ≡ [])

  -- the load after a join: the longer list stands as seen, both lists begin it, and it has all turns that the seat speaks for
  pub record Learns (at : Step (Option T)) (old : SeatState T E) (found : ℕ) (new : SeatState T E) : Type 0 where
    pub seat : new ≡ (heeded old.0, old.1)
    pub own : StartsWith new.0.seen old.0.seen
    pub told : StartsWith new.0.seen old.0.told
    pub either : (new.0.seen ≡ old.0.seen) ⊎ (new.0.seen ≡ old.0.told)
    pub turns : HasTurns new.0.seen old.0.number old.0.mine old.0.joined

  -- the current value came to the seat, which has taken it out of its slot
  pub record Arrives (stands : List E → T → Type 0) (value : T) (old new : SeatState T E) : Type 0 where
    pub ticket : ℕ
    pub between : List (ℕ × E)
    pub current : IsCurrent stands old between value
    pub seat : new ≡ (inside old.0 ticket (old.0.seen ++ between), (0, None) ∷ [])
