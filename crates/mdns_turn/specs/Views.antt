-- What a seat knows, and how each step changes it.
use Rattle.std.specs.Prelude.{◌≡◌, ℕ, true, false, Option, Some, None, List, [], ◌∷◌, ◌++◌, map}
use Rattle.atomic_table.specs.Table.{Me}
use Rattle.atomic_table.specs.declared.shared.Seat.{Seat}
use Rattle.mdns_turn.specs.History.{longer}
use Rattle.mdns_turn.specs.declared.view.View.{View}
use Rattle.mdns_turn.specs.declared.view.Stage.TheVariants.{Idle, Waiting, Inside}

-- what a seat of the table knows, and the values that it holds, each with the slot that it is from
abbrev pub SeatState : Type 0 → Type 0 → Type 0
SeatState T E = Me (Option T) (View T E)

module _ {T E : Type 0} where
  -- a seat that was joined into another knows nothing any more
  abbrev pub blank : View T E
  blank = record { opening = None; named = false; number = 0; seen = []; mine = []; joined = []; told = []; stage = Idle }

  -- the seat that a turn is made with has the number 0
  abbrev pub first_view : T → View T E
  first_view opening = record { opening = Some opening; named = true; number = 0; seen = []; mine = []; joined = []; told = []; stage = Idle }

  -- it has drawn a ticket
  abbrev pub waiting : View T E → ℕ → View T E
  waiting v ticket = record v { stage = Waiting ticket }

  -- its ticket is served, and it has seen the whole history
  abbrev pub inside : View T E → ℕ → List (ℕ × E) → View T E
  inside v ticket history = record v { seen = history; stage = Inside ticket }

  -- it has added turns to the history, and its ticket is given up
  abbrev pub served : View T E → List E → View T E
  served v added = record v { seen = v.seen ++ map (λ turn. (v.number, turn)) added; mine = v.mine ++ added; stage = Idle }

  -- it has drawn a number of its own
  abbrev pub numbered : View T E → ℕ → View T E
  numbered v number = record v { named = true; number = number }

  -- what a seat knows that is split from v
  abbrev pub copied : View T E → View T E
  copied v = record v { named = false; mine = []; joined = []; told = []; stage = Idle }

  -- the seat v is told what the seat w had seen, and speaks for it from now on
  abbrev pub informed : View T E → View T E → View T E
  informed v w = record v { joined = v.joined ++ (w.number, w.mine) ∷ w.joined; told = w.seen }

  -- the longer list stands as seen
  abbrev pub heeded : View T E → View T E
  heeded v = record v { seen = longer v.seen v.told; told = [] }

  -- a seat between two calls holds no value, and has a number
  pub record IsIdle (m : SeatState T E) : Type 0 where
    pub empty : m.1 ≡ []
    pub idle : m.0.stage ≡ Idle
    pub named : m.0.named ≡ true
    pub quiet : m.0.told ≡ []

  -- the same seat of the same table, whatever it knows and holds
  abbrev pub IsSamePlace : Seat (Option T) (View T E) → Seat (Option T) (View T E) → Type 0
  IsSamePlace old new = (new.table_id ≡ old.table_id) × (new.id ≡ old.id)
