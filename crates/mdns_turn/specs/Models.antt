-- The words of the public contracts: what they see of a `Turn` and of a `Seat`, and what one turn does.
use Rattle.std.specs.Prelude.{◌≡◌, ℕ, List, [], ◌∷◌, ◌++◌, Option, Some, refl}
use Rattle.std.specs.Coded.{Coded, code_by, coded×, coded_ℕ, coded_list, coded_option}
use Rattle.atomic_table.specs.Seated.{TableId, table_id_coded}
use Rattle.atomic_table.specs.declared.shared.Seat.{Seat}
use Rattle.mdns_turn.specs.declared.view.View.{View}
use Rattle.mdns_turn.specs.History.{StandsAfter, HasTurns}

-- a `Turn`, as contracts see it
pub record TurnModel (T : Type 0) : Type 0 where
  -- which turn it is
  pub table : TableId
  -- the value that it was made with
  pub opening : T

-- a `Seat`, as contracts see it
pub record SeatModel (T E : Type 0) : Type 0 where
  -- the turn that it is of, and the value that this one was made with
  pub table : TableId
  pub opening : Option T
  pub number : ℕ
  -- the history as far as the seat has seen it
  pub seen : List (ℕ × E)
  -- its own turns
  pub mine : List E
  -- the seats that were joined into it: the number of each, and its turns
  pub joined : List (ℕ × List E)

-- what contracts see of a seat of the table
abbrev pub seat_model : {T E : Type 0} → Seat (Option T) (View T E) → SeatModel T E
seat_model place = let v = place.me.0 in record { table = place.table_id; opening = v.opening; number = v.number; seen = v.seen; mine = v.mine; joined = v.joined }

module _ {T E : Type 0} where
  -- the seat comes from this turn
  abbrev pub IsSeatOf : TurnModel T → SeatModel T E → Type 0
  IsSeatOf turn seat = (seat.table ≡ turn.table) × (seat.opening ≡ Some turn.opening)

  -- it is of the same turn, and has the same number
  abbrev pub IsSameSeat : SeatModel T E → SeatModel T E → Type 0
  IsSameSeat old new = (new.table ≡ old.table) × (new.opening ≡ old.opening) × (new.number ≡ old.number)

  -- its own turns, and those of each seat that was joined into it, are all that it has seen with their numbers, and the numbers differ
  abbrev pub HasItsTurns : SeatModel T E → Type 0
  HasItsTurns seat = HasTurns seat.seen seat.number seat.mine seat.joined

  -- The seat has taken one turn: a work got the value before and left the value after. What the work does is runs, and the turn that it adds is turn, of these two values
  pub record TakesTurn (stands : List E → T → Type 0) (opening : T) (runs : T → T → Type 0) (turn : T → T → E) (old new : SeatModel T E) : Type 0 where
    -- the entries since the last that the seat had seen
    pub between : List (ℕ × E)
    pub before : T
    pub after : T
    pub got : StandsAfter stands opening (old.seen ++ between) before
    pub ran : runs before after
    pub seen : new.seen ≡ (old.seen ++ between) ++ (old.number, turn before after) ∷ []
    pub mine : new.mine ≡ old.mine ++ turn before after ∷ []
    pub joined : new.joined ≡ old.joined
    pub left : StandsAfter stands opening new.seen after

-- how the models lie in memory's ghost values
abbrev pub turn_code : {T : Type 0} → Coded T → Coded (TurnModel T)
turn_code {T} t = code_by (TableId × T) (coded× table_id_coded t) (λ s. (s.table, s.opening)) (λ p. record { table = p.0; opening = p.1 }) (λ _. refl)

abbrev pub seat_code : {T E : Type 0} → Coded T → Coded E → Coded (SeatModel T E)
seat_code {T} {E} t e = code_by (TableId × (Option T × (ℕ × (List (ℕ × E) × (List E × List (ℕ × List E))))))
    (coded× table_id_coded (coded× (coded_option t) (coded× coded_ℕ (coded× (coded_list (coded× coded_ℕ e)) (coded× (coded_list e) (coded_list (coded× coded_ℕ (coded_list e))))))))
    (λ s. (s.table, (s.opening, (s.number, (s.seen, (s.mine, s.joined)))))) (λ p. record { table = p.0; opening = p.1.0; number = p.1.1.0; seen = p.1.1.1.0; mine = p.1.1.1.1.0; joined = p.1.1.1.1.1 }) (λ _. refl)
