-- A list of numbers, and the turns that make it.
use Rattle.std.specs.Prelude.{◌≡◌, ◌≢◌, ℕ, List, [], ◌∷◌, ◌++◌, map, length, AllPairs}
use Rattle.mdns_turn.specs.History.{turns, turns_of}
use Rattle.mdns_turn.specs.Models.{SeatModel}
use Rattle.mdns_turn_numbers.specs.declared.Numbers.{Numbers}
use Rattle.mdns_turn_numbers.specs.declared.Change.{Change}
use Rattle.mdns_turn_numbers.specs.declared.Change.TheVariants.{Added, Missed, Counted, Taken}

-- the list after these turns, where it was xs before them
abbrev pub items_after : List ℕ → List Change → List ℕ
items_after xs [] = xs
items_after xs (Added n ∷ changes) = items_after (xs ++ n ∷ []) changes
items_after xs (Missed ∷ changes) = items_after xs changes
items_after xs (Counted ∷ changes) = items_after xs changes
items_after xs (Taken ∷ changes) = items_after [] changes

-- the list that these turns make
abbrev pub items_of : List Change → List ℕ
items_of changes = items_after [] changes

-- the seat has seen this history, and then takes its own turn
abbrev pub Sees : List (ℕ × Change) → Change → SeatModel Numbers Change → Type 0
Sees history change seat = seat.seen ≡ history ++ (seat.number, change) ∷ []

-- the seat counts the list of all turns that it has seen then, before its own
pub record Counts (count : ℕ) (old new : SeatModel Numbers Change) : Type 0 where
  pub between : List (ℕ × Change)
  pub seen : Sees (old.seen ++ between) Counted new
  pub is : count ≡ length (items_of (turns (old.seen ++ between)))

-- the seat takes out the list of all turns that it has seen then, before its own
pub record TakesOut (list : List ℕ) (old new : SeatModel Numbers Change) : Type 0 where
  pub between : List (ℕ × Change)
  pub seen : Sees (old.seen ++ between) Taken new
  pub is : list ≡ items_of (turns (old.seen ++ between))

-- The seat has seen a history and then takes out the list of its turns. In that history three other seats, which differ, have appended these
-- numbers each, all of them once and in their order, and have done nothing else; and the seat's own turns are all that it has seen with its number.
pub record IsMadeByThree (list : List ℕ) (seat : SeatModel Numbers Change) (one two three : List ℕ) : Type 0 where
  pub history : List (ℕ × Change)
  pub seen : Sees history Taken seat
  pub makes : list ≡ items_of (turns history)
  pub first : ℕ
  pub second : ℕ
  pub third : ℕ
  pub seats : AllPairs (λ m n. m ≢ n) (seat.number ∷ first ∷ second ∷ third ∷ [])
  pub by_first : turns_of first history ≡ map Added one
  pub by_second : turns_of second history ≡ map Added two
  pub by_third : turns_of third history ≡ map Added three
  pub own : turns_of seat.number seat.seen ≡ seat.mine
