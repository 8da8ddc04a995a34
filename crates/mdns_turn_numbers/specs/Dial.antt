-- A number that is set by turns. A turn is the number that it sets.
use Rattle.std.specs.Prelude.{◌≡◌, ℕ, List, [], ◌∷◌, ◌++◌}
use Rattle.mdns_turn.specs.History.{turns}
use Rattle.mdns_turn.specs.Models.{SeatModel}

-- the number is what the last of these turns set
abbrev pub IsLast : List ℕ → ℕ → Type 0
IsLast sets value = (front : List ℕ) × (sets ≡ front ++ value ∷ [])

-- the seat's turn set the number, which was before what the last turn of the history until then had set, or the opening value
pub record SetsLast (opening : ℕ) (old : SeatModel ℕ ℕ) (before to : ℕ) (new : SeatModel ℕ ℕ) : Type 0 where
  pub between : List (ℕ × ℕ)
  pub was : IsLast (opening ∷ turns (old.seen ++ between)) before
  pub seen : new.seen ≡ (old.seen ++ between) ++ (old.number, to) ∷ []
