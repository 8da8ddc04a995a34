-- The rule of the table, which holds between any two steps: a ticket lock round one value, and one history of which every seat has seen a beginning.
-- Word 0 is the next ticket, word 1 the ticket that is served, word 2 the next number of a seat. The one slot is the home of the value.
use Rattle.std.specs.Prelude.{◌≡◌, ◌≢◌, ℕ, ◌^◌, ◌<◌, ◌≤◌, true, List, [], ◌∷◌, map, length, Option, Some, ◌⊎◌, All, AllPairs}
use mathlib.Core.Option.{none, some}
use lib.ListN.{get_elem?}
use Rattle.atomic_table.specs.Table.{State}
use Rattle.mdns_turn.specs.History.{StartsWith, turns_of, StandsAfter}
use Rattle.mdns_turn.specs.declared.view.View.{View}
use Rattle.mdns_turn.specs.declared.view.Stage.{Stage}
use Rattle.mdns_turn.specs.declared.view.Stage.TheVariants.{Idle, Waiting, Inside}

-- The words behind them stay 0: threads sleep on them.
abbrev pub beds : List ℕ
beds = 0 ∷ 0 ∷ 0 ∷ 0 ∷ 0 ∷ 0 ∷ 0 ∷ 0 ∷ 0 ∷ 0 ∷ 0 ∷ 0 ∷ 0 ∷ 0 ∷ 0 ∷ 0 ∷ 0 ∷ 0 ∷ 0 ∷ 0 ∷ 0 ∷ 0 ∷ 0 ∷ 0 ∷ 0 ∷ 0 ∷ 0 ∷ 0 ∷ 0 ∷ 0 ∷ 0 ∷ 0 ∷ []

-- all that there is, of which each seat knows a part
pub record Account (E : Type 0) : Type 0 where
  -- the next ticket, the ticket that is served, and the next number of a seat
  pub ticket : ℕ
  pub serving : ℕ
  pub numbers : ℕ
  pub history : List (ℕ × E)
  -- The seat that drew a ticket, and the seat that speaks for a number: its own, or that of a seat which was joined into it.
  -- So no two seats have one ticket, and no two speak for one number
  pub owner : ℕ → ℕ
  pub speaker : ℕ → ℕ

module _ {E : Type 0} (all : Account E) (seat : ℕ) where
  -- the ticket of a seat that waits is its own, and its turn hasn't gone by. The seat inside is the one that is served, and has seen the whole history
  abbrev pub IsAtStage : Stage → List (ℕ × E) → Type 0
  IsAtStage Idle seen = Unit {0}
  IsAtStage (Waiting t) seen = (all.serving ≤ t) × (t < all.ticket) × (all.owner t ≡ seat)
  IsAtStage (Inside t) seen = (t ≡ all.serving) × (t < all.ticket) × (all.owner t ≡ seat) × (seen ≡ all.history)

  -- The seat speaks for this member, a number with its turns. These are all that the history has with the number,
  -- and they are in what the seat has seen, or in what it was just told
  pub record IsMember (seen told : List (ℕ × E)) (member : ℕ × List E) : Type 0 where
    pub drawn : member.0 < all.numbers
    pub spoken : all.speaker member.0 ≡ seat
    pub turns : turns_of member.0 all.history ≡ member.1
    pub known : (turns_of member.0 seen ≡ member.1) ⊎ (turns_of member.0 told ≡ member.1)

-- the members that a seat speaks for: itself, and those that were joined into it
abbrev pub members : {T E : Type 0} → View T E → List (ℕ × List E)
members v = (v.number, v.mine) ∷ v.joined

-- what the seat knows is true of all that there is
pub record IsTrueView {T E : Type 0} (opening : T) (all : Account E) (seat : ℕ) (v : View T E) : Type 0 where
  pub opens : (x : T) → v.opening ≡ Some x → x ≡ opening
  pub sees : StartsWith all.history v.seen
  pub hears : StartsWith all.history v.told
  pub drawn : v.number < all.numbers
  pub speaks : v.named ≡ true → All (IsMember all seat v.seen v.told) (members v)
  pub apart : AllPairs (λ m n. m ≢ n) (map (λ member. member.0) (members v))
  pub stage : IsAtStage all seat v.stage v.seen

module _ {T E : Type 0} where
  -- the value is at home, and stands for the history
  abbrev pub IsHome : (List E → T → Type 0) → T → List (ℕ × E) → List (mathlib.Core.Option.Option (Option T)) → Type 0
  IsHome stands opening history homes = (value : T) × (homes ≡ some (Some value) ∷ []) × StandsAfter stands opening history value

  -- the value is out with a seat
  abbrev pub IsOut : List (View T E) → List (mathlib.Core.Option.Option (Option T)) → Type 0
  IsOut views homes = (seat : ℕ) × (v : View T E) × (t : ℕ) × (homes ≡ none ∷ []) × (get_elem? views seat ≡ some v) × (v.stage ≡ Inside t)

  -- the rule for a turn that was made with this opening value
  pub record IsOneHistory (stands : List E → T → Type 0) (opening : T) (s : State (Option T) (View T E)) : Type 0 where
    pub all : Account E
    pub words : s.words ≡ all.ticket ∷ all.serving ∷ all.numbers ∷ beds
    pub fits : all.ticket < 2 ^ 64
    pub behind : all.serving ≤ all.ticket
    -- the first seat has drawn its number
    pub first : 0 < all.numbers
    -- as many turns as tickets that were served
    pub count : length all.history ≡ all.serving
    -- a number that was not drawn has no turn
    pub undrawn : (n : ℕ) → all.numbers ≤ n → turns_of n all.history ≡ []
    pub views : (seat : ℕ) (v : View T E) → get_elem? s.views seat ≡ some v → IsTrueView opening all seat v
    pub slot : IsHome stands opening all.history s.homes ⊎ IsOut s.views s.homes
