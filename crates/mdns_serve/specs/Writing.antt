-- What the writing half of a session does.
use Rattle.std.specs.Prelude.{◌≡◌, ◌↔◌, ℕ, Bool, true, false, List, [], ◌∷◌, ◌++◌, take, Option, Some, None}
use Rattle.std.specs.List.{flat_map}
use Rattle.std.specs.Io.KnownBytes.{Appends}
use Rattle.mdns_history.specs.declared.event.Event.TheVariants as event
use Rattle.mdns_history.specs.declared.entry.Outcome.{Outcome}
use Rattle.mdns_history.specs.declared.entry.Outcome.TheVariants as outcome
use Rattle.sd_ipc.specs.Frames.{item_frame}
use Rattle.mdns_outside.specs.Parts.{Handed}
use Rattle.mdns_serve.specs.declared.happening.Happening.{Happening}
use Rattle.mdns_serve.specs.declared.happening.Happening.TheVariants.{Entered, Missed}
use Rattle.mdns_serve.specs.declared.writing.WriteEnd.{WriteEnd}
use Rattle.mdns_serve.specs.declared.writing.WriteEnd.TheVariants.{Closed, Cut, WriteFault, NoMemory}
use Rattle.mdns_serve.specs.Packets.{packets_of, HandsSome}
use Rattle.mdns_serve.specs.Reading.{IsFor}

-- how many items are taken at most in one turn
abbrev pub most_at_once : ℕ
most_at_once = 64

-- the frames of the items that an outcome took
abbrev pub frames_taken : Outcome → List ℕ
frames_taken (outcome.Items items) = flat_map item_frame items
frames_taken _ = []

-- the frames of the items that a turn took
abbrev pub frames_in : Happening → List ℕ
frames_in (Entered entry) = frames_taken entry.outcome
frames_in (Missed detaching) = []

-- the frames of the items that turns took, in their order
abbrev pub frames_of : List Happening → List ℕ
frames_of [] = []
frames_of (turn ∷ turns) = frames_in turn ++ frames_of turns

-- each of the turns was to take items of the session
abbrev pub AreTakes : ℕ → List Happening → Type 0
AreTakes session [] = Unit {0}
AreTakes session (turn ∷ turns) = IsFor (event.Take session most_at_once) turn × AreTakes session turns

-- that a take found the session closed or cut
abbrev pub shut_by : Outcome → Option WriteEnd
shut_by outcome.Closed = Some Closed
shut_by outcome.Cut = Some Cut
shut_by _ = None

-- the same of a turn
abbrev pub shut_in : Happening → Option WriteEnd
shut_in (Entered entry) = shut_by entry.outcome
shut_in (Missed detaching) = None

-- the same of the last of the turns
abbrev pub last_shut : List Happening → Option WriteEnd
last_shut [] = None
last_shut (turn ∷ []) = shut_in turn
last_shut (turn ∷ next ∷ turns) = last_shut (next ∷ turns)

-- whether an end is that the session was found closed or cut
abbrev pub is_shut_end : WriteEnd → Bool
is_shut_end Closed = true
is_shut_end Cut = true
is_shut_end WriteFault = false
is_shut_end NoMemory = false

-- whether all that was taken was put
abbrev pub is_whole : Option WriteEnd → Bool
is_whole None = true
is_whole (Some end) = is_shut_end end

-- a beginning of the frames was put, and all of them unless the sink failed or memory was refused
abbrev pub PutsFrames : Option (List ℕ) → Option (List ℕ) → List ℕ → Option WriteEnd → Type 0
PutsFrames old new frames result = ((n : ℕ) × Appends old new (take n frames)) × (is_whole result ≡ true → Appends old new frames)

-- that a result is an end by which the session was found shut, exactly where this is so
abbrev pub ShutsBy : Option WriteEnd → Option WriteEnd → Type 0
ShutsBy result shut = ((result ≡ Some Closed) ↔ (shut ≡ Some Closed)) × ((result ≡ Some Cut) ↔ (shut ≡ Some Cut))

-- Items of the session were taken, and their frames put.
pub record Takes (session : ℕ) (held_old held_new : Option (List ℕ)) (mine_old mine_new : List Happening) (air_old air_new : Option (List Handed)) (result : Option WriteEnd) : Type 0 where
  pub takes : List Happening
  pub are : AreTakes session takes
  pub mine : mine_new ≡ mine_old ++ takes
  pub put : PutsFrames held_old held_new (frames_of takes) result
  pub shut : ShutsBy result (last_shut takes)
  pub air : HandsSome air_old air_new (packets_of takes)

-- The whole of a writing half: takes, and the end of its session behind them.
pub record Writes (session : ℕ) (held_old held_new : Option (List ℕ)) (mine_old mine_new : List Happening) (air_old air_new : Option (List Handed)) (end : WriteEnd) : Type 0 where
  pub takes : List Happening
  pub detach : Happening
  pub are : AreTakes session takes
  pub is_detach : IsFor (event.Detach session) detach
  pub mine : mine_new ≡ (mine_old ++ takes) ++ detach ∷ []
  pub put : PutsFrames held_old held_new (frames_of takes) (Some end)
  pub shut : ShutsBy (Some end) (last_shut takes)
  pub air : HandsSome air_old air_new (packets_of takes ++ packets_of (detach ∷ []))
