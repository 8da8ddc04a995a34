-- What running one line of a script says, told of a hub that stands for what was played before it.
use Rattle.std.specs.Prelude.{◌⊎◌, ◌≡◌, ℕ, ◌<◌, ◌++◌, List, ◌∷◌, length, take, Option, Result, Err}
use Rattle.std.specs.Io.KnownBytes.{Appends}
use Rattle.mdns_hub.specs.declared.hub.Hub.{Hub}
use Rattle.mdns_hub.specs.Played.{Played, transcript}
use Rattle.mdns_hub.specs.Hubs.{StandsFor, Advances}
use Rattle.mdns_script.specs.Lines.{line_of}
use Rattle.mdns_play.specs.declared.stop.Stop.{Stop}
use Rattle.mdns_play.specs.declared.stop.Stop.TheVariants.{WriteFault, NoMemory}
use Rattle.mdns_play.specs.Scripts.{PlaysLine, note_text, lines_of}
use Rattle.mdns_play.specs.Statuses.{IsBadLine, MayPrint}

-- a run was broken off: the sink failed, or memory was refused
abbrev pub IsFault : {T : Type 0} → Result T Stop → Type 0
IsFault result = (result ≡ Err WriteFault) ⊎ (result ≡ Err NoMemory)

-- the line was played, and its entries were put
abbrev pub RanLine : Hub → List ℕ → Hub → Option (List ℕ) → Option (List ℕ) → Type 0
RanLine before line after old new = Advances (PlaysLine (line_of line)) before after old new

-- the line is bad and stopped the script, and a line that names it was put
abbrev pub StopsAt : Hub → List ℕ → ℕ → Option (List ℕ) → Option (List ℕ) → Type 0
StopsAt hub line number old new =
    (played : Played) → StandsFor hub played → IsBadLine played line × Appends old new (note_text number)

-- the line was broken off, and a beginning of what it may add to the transcript was put
abbrev pub BreaksAt : Hub → List ℕ → ℕ → Option (List ℕ) → Option (List ℕ) → Type 0
BreaksAt hub line number old new =
    (played : Played) → StandsFor hub played → (whole : List ℕ) × MayPrint played line number whole
    × ((text : List ℕ) × (whole ≡ transcript played ++ text) × ((n : ℕ) × Appends old new (take n text)))

-- the first line of a text was taken, and what is left is shorter
pub record TakesLine (old : List ℕ) (line new : List ℕ) : Type 0 where
  pub lines : lines_of old ≡ line ∷ lines_of new
  pub shorter : length new < length old
