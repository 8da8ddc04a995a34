-- Scripts: their lines, and what it is for entries to play them.
use Rattle.std.specs.Prelude.{◌≡◌, ℕ, ◌==◌, ◌-◌, if◌then◌else◌, List, [], ◌∷◌, ◌++◌, length, take, slice_index, decimal, codes}
use Rattle.std.specs.List.{slice_split}
use Rattle.mdns_script.specs.declared.command.Line.{Line}
use Rattle.mdns_script.specs.declared.command.Line.TheVariants.{Bad, Command as CommandLine}
use Rattle.mdns_script.specs.Lines.{line_of}
use Rattle.mdns_hub.specs.Played.{Played}
use Rattle.mdns_hub.specs.Plays.{Plays}

-- one carriage return at the end of a line is dropped
abbrev pub without_return : List ℕ → List ℕ
without_return line = if slice_index line (length line - 1) == 13 then take (length line - 1) line else line

-- what stands behind the last line feed is a line where it isn't empty
abbrev pub last_line : List ℕ → List (List ℕ)
last_line [] = []
last_line (first ∷ rest) = (first ∷ rest) ∷ []

-- parts between line feeds as lines
abbrev pub lines_from : List (List ℕ) → List (List ℕ)
lines_from [] = []
lines_from (part ∷ []) = last_line part
lines_from (part ∷ next ∷ parts) = without_return part ∷ lines_from (next ∷ parts)

-- The lines of a script. The last may lack its line feed.
unfoldable pub lines_of : List ℕ → List (List ℕ)
lines_of script = lines_from (slice_split (λ b. b == 10) script)

-- a line is played: it has a command, and that is played
abbrev pub PlaysLine : Line → Played → Played → Type 0
PlaysLine Bad before after = ⊥
PlaysLine (CommandLine command) before after = Plays command before after

-- Lines are played one after another.
abbrev pub PlaysAll : Played → List (List ℕ) → Played → Type 0
PlaysAll before [] after = after ≡ before
PlaysAll before (line ∷ lines) after = (between : Played) × PlaysLine (line_of line) before between × PlaysAll between lines after

-- a line that says which line stopped the script
abbrev pub note_text : ℕ → List ℕ
note_text line = codes "bad line " ++ decimal line ++ 10 ∷ []
