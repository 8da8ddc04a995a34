-- What each status of a script says of its input and output.
use Rattle.std.specs.Prelude.{◌⊎◌, ◌≡◌, ℕ, ◌+◌, ◌++◌, true, List, [], ◌∷◌, length, take, Option}
use Rattle.std.specs.Io.KnownBytes.{Appends}
use Rattle.mdns_streams.specs.Reads as reads
use Rattle.mdns_script.specs.declared.command.Line.{Line}
use Rattle.mdns_script.specs.declared.command.Line.TheVariants.{Bad, Command as CommandLine}
use Rattle.mdns_script.specs.Lines.{line_of}
use Rattle.mdns_hub.specs.Played.{Played, start, history_of, transcript}
use Rattle.mdns_hub.specs.Plays.{is_bad}
use Rattle.mdns_hub.specs.Output.{PlaysPart}
use Rattle.mdns_play.specs.Histories.{AreServedThroughout, CallsSucceedThroughout, AreEarnedThroughout, HaveGroupsThroughout}
use Rattle.mdns_play.specs.Scripts.{lines_of, PlaysAll, note_text}

-- the most bytes that a script may have
abbrev pub most_bytes : ℕ
most_bytes = 67108864

-- The script was read to its end, where the source tells it, and it isn't too large.
abbrev pub ReadAll : Option (List ℕ) → Option (List ℕ) → (List ℕ → Type 0) → Type 0
ReadAll old new P = reads.ReadAll most_bytes old new P

-- More bytes were taken than a script may have.
abbrev pub IsTooLarge : Option (List ℕ) → Option (List ℕ) → Type 0
IsTooLarge old new = reads.IsTooLarge most_bytes old new

-- No more bytes were taken than a script may have.
abbrev pub IsWithin : Option (List ℕ) → Option (List ℕ) → Type 0
IsWithin old new = reads.IsWithin most_bytes old new

-- The whole script was played and the sink gained its transcript. Of each daemon, at each moment, the items replay to the answers, calls that are
-- as they should be succeed, what is asserted is earned, and live registrations have their groups.
pub record PlaysScript (script : List ℕ) (old new : Option (List ℕ)) : Type 0 where
  pub played : Played
  pub plays : PlaysAll start (lines_of script) played
  pub gains : Appends old new (transcript played)
  pub replays : (daemon : ℕ) → AreServedThroughout (history_of daemon played.told)
  pub calls : (daemon : ℕ) → CallsSucceedThroughout (history_of daemon played.told)
  pub asserts : (daemon : ℕ) → AreEarnedThroughout (history_of daemon played.told)
  pub groups : (daemon : ℕ) → HaveGroupsThroughout (history_of daemon played.told)

-- a line is none, or has a command that is bad at its place
abbrev pub IsBadAt : Played → Line → Type 0
IsBadAt played Bad = Unit {0}
IsBadAt played (CommandLine command) = is_bad played command ≡ true

-- a line that is bad
abbrev pub IsBadLine : Played → List ℕ → Type 0
IsBadLine played line = IsBadAt played (line_of line)

-- Where the script stopped: the lines before were played, this one is bad, and a line that names it was put.
pub record Stops (script : List ℕ) (old new : Option (List ℕ)) : Type 0 where
  pub done : List (List ℕ)
  pub line : List ℕ
  pub more : List (List ℕ)
  pub lines : lines_of script ≡ done ++ line ∷ more
  pub played : Played
  pub plays : PlaysAll start done played
  pub cause : IsBadLine played line
  pub gains : Appends old new (transcript played ++ note_text (length done + 1))

-- what a line that was broken off had played
abbrev pub PlaysPartOfLine : Line → Played → Played → Type 0
PlaysPartOfLine Bad before after = after ≡ before
PlaysPartOfLine (CommandLine command) before after = PlaysPart command before after

-- What may be printed once a line is begun: the entries of a part of it, or the line that says that it stopped the script.
abbrev pub MayPrint : Played → List ℕ → ℕ → List ℕ → Type 0
MayPrint played line number whole =
    ((reached : Played) × PlaysPartOfLine (line_of line) played reached × (whole ≡ transcript reached))
    ⊎ (IsBadLine played line × (whole ≡ transcript played ++ note_text number))

-- the same of the first of the lines that are left
abbrev pub FirstMayPrint : Played → List (List ℕ) → ℕ → List ℕ → Type 0
FirstMayPrint played [] number whole = whole ≡ transcript played
FirstMayPrint played (line ∷ lines) number whole = MayPrint played line number whole

-- What may be printed of a script: the entries of lines that were played, and what the next line may print.
pub record IsPrintable (script : List ℕ) (whole : List ℕ) : Type 0 where
  pub done : List (List ℕ)
  pub more : List (List ℕ)
  pub lines : lines_of script ≡ done ++ more
  pub played : Played
  pub plays : PlaysAll start done played
  pub text : FirstMayPrint played more (length done + 1) whole

-- The output is a beginning of that.
pub record BreaksOff (script : List ℕ) (old new : Option (List ℕ)) : Type 0 where
  pub whole : List ℕ
  pub printable : IsPrintable script whole
  pub front : (n : ℕ) × Appends old new (take n whole)

-- the statuses of a script
abbrev pub IsScriptStatus : ℕ → Type 0
IsScriptStatus status = (status ≡ 0) ⊎ (status ≡ 3) ⊎ (status ≡ 4) ⊎ (status ≡ 5) ⊎ (status ≡ 6) ⊎ (status ≡ 8)
