-- Which texts are no transcript's, and where that is seen: the lines with which a text begins, and with which prints of rows begin.
use Rattle.std.specs.Prelude.{◌≡◌, ℕ, zero, suc, ◌-◌, ◌<◌, true, List, [], ◌∷◌, Option, Some, Result, Ok, Err}
use Rattle.std.specs.List.{list_all}
use Rattle.number_text.specs.Cut.{cut_of}
use Rattle.number_text.specs.Digits.{◌>>=◌}
use Rattle.mdns_transcript.specs.declared.read.TranscriptError.{TranscriptError}
use Rattle.mdns_transcript.specs.declared.read.TranscriptError.TheVariants.{BadText, NoMemory}
use Rattle.mdns_transcript.specs.declared.row.Row.{Row}
use Rattle.mdns_transcript.specs.Rows.{rows_text, is_row, IsPrintOf}

-- the first lines of a text, so many, without their line feeds; none where it has fewer with line feeds
unfoldable pub first_lines : ℕ → List ℕ → Option (List (List ℕ))
first_lines zero text = Some []
first_lines (suc count) text = do
  line ← cut_of 10 text
  rest ← first_lines count line.1
  Some (line.0 ∷ rest)

-- A text has so many lines, and the print of some rows begins with the same ones.
pub record BeginsPrint (text : List ℕ) (count : ℕ) : Type 0 where
  pub rows : List Row
  pub are_rows : list_all is_row rows ≡ true
  pub lines : List (List ℕ)
  pub of_text : first_lines count text ≡ Some lines
  pub of_print : first_lines count (rows_text rows) ≡ Some lines

-- A text is the print of no rows, and the line is one more than the greatest number of its first lines with which the print of some rows begins.
pub record IsBadAt (text : List ℕ) (line : ℕ) : Type 0 where
  pub none : (rows : List Row) → IsPrintOf rows text → ⊥
  pub begins : BeginsPrint text (line - 1)
  pub most : (count : ℕ) → BeginsPrint text count → count < line

-- what is said of the line of a bad text
abbrev pub IfBadText : {A : Type 0} → Result A TranscriptError → (ℕ → Type 0) → Type 0
IfBadText (Ok rows) P = Unit {0}
IfBadText (Err (BadText line)) P = P line
IfBadText (Err NoMemory) P = Unit {0}
