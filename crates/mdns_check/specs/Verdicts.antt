-- What is said of a text, and the line that says it.
use Rattle.std.specs.Prelude.{◌≡◌, ℕ, List, [], ◌∷◌, ◌++◌, length, decimal, codes}
use Rattle.mdns_transcript.specs.declared.row.Row.{Row}
use Rattle.mdns_transcript.specs.Rows.{IsPrintOf}
use Rattle.mdns_transcript.specs.Leading.{IsBadAt}
use Rattle.plain_check.specs.Checked.{AreLegalRows, IsFirstIllegal}
use Rattle.mdns_check.specs.declared.verdict.Verdict.{Verdict}
use Rattle.mdns_check.specs.declared.verdict.Verdict.TheVariants.{Legal, Illegal, BadLine}

-- The text is the print of so many rows, and every daemon's history in them is legal.
pub record IsLegalText (text : List ℕ) (count : ℕ) : Type 0 where
  pub rows : List Row
  pub print : IsPrintOf rows text
  pub legal : AreLegalRows rows
  pub counted : count ≡ length rows

-- The text is the print of rows, and this one, counted from 1, is the first with which its daemon's history isn't legal.
pub record IsIllegalText (text : List ℕ) (row : ℕ) : Type 0 where
  pub rows : List Row
  pub print : IsPrintOf rows text
  pub first : IsFirstIllegal rows row

-- what is right to say of a text
abbrev pub IsVerdict : List ℕ → Verdict → Type 0
IsVerdict text (Legal rows) = IsLegalText text rows
IsVerdict text (Illegal row) = IsIllegalText text row
IsVerdict text (BadLine line) = IsBadAt text line

-- the status of the program
abbrev pub status_of : Verdict → ℕ
status_of (Legal rows) = 0
status_of (Illegal row) = 1
status_of (BadLine line) = 3

-- a word and a number on a line
abbrev pub numbered : List ℕ → ℕ → List ℕ
numbered word number = word ++ decimal number ++ 10 ∷ []

-- the line that is printed
abbrev pub line_of : Verdict → List ℕ
line_of (Legal rows) = numbered (codes "legal ") rows
line_of (Illegal row) = numbered (codes "illegal ") row
line_of (BadLine line) = numbered (codes "bad line ") line
