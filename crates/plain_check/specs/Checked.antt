-- Which transcripts are legal, and which row is the first that isn't.
use Rattle.std.specs.Prelude.{ℕ, ◌-◌, ◌≤◌, ◌==◌, List, filter, map, reverse, take, length, Option, Some, None}
use Rattle.mdns_history.specs.declared.entry.Entry.{Entry}
use Rattle.mdns_history.specs.InForce.{all_duties}
use Rattle.mdns_transcript.specs.declared.row.Row.{Row}
use Rattle.plain_legal.specs.Laws.{IsLegalOrNone}

-- the history of a daemon: the entries of its rows, the newest first
abbrev pub history_of : ℕ → List Row → List Entry
history_of daemon rows = reverse (map (λ row. row.entry) (filter (λ row. row.daemon == daemon) rows))

-- Every daemon's history is legal, where it has entries.
abbrev pub AreLegalRows : List Row → Type 0
AreLegalRows rows = (daemon : ℕ) → IsLegalOrNone all_duties (history_of daemon rows)

-- A row, counted from 1, is the first with which its daemon's history isn't legal: the histories in the rows before it are legal, and with it they aren't.
pub record IsFirstIllegal (rows : List Row) (number : ℕ) : Type 0 where
  pub counted : 1 ≤ number
  pub within : number ≤ length rows
  pub before : AreLegalRows (take (number - 1) rows)
  pub illegal : AreLegalRows (take number rows) → ⊥

-- No row is illegal, or this is the first that is.
abbrev pub IsChecked : List Row → Option ℕ → Type 0
IsChecked rows None = AreLegalRows rows
IsChecked rows (Some number) = IsFirstIllegal rows number

-- The histories in the first rows of a legal transcript are legal.
abbrev pub BeginLegally : Type 0
BeginLegally = (rows : List Row) (count : ℕ) → AreLegalRows rows → AreLegalRows (take count rows)
