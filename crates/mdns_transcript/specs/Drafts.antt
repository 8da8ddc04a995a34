-- What was read of an entry, and of rows: for the contracts of private functions, and for their proofs.
use Rattle.std.specs.Prelude.{◌≡◌, ℕ, ◌+◌, ◌==◌, ◌&&◌, Bool, true, false, List, [], ◌∷◌, ◌++◌, map, length, Option, Some, None, if◌then◌else◌}
use Rattle.std.specs.List.{list_all, flat_map}
use Rattle.dns_message.specs.declared.message.Message.{Message}
use Rattle.mdns_history.specs.declared.entry.Sent.{Sent}
use Rattle.mdns_history.specs.declared.entry.Given.{Given}
use Rattle.mdns_history.specs.declared.entry.Outcome.{Outcome}
use Rattle.mdns_print.specs.declared.line.Line.{Line}
use Rattle.mdns_print.specs.declared.line.Line.TheVariants as lines
use Rattle.mdns_transcript.specs.declared.row.Row.{Row}
use Rattle.mdns_transcript.specs.declared.draft.End.{End}
use Rattle.mdns_transcript.specs.declared.draft.End.TheVariants as ends
use Rattle.mdns_transcript.specs.declared.draft.Draft.{Draft}
use Rattle.mdns_transcript.specs.declared.reading.Reading.{Reading}
use Rattle.mdns_transcript.specs.Rows.{is_written}
use Rattle.mdns_transcript.specs.RowLines.{sent_lines, outcome_lines, row_lines, rows_lines}
use Rattle.mdns_transcript.specs.Stages.{Stage, Before, Upto, Left, next, is_whole}

-- how far a message came
abbrev pub reach : Message → ℕ
reach m = if length m.additional == 0 then (if length m.authority == 0 then (if length m.answers == 0 then 1 else 2) else 3) else 4

-- how far an entry came before its outcome
abbrev pub place_of : Option Sent → List Given → ℕ
place_of message (given ∷ more) = 5
place_of None [] = 0
place_of (Some sent) [] = reach sent.message

abbrev pub stage_at : End → ℕ → Stage
stage_at ends.Open place = Upto place
stage_at (ends.Told outcome) place = Left 0
stage_at (ends.Items items left) place = Left left

-- how far an entry came
abbrev pub draft_stage : Draft → Stage
draft_stage draft = stage_at draft.end (place_of draft.message draft.given)

-- whether no outcome is told
abbrev pub end_open : End → Bool
end_open ends.Open = true
end_open (ends.Told outcome) = false
end_open (ends.Items items left) = false

abbrev pub is_open : Draft → Bool
is_open draft = end_open draft.end

-- whether nothing is given either
abbrev pub is_sending : Draft → Bool
is_sending draft = end_open draft.end && (length draft.given == 0)

-- whether there is no message
abbrev pub no_message : Option Sent → Bool
no_message None = true
no_message (Some sent) = false

-- whether no message was sent either
abbrev pub is_marking : Draft → Bool
is_marking draft = is_sending draft && no_message draft.message

-- messages, with the one under way
abbrev pub all_sent : List Sent → Option Sent → List Sent
all_sent sent None = sent
all_sent sent (Some message) = sent ++ message ∷ []

-- the lines of an outcome that were read
abbrev pub end_lines : End → List Line
end_lines ends.Open = []
end_lines (ends.Told outcome) = outcome_lines outcome
end_lines (ends.Items items left) = lines.Count (length items + left) ∷ map (λ item. lines.Item item) items

-- the lines of an entry that were read
abbrev pub draft_lines : Draft → List Line
draft_lines draft =
    (lines.Head draft.daemon draft.moment draft.word draft.event ∷ []) ++ map (λ mark. lines.Mark mark) draft.marks ++ flat_map sent_lines (all_sent draft.sent draft.message)
    ++ map (λ given. lines.Given given) draft.given ++ end_lines draft.end

-- No message stands before the first, and each has the header of a written one.
pub record IsDraft (draft : Draft) : Type 0 where
  pub first : draft.message ≡ None → draft.sent ≡ []
  pub written : list_all is_written (all_sent draft.sent draft.message) ≡ true

-- A line was put at the end of an entry, which came further by it.
pub record IsGrown (draft : Draft) (line : Line) (grown : Draft) : Type 0 where
  pub stage : next line (draft_stage draft) ≡ Some (draft_stage grown)
  pub put : draft_lines grown ≡ draft_lines draft ++ line ∷ []
  pub is : IsDraft grown

-- A line was put where it may follow, and only there.
abbrev pub IsAdded : Draft → Line → Bool → Draft → Type 0
IsAdded draft line true grown = IsGrown draft line grown
IsAdded draft line false grown = next line (draft_stage draft) ≡ None

-- The outcome, where no item is left.
abbrev pub IsOutcome : End → Option Outcome → Type 0
IsOutcome end None = (place : ℕ) → is_whole (stage_at end place) ≡ false
IsOutcome end (Some outcome) = ((place : ℕ) → is_whole (stage_at end place) ≡ true) × (outcome_lines outcome ≡ end_lines end)

-- whether a line begins an entry
abbrev pub is_head : Line → Bool
is_head (lines.Head daemon moment word event) = true
is_head _ = false

-- An entry that wants no line is a row, of which these are the lines.
abbrev pub IsFinished : Draft → Option Row → Type 0
IsFinished draft None = is_whole (draft_stage draft) ≡ false
IsFinished draft (Some row) = (is_whole (draft_stage draft) ≡ true) × (row_lines row ≡ draft_lines draft) × (list_all is_written row.entry.sent ≡ true)

-- the same of an entry, if one is under way
abbrev pub stage_of : Option Draft → Stage
stage_of None = Before
stage_of (Some draft) = draft_stage draft

abbrev pub lines_of : Option Draft → List Line
lines_of None = []
lines_of (Some draft) = draft_lines draft

abbrev pub IsDraftOrNone : Option Draft → Type 0
IsDraftOrNone None = Unit {0}
IsDraftOrNone (Some draft) = IsDraft draft

-- the lines that were read
abbrev pub lines_read : Reading → List Line
lines_read reading = rows_lines reading.rows ++ lines_of reading.draft

-- whether each message that a row sends has the header of a written one
abbrev pub sends_written : Row → Bool
sends_written row = list_all is_written row.entry.sent

-- Each message that was read has the header of a written one.
pub record IsReading (reading : Reading) : Type 0 where
  pub rows : list_all sends_written reading.rows ≡ true
  pub draft : IsDraftOrNone reading.draft

-- The entry under way was put behind the rows, where no line of it is wanting.
pub record IsClosed (reading : Reading) (closed : Reading) : Type 0 where
  pub whole : is_whole (stage_of reading.draft) ≡ true
  pub same : lines_read closed ≡ lines_read reading
  pub none : closed.draft ≡ None
  pub is : IsReading closed

abbrev pub IsClosedOr : Reading → Bool → Reading → Type 0
IsClosedOr reading true closed = IsClosed reading closed
IsClosedOr reading false closed = is_whole (stage_of reading.draft) ≡ false

-- A line was put behind those that were read.
pub record IsFurther (reading : Reading) (line : Line) (further : Reading) : Type 0 where
  pub stage : next line (stage_of reading.draft) ≡ Some (stage_of further.draft)
  pub put : lines_read further ≡ lines_read reading ++ line ∷ []
  pub is : IsReading further

-- The same where the line may follow, and only there.
abbrev pub IsPut : Reading → Line → Bool → Reading → Type 0
IsPut reading line true further = IsFurther reading line further
IsPut reading line false further = next line (stage_of reading.draft) ≡ None

-- The same of the line that a text is, if it is one's.
abbrev pub IsTaken : Reading → Option Line → Bool → Reading → Type 0
IsTaken reading None taken further = taken ≡ false
IsTaken reading (Some line) taken further = IsPut reading line taken further

-- The rows of all lines that were read, where none is wanting.
abbrev pub AreRowsOf : Reading → Option (List Row) → Type 0
AreRowsOf reading None = is_whole (stage_of reading.draft) ≡ false
AreRowsOf reading (Some rows) = (rows_lines rows ≡ lines_read reading) × (list_all sends_written rows ≡ true)
