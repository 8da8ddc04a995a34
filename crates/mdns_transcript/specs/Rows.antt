-- Transcripts: the rows of up to sixteen daemons, and the text that they are printed as.
use Rattle.std.specs.Prelude.{◌≡◌, ℕ, ◌&&◌, Bool, true, List}
use Rattle.std.specs.List.{list_all, flat_map}
use Rattle.mdns_history.specs.declared.entry.Sent.{Sent}
use Rattle.mdns_history.specs.EntryText.{entry_text}
use Rattle.mdns_history.specs.Typed.{has_written_header, is_typed_entry}
use Rattle.mdns_script.specs.Writable.{is_daemon}
use Rattle.mdns_lines.specs.Printable.{event_has_text}
use Rattle.mdns_transcript.specs.declared.row.Row.{Row}

-- the text of a row
abbrev pub row_text : Row → List ℕ
row_text row = entry_text row.daemon row.entry

-- the text of rows, one behind the other
abbrev pub rows_text : List Row → List ℕ
rows_text rows = flat_map row_text rows

-- whether a message that was sent has the header of a written message: what the print doesn't show is then known
abbrev pub is_written : Sent → Bool
is_written sent = has_written_header sent.message

-- Whether a row is of one of the daemons 1 to 16, all that it has is as the types of the code allow, the texts of a request are UTF-8, and each
-- message that it sends has the header of a written one.
abbrev pub is_row : Row → Bool
is_row row = is_daemon row.daemon && is_typed_entry row.entry && event_has_text row.entry.event && list_all is_written row.entry.sent

-- Rows are those of a transcript, and the text is their print.
pub record IsPrintOf (rows : List Row) (text : List ℕ) : Type 0 where
  pub printed : rows_text rows ≡ text
  pub are_rows : list_all is_row rows ≡ true

-- A text is the print of at most one list of rows.
abbrev pub IsPrintOfOne : Type 0
IsPrintOfOne = (text : List ℕ) (left right : List Row) → IsPrintOf left text → IsPrintOf right text → left ≡ right
