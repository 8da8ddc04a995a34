-- A text has at least as many bytes as rows, so a short one has few.
use Rattle.std.proofs.Common.{ℕ, ◌+◌, ◌<◌, ◌≤◌, ◌^◌, List, [], ◌∷◌, length, ap, arith, length-append}
use Rattle.mdns_transcript.specs.declared.row.Row.{Row}
use Rattle.mdns_transcript.specs.Rows.{row_text, rows_text, IsPrintOf}

row_has_text : (row : Row) → 1 ≤ length (row_text row)
row_has_text row = omega arith

rows_have_text : (rows : List Row) → length rows ≤ length (rows_text rows)
rows_have_text [] = omega arith
rows_have_text (row ∷ rows) = omega (arith, row_has_text row, rows_have_text rows, length-append (row_text row) (rows_text rows))

pub few_rows : (rows : List Row) (text : List ℕ) → IsPrintOf rows text → length text ≤ 1048576 → length rows + 1 < 2 ^ 30
few_rows rows text print short = omega (arith, ap length print.printed, rows_have_text rows)
