use Rattle.std.proofs.Common.{◌≡◌, ◌++◌, take}
use Rattle.mdns_transcript.specs.Rows.{rows_text}
use Rattle.mdns_transcript.proofs.print.put_rows.Given as goal

abbrev pub invariant-loop-row : goal.invariant-loop-row
invariant-loop-row l = l.out.items ≡ l.fn.out.items ++ rows_text (take l.row-index l.rows)
