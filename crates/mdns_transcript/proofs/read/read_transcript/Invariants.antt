use Rattle.std.proofs.Common.{◌≡◌, ◌+◌, ◌≤◌, true, length}
use Rattle.dns_message.specs.Writing.{are_bytes}
use Rattle.mdns_transcript.specs.Drafts.{lines_read, stage_of, IsReading}
use Rattle.mdns_transcript.proofs.Bad.{IsReadTo}
use Rattle.mdns_transcript.proofs.read.read_transcript.Given as goal

-- a line is at least one byte
abbrev pub invariant-lines : goal.invariant-lines
invariant-lines l = record {
  read : IsReadTo l.fn.text (lines_read l.reading) (stage_of l.reading.draft) l.rest;
  reading : IsReading l.reading;
  bytes : are_bytes l.rest ≡ true;
  counted : l.line ≡ length (lines_read l.reading);
  short : l.line + length l.rest ≤ length l.fn.text;
}

abbrev pub decreases-lines : goal.decreases-lines
decreases-lines l = length l.rest
