use Rattle.std.proofs.Common.{◌≤◌, length, drop}
use Rattle.dns_message.specs.Writing.{written_record}
use Rattle.dns_message.proofs.Parts.{ArePartWritten}
use Rattle.dns_message.proofs.writing.put_records.Given as goal

abbrev pub invariant-loop-rr : goal.invariant-loop-rr
invariant-loop-rr l = record {
  part : ArePartWritten written_record l.fn.names l.fn.out.items l.rrs l.names l.out.items (drop l.rr-index l.rrs);
  within : length l.out.items ≤ l.limit;
}
