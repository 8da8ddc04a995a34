use Rattle.std.proofs.Common.{length}
use Rattle.dns_record.proofs.RawForms.{ReadSoFar}
use Rattle.dns_record.proofs.forms.after_name.Given as goal

abbrev pub invariant-loop-size : goal.invariant-loop-size
invariant-loop-size l = ReadSoFar l.bytes l.rest

abbrev pub decreases-loop-size : goal.decreases-loop-size
decreases-loop-size l = length l.rest
