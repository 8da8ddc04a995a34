use Rattle.std.proofs.Common.{length}
use Rattle.sd_ipc.proofs.Names.{IsReadTo}
use Rattle.sd_ipc.proofs.parts.name_part.Given as goal

abbrev pub invariant-loop-size : goal.invariant-loop-size
invariant-loop-size l = IsReadTo l.bytes l.rest l.name

abbrev pub decreases-loop-size : goal.decreases-loop-size
decreases-loop-size l = length l.rest
