use Rattle.std.proofs.Common.{arith}
use Rattle.std.proofs.lemmas.Grind.{common_steps}
use Rattle.sd_ipc.proofs.Sources.{takes_more}
use Rattle.sd_ipc.proofs.source.take_up_to.Goals as goal

pub returns-in_err-extend_from_slice-clause-within : goal.returns-in_err-extend_from_slice-clause-within
returns-in_err-extend_from_slice-clause-within g c =
    takes_more _ _ _ _ _ _ _ c.pieces.invariant.all c.in_ok-count.ensures.bytes.0 (grind (arith, common_steps, c.in_ok-count.ensures.bound))
