use Rattle.sd_ipc.proofs.Chains.{first}
use Rattle.sd_ipc.proofs.RequestsAgain.{update_body}
use Rattle.sd_ipc.proofs.bodies.update_body.Goals as goal

pub returns : goal.returns
returns c = update_body _ _ (first _ _ _ c.new-out.ensures.items c.in_ok-put_txt.ensures.bytes) c.in_ok-put_txt.ensures.again
