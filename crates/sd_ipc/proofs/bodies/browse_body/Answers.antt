use Rattle.sd_ipc.proofs.Chains.{first}
use Rattle.sd_ipc.proofs.RequestsAgain.{browse_body}
use Rattle.sd_ipc.proofs.bodies.browse_body.Goals as goal

pub returns : goal.returns
returns c = browse_body _ _ (first _ _ _ c.new-out.ensures.items c.in_ok-put_text.ensures.bytes) c.in_ok-put_text.ensures.again
