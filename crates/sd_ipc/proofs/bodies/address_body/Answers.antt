use Rattle.sd_ipc.proofs.Chains.{first, next}
use Rattle.sd_ipc.proofs.RequestsAgain.{address_body}
use Rattle.sd_ipc.proofs.bodies.address_body.Goals as goal

pub returns : goal.returns
returns c = address_body _ _ _ (next _ _ _ _ (first _ _ _ c.new-out.ensures.items c.in_ok-push.ensures.items) c.in_ok-put_name.ensures.bytes) c.in_ok-put_name.ensures.again
