use Rattle.sd_ipc.proofs.Chains.{first, next}
use Rattle.sd_ipc.proofs.RequestsAgain.{query_body}
use Rattle.sd_ipc.proofs.bodies.query_body.Goals as goal

pub returns : goal.returns
returns c = query_body _ _ _ (next _ _ _ _ (first _ _ _ c.new-out.ensures.items c.in_ok-put_u16.ensures.bytes) c.in_ok-put_name.ensures.bytes) c.in_ok-put_u16.ensures.again c.in_ok-put_name.ensures.again
