use Rattle.sd_ipc.proofs.Chains.{first, next}
use Rattle.sd_ipc.proofs.RequestsAgain.{resolve_body}
use Rattle.sd_ipc.proofs.bodies.resolve_body.Goals as goal

pub returns : goal.returns
returns c = resolve_body _ _ _ (next _ _ _ _ (first _ _ _ c.new-out.ensures.items c.in_ok-put_text.ensures.bytes) c.in_ok-put_text-2.ensures.bytes) c.in_ok-put_text.ensures.again c.in_ok-put_text-2.ensures.again
