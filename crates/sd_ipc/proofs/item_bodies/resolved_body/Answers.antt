use Rattle.sd_ipc.proofs.Chains.{first, next}
use Rattle.sd_ipc.proofs.ItemsAgain.{resolved_body}
use Rattle.sd_ipc.proofs.item_bodies.resolved_body.Goals as goal

pub returns : goal.returns
returns c = rw (← c.as_slice.ensures) (resolved_body _ _ _ _ _ _ (next _ _ _ _ (next _ _ _ _ (next _ _ _ _ (next _ _ _ _ (next _ _ _ _ (first _ _ _ c.new-out.ensures.items c.in_ok-push.ensures.items) c.in_ok-put_u16.ensures.bytes) c.in_ok-put_u16-2.ensures.bytes) c.in_ok-put_u16-3.ensures.bytes) c.in_ok-put_name.ensures.bytes) c.in_ok-extend_from_slice.ensures.items) c.in_ok-put_u16.ensures.again c.in_ok-put_u16-2.ensures.again c.in_ok-put_u16-3.ensures.again c.in_ok-put_name.ensures.again)
