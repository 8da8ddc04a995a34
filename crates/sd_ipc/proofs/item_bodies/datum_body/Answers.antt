use Rattle.sd_ipc.proofs.Chains.{first, next}
use Rattle.sd_ipc.proofs.ItemsAgain.{datum_body}
use Rattle.sd_ipc.proofs.item_bodies.datum_body.Goals as goal

pub returns : goal.returns
returns c =
    datum_body _ _ _ _ _ c.kind.ensures c.deref.ensures.value
    (next _ _ _ _ (next _ _ _ _ (first _ _ _ c.new-out.ensures.items c.in_ok-push.ensures.items) c.in_ok-put_u16.ensures.bytes) c.in_ok-extend_from_slice.ensures.items)
    c.in_ok-data.ensures c.in_ok-put_u16.ensures.again
