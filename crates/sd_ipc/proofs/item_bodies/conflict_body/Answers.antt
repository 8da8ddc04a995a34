use Rattle.sd_ipc.proofs.Chains.{first}
use Rattle.sd_ipc.proofs.ItemsAgain.{conflict_body}
use Rattle.sd_ipc.proofs.item_bodies.conflict_body.Goals as goal

pub returns : goal.returns
returns c = conflict_body _ (first _ _ _ c.new-out.ensures.items c.in_ok-push.ensures.items)
