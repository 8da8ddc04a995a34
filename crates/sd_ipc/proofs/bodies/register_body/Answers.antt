use Rattle.std.proofs.Common.{◌∙◌, ap, sym}
use Rattle.sd_ipc.specs.Frames.{flags_of}
use Rattle.sd_ipc.proofs.Chains.{first, next}
use Rattle.sd_ipc.proofs.RequestsAgain.{register_body}
use Rattle.sd_ipc.proofs.bodies.register_body.Goals as goal
use Rattle.sd_ipc.proofs.bodies.register_body.Goals.{then-said, else-said}

pub returns : goal.returns
returns c = register_body _ _ _ _ _ _ _ (elim c.if-said.branch [ then-said w ↦ w.flags-is ∙ ap flags_of (sym w.if-said.true) | else-said w ↦ w.flags-is ∙ ap flags_of (sym w.if-said.false) ]) (next _ _ _ _ (next _ _ _ _ (next _ _ _ _ (next _ _ _ _ (first _ _ _ c.new-out.ensures.items c.in_ok-push.ensures.items) c.in_ok-put_u16.ensures.bytes) c.in_ok-put_text.ensures.bytes) c.in_ok-put_text-2.ensures.bytes) c.in_ok-put_txt.ensures.bytes) c.in_ok-put_u16.ensures.again c.in_ok-put_text.ensures.again c.in_ok-put_text-2.ensures.again c.in_ok-put_txt.ensures.again
