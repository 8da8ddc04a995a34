use Rattle.std.proofs.Common.{◌∙◌, ap}
use Rattle.std.specs.Prelude.{ℤ}
use Rattle.std.specs.Int.{to_be_bytes, cast_unsigned, w32}
use Rattle.std.proofs.lemmas.Int.{to_z-of_z}
use Rattle.sd_ipc.proofs.Chains.{first, next}
use Rattle.sd_ipc.proofs.ItemsAgain.{reply_body}
use Rattle.sd_ipc.proofs.item_bodies.reply_body.Goals as goal

pub returns : goal.returns
returns c = reply_body _ _ _ _ _ _ c.ranges.code c.verb_number.ensures (c.to_be_bytes.ensures ∙ ap (λ (z : ℤ). to_be_bytes w32 (cast_unsigned w32 z)) (to_z-of_z w32 c.args.code c.ranges.code)) (next _ _ _ _ (first _ _ _ c.new-out.ensures.items c.in_ok-push.ensures.items) c.in_ok-extend_from_slice.ensures.items)
