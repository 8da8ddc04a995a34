use Rattle.std.proofs.Common.{◌++◌, ◌∙◌, List, [], ◌∷◌, ap, sym, arith}
use Rattle.sd_call.specs.declared.item.Item.{Item}
use Rattle.sd_outbox.specs.Queues.{first_of, rest_of}
use Rattle.sd_sessions.proofs.Queued.{take-next-of, if_ok}
use Rattle.sd_sessions.proofs.settle.take_items.Goals as goal

pub loop-place-preserved : goal.loop-place-preserved
loop-place-preserved c =
    let next = take-next-of c.args.outbox.now.items c.take.new.self.items c.loop-place._place c.in-One.item
    (c.in-One.ensures.first ∙ ap first_of c.loop-place.invariant.left) (c.in-One.ensures.rest ∙ ap rest_of c.loop-place.invariant.left) in
    record {
      taken = c.push.ensures.items ∙ if_ok c.push.result _ _ (c.push.ensures.succeeds (omega arith)) ∙ ap (λ (xs : List Item). xs ++ c.in-One.item ∷ []) c.loop-place.invariant.taken ∙ sym next.0;
      left = next.1;
      len = omega (arith, c.push.ensures.upper_bound);
      room = omega (arith, c.push.ensures.capacity);
    }
