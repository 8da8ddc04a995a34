use Rattle.std.proofs.Common.{◌<◌, ◌≤◌, subst, arith}
use Rattle.sd_outbox.proofs.Lengths.{passes_at, passes_not, frames_next}
use Rattle.sd_outbox.proofs.outbox.Outbox.passes.Goals as goal

pub returns-then-len-room : goal.returns-then-len-room
returns-then-len-room c =
    passes_at c.args.items.now c.args.self.now.items c.loop-item.item-index c.item-item.result c.loop-item.room c.loop-item-test.true c.item-item.is
    (subst (λ n. n ≤ 16777216) c.bytes-room.ensures.bytes c.bytes-room.ensures.within) c.loop-item.invariant
    (subst (λ n. c.loop-item.room < n) c.item_len-len.ensures c.if-len-room.true)

pub loop-item-preserved : goal.loop-item-preserved
loop-item-preserved c =
    let next = frames_next c.args.items.now c.loop-item.item-index c.item-item.result c.loop-item-test.true c.item-item.is in
    omega (arith, next)

pub returns : goal.returns
returns c =
    passes_not c.args.items.now c.args.self.now.items c.loop-item.item-index c.loop-item.room c.loop-item-test.false
    (subst (λ n. n ≤ 16777216) c.bytes-room.ensures.bytes c.bytes-room.ensures.within) c.loop-item.invariant
