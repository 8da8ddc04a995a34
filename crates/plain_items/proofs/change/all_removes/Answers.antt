use Rattle.std.proofs.Common.{◌∙◌, ◌+◌, ◌++◌, List, drop, ap}
use Rattle.std.specs.List.{flat_map}
use Rattle.sd_call.specs.declared.item.Item.{Item}
use Rattle.plain_items.specs.Changes.{removes_between}
use Rattle.plain_items.proofs.LastEntries.{appended_next}
use Rattle.plain_items.proofs.change.all_removes.Goals as goal

pub loop-operation-preserved : goal.loop-operation-preserved
loop-operation-preserved c =
    let f = removes_between c.args.session c.args.past.now c.args.history.now in
    let live = c.args.live.now in
    let i = c.loop-operation.operation-index in
    ap (λ (l : List Item). l ++ flat_map f (drop (i + 1) live)) c.in_ok-append.ensures.items
    ∙ appended_next f live i c.operation-item.result c.loop-operation.items.items c.in_ok-more.more.items c.loop-operation-test.true c.operation-item.is c.in_ok-more.ensures
    ∙ c.loop-operation.invariant
