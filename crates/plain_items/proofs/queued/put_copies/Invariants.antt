use Rattle.std.proofs.Common.{◌≡◌, ◌++◌, take}
use Rattle.plain_items.proofs.queued.put_copies.Given as goal

abbrev pub invariant-loop-item : goal.invariant-loop-item
invariant-loop-item l = l.items.items ≡ l.initial.items.items ++ take l.item-index l.more
