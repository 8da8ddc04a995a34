use Rattle.std.proofs.Common.{◌≡◌, ◌++◌, drop}
use Rattle.std.specs.List.{flat_map}
use Rattle.plain_items.specs.Changes.{removes_between}
use Rattle.plain_items.proofs.change.all_removes.Given as goal

abbrev pub invariant-loop-operation : goal.invariant-loop-operation
invariant-loop-operation l = l.items.items ++ flat_map (removes_between l.session l.past l.history) (drop l.operation-index l.live) ≡ flat_map (removes_between l.session l.past l.history) l.live
