use Rattle.std.proofs.Common.{◌≡◌, ◌++◌, take, length, codes}
use Rattle.std.specs.Prelude.{decimal}
use Rattle.mdns_history.specs.EntryText.{outcome_line, item_lines}
use Rattle.mdns_history.proofs.print.put_taken.Given as goal

abbrev pub invariant-loop-item : goal.invariant-loop-item
invariant-loop-item l = l.out.items ≡ l.fn.out.items ++ (outcome_line (codes "items " ++ decimal (length l.items)) ++ item_lines (take l.item-index l.items))
