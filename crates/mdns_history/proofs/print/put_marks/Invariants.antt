use Rattle.std.proofs.Common.{◌≡◌, ◌++◌, take}
use Rattle.std.specs.List.{flat_map}
use Rattle.mdns_history.specs.EntryText.{mark_line}
use Rattle.mdns_history.proofs.print.put_marks.Given as goal

abbrev pub invariant-loop-mark : goal.invariant-loop-mark
invariant-loop-mark l = l.out.items ≡ l.fn.out.items ++ flat_map mark_line (take l.mark-index l.marks)
