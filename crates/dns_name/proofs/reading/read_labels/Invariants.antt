use Rattle.std.proofs.Common.{length}
use Rattle.dns_name.specs.TextItems.{items_of}
use Rattle.dns_name.proofs.ReadItems.{IsReadSoFar}
use Rattle.dns_name.proofs.reading.read_labels.Given as goal

abbrev pub invariant-loop-item : goal.invariant-loop-item
invariant-loop-item l = IsReadSoFar (items_of l.text) l.items l.reading

abbrev pub decreases-loop-item : goal.decreases-loop-item
decreases-loop-item l = length l.items
