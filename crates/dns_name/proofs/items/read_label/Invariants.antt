use Rattle.std.proofs.Common.{◌≡◌, ◌++◌, ◌≤◌, length}
use Rattle.std.specs.Option.{option_map}
use Rattle.dns_name.specs.TextItems.{items_of, bytes_spelled}
use Rattle.dns_name.proofs.items.read_label.Given as goal

abbrev pub invariant-loop-item : goal.invariant-loop-item
invariant-loop-item g l = record {
  spelled : bytes_spelled (items_of l.text) ≡ option_map (λ rest. l.bytes.items ++ rest) (bytes_spelled l.items);
  fits : length l.bytes.items ≤ g.row.N;
}

abbrev pub decreases-loop-item : goal.decreases-loop-item
decreases-loop-item g l = length l.items
