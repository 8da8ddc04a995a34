use Rattle.std.proofs.Common.{◌≡◌, ◌++◌, ◌≤◌, length}
use Rattle.std.specs.Option.{option_map}
use Rattle.dns_name.specs.TextItems.{items_of}
use Rattle.mdns_script.specs.Tokens.{type_spelled}
use Rattle.mdns_script.proofs.tokens.read_type.Given as goal

abbrev pub invariant-loop-item : goal.invariant-loop-item
invariant-loop-item g l = record {
  spelled : type_spelled (items_of l.bytes) ≡ option_map (λ rest. l.regtype.items ++ rest) (type_spelled l.items);
  fits : length l.regtype.items ≤ g.row.N;
}

abbrev pub decreases-loop-item : goal.decreases-loop-item
decreases-loop-item g l = length l.items
