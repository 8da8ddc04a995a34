use Rattle.std.proofs.Common.{◌≡◌, ◌≤◌, ◌-◌, length, take}
use Rattle.dns_name.specs.Names.{wire_of}
use Rattle.dns_pointers.proofs.NameParts.{IsUnderWay}
use Rattle.dns_pointers.proofs.compressing.compress.Given as goal

abbrev pub invariant-labels : goal.invariant-labels
invariant-labels l = record {
  wire : l.wire ≡ wire_of l.name;
  within : length l.rest ≤ length l.wire;
  under_way : IsUnderWay l.fn.names l.at l.name l.names (take (length l.wire - length l.rest) l.wire) l.rest;
}

abbrev pub decreases-labels : goal.decreases-labels
decreases-labels l = length l.rest
