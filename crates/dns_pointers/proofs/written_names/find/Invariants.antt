use Rattle.std.proofs.Common.{◌≡◌, drop}
use Rattle.dns_name.specs.Names.{labels_of}
use Rattle.dns_pointers.specs.Writing.{offset_of}
use Rattle.dns_pointers.proofs.written_names.find.Given as goal

abbrev pub invariant-loop-suffix : goal.invariant-loop-suffix
invariant-loop-suffix l = offset_of (labels_of l.wire) (drop l.suffix-index l.names) ≡ offset_of (labels_of l.wire) l.names
