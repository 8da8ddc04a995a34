use Rattle.std.proofs.Common.{◌≡◌, map, take}
use Rattle.mdns_probe.specs.Kept.{name_of}
use Rattle.mdns_renewals.proofs.begin.names_of.Given as goal

abbrev pub invariant-loop-one : goal.invariant-loop-one
invariant-loop-one l = l.names.items ≡ map name_of (take l.one-index l.groups)
