use Rattle.std.proofs.Common.{◌≡◌, map, drop}
use Rattle.mdns_history.specs.Groups.{is_taken}
use Rattle.mdns_probe.specs.Kept.{name_of}
use Rattle.mdns_claimants.proofs.held.is_taken.Given as goal

abbrev pub invariant-loop-one : goal.invariant-loop-one
invariant-loop-one l = is_taken (map name_of (drop l.one-index l.groups)) l.name ≡ is_taken (map name_of l.groups) l.name
