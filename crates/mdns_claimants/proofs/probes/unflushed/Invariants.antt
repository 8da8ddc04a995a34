use Rattle.std.proofs.Common.{◌≡◌, map, take}
use Rattle.mdns_history.specs.Sending.{unflushed}
use Rattle.mdns_claimants.proofs.probes.unflushed.Given as goal

abbrev pub invariant-loop-rr : goal.invariant-loop-rr
invariant-loop-rr l = l.copies ≡ map unflushed (take l.rr-index l.rrs)
