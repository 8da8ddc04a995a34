use Rattle.std.proofs.Common.{◌≡◌, map}
use Rattle.mdns_history.specs.Sending.{unflushed}
use Rattle.plain_sending.proofs.probes.claimed_records.Given as goal

abbrev pub invariant-loop-rr : goal.invariant-loop-rr
invariant-loop-rr l = l.claimed.items ≡ map unflushed l.yielded
