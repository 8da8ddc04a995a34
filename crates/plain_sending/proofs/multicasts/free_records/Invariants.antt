use Rattle.std.proofs.Common.{◌≡◌}
use Rattle.std.specs.Prelude.{filter}
use Rattle.mdns_history.specs.Sending.{is_free}
use Rattle.plain_sending.proofs.multicasts.free_records.Given as goal

abbrev pub invariant-loop-rr : goal.invariant-loop-rr
invariant-loop-rr l = l.free.items ≡ filter (is_free l.past l.moment) l.yielded
