use Rattle.std.proofs.Common.{◌≡◌, ◌++◌, map}
use Rattle.mdns_history.specs.Sending.{to_all}
use Rattle.mdns_responding.proofs.announcing.send_to_all.Given as goal

abbrev pub invariant-loop-message : goal.invariant-loop-message
invariant-loop-message l = l.sent ≡ l.initial.sent ++ map to_all l.yielded
