use Rattle.std.proofs.Common.{◌≡◌, ◌++◌, map}
use Rattle.mdns_history.specs.Sending.{to_one}
use Rattle.mdns_owing.proofs.sending.send_to_one.Given as goal

abbrev pub invariant-loop-message : goal.invariant-loop-message
invariant-loop-message l = l.sent ≡ l.initial.sent ++ map (to_one l.host) l.yielded
