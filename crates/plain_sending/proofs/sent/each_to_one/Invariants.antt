use Rattle.std.proofs.Common.{◌≡◌, map}
use Rattle.mdns_history.specs.Sending.{to_one}
use Rattle.plain_sending.proofs.sent.each_to_one.Given as goal

abbrev pub invariant-loop-message : goal.invariant-loop-message
invariant-loop-message l = l.sent.items ≡ map (to_one l.host) l.yielded
