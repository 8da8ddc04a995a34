use Rattle.std.proofs.Common.{◌≡◌, map}
use Rattle.mdns_history.specs.Sending.{probe_message, to_all}
use Rattle.plain_sending.proofs.probes.sent_probes.Given as goal

abbrev pub invariant-loop-group : goal.invariant-loop-group
invariant-loop-group l = l.sent.items ≡ map (λ group. to_all (probe_message group l.history)) l.yielded
