use Rattle.std.proofs.Common.{◌≡◌, ◌++◌}
use Rattle.mdns_responding.proofs.responder.Responder.answers.Given as goal

abbrev pub invariant-loop-rr : goal.invariant-loop-rr
invariant-loop-rr l = l.answers.items ≡ l.initial.answers.items ++ l.yielded
