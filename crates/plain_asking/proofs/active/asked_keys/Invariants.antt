use Rattle.std.proofs.Common.{◌≡◌}
use Rattle.std.specs.List.{flat_map}
use Rattle.mdns_history.specs.Questions.{keys_of}
use Rattle.plain_asking.proofs.active.asked_keys.Given as goal

abbrev pub invariant-loop-operation : goal.invariant-loop-operation
invariant-loop-operation l = l.keys.items ≡ flat_map (λ operation. keys_of operation.request) l.yielded
