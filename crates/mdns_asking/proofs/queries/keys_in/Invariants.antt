use Rattle.std.proofs.Common.{◌≡◌, take, map}
use Rattle.mdns_asking.proofs.queries.keys_in.Given as goal

abbrev pub invariant-loop-one : goal.invariant-loop-one
invariant-loop-one l = l.keys.items ≡ map (λ due. due.0) (take l.one-index l.asked)
