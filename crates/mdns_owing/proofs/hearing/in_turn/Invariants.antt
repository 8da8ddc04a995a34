use Rattle.std.proofs.Common.{◌≡◌, ◌++◌}
use Rattle.mdns_owing.proofs.hearing.in_turn.Given as goal

abbrev pub invariant-loop-one : goal.invariant-loop-one
invariant-loop-one l = l.owed.items ++ l.one-iterator ≡ l.fn.set.keys
