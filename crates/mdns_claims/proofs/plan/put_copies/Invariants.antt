use Rattle.std.proofs.Common.{◌≡◌, ◌++◌, take}
use Rattle.mdns_claims.proofs.plan.put_copies.Given as goal

abbrev pub invariant-loop-mark : goal.invariant-loop-mark
invariant-loop-mark l = l.marks ≡ l.initial.marks ++ take l.mark-index l.others
