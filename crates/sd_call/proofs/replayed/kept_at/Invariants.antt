use Rattle.std.proofs.Common.{◌≡◌, ◌≤◌, ◌==◌, take, length, filter}
use Rattle.sd_call.specs.declared.replayed.Kept.{Kept}
use Rattle.sd_call.proofs.replayed.kept_at.Given as goal

abbrev pub invariant-loop-one : goal.invariant-loop-one
invariant-loop-one l = (l.before ≡ length (filter (λ (k : Kept). k.op == l.op) (take l.one-index l.kept))) × (l.before ≤ l.place)
