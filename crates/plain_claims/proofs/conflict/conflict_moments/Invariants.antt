use Rattle.std.proofs.Common.{◌≡◌, ◌++◌, drop}
use Rattle.mdns_history.specs.Probing.{conflict_moments}
use Rattle.plain_claims.proofs.conflict.conflict_moments.Given as goal

abbrev pub invariant-loop-entry : goal.invariant-loop-entry
invariant-loop-entry l = l.moments.items ++ conflict_moments (drop l.entry-index l.history) ≡ conflict_moments l.history
