use Rattle.std.proofs.Common.{◌≡◌, ◌++◌, drop}
use Rattle.std.specs.Prelude.{replicate}
use Rattle.lists.specs.Lists.{count_where}
use Rattle.mdns_history.specs.Probing.{is_conflict}
use Rattle.plain_claims.proofs.conflict.put_conflicts.Given as goal

abbrev pub invariant-loop-mark : goal.invariant-loop-mark
invariant-loop-mark l = l.moments.items ++ replicate (count_where is_conflict (drop l.mark-index l.mark-items)) l.entry.moment ≡ l.initial.moments.items ++ replicate (count_where is_conflict l.mark-items) l.entry.moment
