use Rattle.std.proofs.Common.{◌≡◌, drop}
use Rattle.lists.specs.Lists.{count_where}
use Rattle.mdns_history.specs.Probing.{is_conflict}
use Rattle.mdns_claims.specs.Behind.{noted_times}
use Rattle.mdns_claims.proofs.claims.storm_after.Given as goal

abbrev pub invariant-loop-mark : goal.invariant-loop-mark
invariant-loop-mark l = noted_times (count_where is_conflict (drop l.mark-index l.marks)) l.now l.after ≡ noted_times (count_where is_conflict l.marks) l.now l.storm
