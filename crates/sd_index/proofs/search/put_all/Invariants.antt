use Rattle.std.proofs.Common.{◌≡◌, ◌^◌, ◌-◌, ◌<◌, ◌++◌, length}
use Rattle.by_name.specs.At.{at, owner_of}
use Rattle.by_name.specs.Filed.{AreFiled}
use Rattle.sd_index.proofs.Runs.{run}
use Rattle.sd_index.proofs.search.put_all.Given as goal

abbrev pub invariant-loop-asker : goal.invariant-loop-asker
invariant-loop-asker l = record {
  small : length l.filed.entries < 2 ^ 63;
  filed : AreFiled l.filed.entries;
  place : l.place ≡ at (owner_of l.name) l.number;
  put : l.askers.items ≡ l.initial.askers.items ++ run (owner_of l.name) l.number l.filed.entries;
}

abbrev pub decreases-loop-asker : goal.decreases-loop-asker
decreases-loop-asker l = length l.filed.entries - l.number
