use Rattle.std.proofs.Common.{◌≡◌, ◌≤◌, ◌++◌, length}
use Rattle.mdns_history.specs.Announcing.{announcement_moments}
use Rattle.plain_announcing.proofs.moments.announcement_moments.Given as goal

abbrev pub invariant-loop-entry : goal.invariant-loop-entry
invariant-loop-entry l = record {
  moments : l.moments.items ++ announcement_moments l.group l.rest ≡ announcement_moments l.group l.history;
  short : length l.rest ≤ length l.history;
}

abbrev pub decreases-loop-entry : goal.decreases-loop-entry
decreases-loop-entry l = length l.rest
