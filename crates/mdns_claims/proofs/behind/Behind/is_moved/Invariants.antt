use Rattle.std.proofs.Common.{◌-◌, ◌≤◌, length}
use Rattle.mdns_claims.specs.Seen.{means_in}
use Rattle.mdns_claims.proofs.Stays.{StaysFrom}
use Rattle.mdns_claims.proofs.behind.Behind.is_moved.Given as goal

abbrev pub invariant-loop-place : goal.invariant-loop-place
invariant-loop-place l = record {
  within : l.from ≤ length l.self.groups.now;
  rest : StaysFrom (means_in l.self.means) l.self.deed.now l.self.groups.now l.name l.from → StaysFrom (means_in l.self.means) l.self.deed.now l.self.groups.now l.name 0;
}

abbrev pub decreases-loop-place : goal.decreases-loop-place
decreases-loop-place l = length l.self.groups.now - l.from
