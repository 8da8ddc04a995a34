use Rattle.std.proofs.Common.{◌≡◌, ◌≤◌, ◌-◌, ◌++◌, length, take}
use Rattle.std.specs.List.{flat_map}
use Rattle.mdns_debts.specs.Queries.{replies_at}
use Rattle.mdns_owing.proofs.owing.Owing.put_replies.Given as goal

abbrev pub invariant-loop-place : goal.invariant-loop-place
invariant-loop-place l = record {
  within : l.from ≤ length l.self.queries;
  sent : l.sent ≡ l.initial.sent ++ flat_map (replies_at l.now) (take l.from l.self.queries);
}

abbrev pub decreases-loop-place : goal.decreases-loop-place
decreases-loop-place l = length l.self.queries - l.from
