use Rattle.std.proofs.Common.{◌≡◌, ◌+◌, ◌≤◌, length, filter, IsPermutation}
use Rattle.mdns_history.specs.Lifetimes.{is_live_at}
use Rattle.mdns_records.specs.Visits.{ended_in}
use Rattle.mdns_records.proofs.changing.take_ended.Given as goal

abbrev pub invariant-loop : goal.invariant-loop
invariant-loop g l = record {
  held : IsPermutation (filter (is_live_at l.now) l.cache.held) (filter (is_live_at l.now) l.initial.cache.held);
  limit : l.cache.limit ≡ l.initial.cache.limit;
  visits : l.steps + length (ended_in l.now l.cache.held) ≡ l.initial.steps + length (ended_in l.now l.initial.cache.held);
  room : l.initial.cache.spare ≤ l.cache.spare;
}

abbrev pub decreases-loop : goal.decreases-loop
decreases-loop g l = length l.cache.held
