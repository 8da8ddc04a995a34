use Rattle.std.proofs.Common.{◌≡◌, ◌+◌, ◌≤◌, drop, filter}
use Rattle.std.specs.Map.{values_of}
use Rattle.mdns_history.specs.Lifetimes.{is_live_at}
use Rattle.mdns_cache.specs.Counted.{count_new}
use Rattle.mdns_cache.proofs.count.count_new.Given as goal

abbrev pub invariant-loop-place : goal.invariant-loop-place
invariant-loop-place l = record {
  counted : l.count + count_new (filter (is_live_at l.now) (values_of l.records.entries)) (drop l.place l.heard) ≡ count_new (filter (is_live_at l.now) (values_of l.records.entries)) l.heard;
  bound : l.count ≤ l.place;
}
