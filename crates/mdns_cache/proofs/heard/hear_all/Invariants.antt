use Rattle.std.proofs.Common.{◌≡◌, ◌+◌, ◌≤◌, [], map, reverse, length, IsPermutation}
use Rattle.std.specs.Map.{values_of}
use Rattle.mdns_cache.specs.Lifetimes.{hearing_at, after_hearings}
use Rattle.mdns_cache.specs.Ends.{IsPlayed}
use Rattle.mdns_cache.specs.Named.{AreFiled, AreOnce}
use Rattle.mdns_cache.proofs.heard.hear_all.Given as goal

abbrev pub invariant-loop-rr : goal.invariant-loop-rr
invariant-loop-rr l = record {
  moved : IsPermutation (after_hearings (values_of l.initial.records.entries) (map (hearing_at l.now l.word) (reverse l.initial.heard.items))) (after_hearings (values_of l.records.entries) (map (hearing_at l.now l.word) (reverse l.heard.items)));
  filed : AreFiled l.records.entries;
  once : AreOnce (values_of l.records.entries);
  played : IsPlayed (values_of l.records.entries) [] l.nodes;
  size : length l.nodes ≡ length l.initial.nodes;
  room : length l.records.entries + l.records.spare ≡ length l.initial.records.entries + l.initial.records.spare;
  enough : length l.heard.items ≤ l.records.spare;
  left : l.initial.records.spare + length l.heard.items ≤ l.records.spare + length l.initial.heard.items;
}

abbrev pub decreases-loop-rr : goal.decreases-loop-rr
decreases-loop-rr l = length l.heard.items
