use Rattle.std.proofs.Common.{◌≡◌, ◌-◌, [], map, length}
use Rattle.std.specs.Map.{values_of}
use Rattle.by_name.specs.At.{at, owner_of}
use Rattle.mdns_cache.specs.Lifetimes.{hearing_at, shortened}
use Rattle.mdns_cache.specs.Ends.{IsPlayed}
use Rattle.mdns_cache.specs.Named.{AreFiled}
use Rattle.mdns_cache.proofs.Turns.{to_come}
use Rattle.mdns_cache.proofs.heard.shorten_all.Given as goal

abbrev pub invariant-loop-index : goal.invariant-loop-index
invariant-loop-index l = record {
  place : l.place ≡ at (owner_of l.rr.owner) l.number;
  cut : map (to_come (hearing_at l.now 0 l.rr) (owner_of l.rr.owner) l.number) l.records.entries ≡ map (shortened (hearing_at l.now 0 l.rr)) (values_of l.initial.records.entries);
  filed : AreFiled l.records.entries;
  played : IsPlayed (values_of l.records.entries) [] l.nodes;
  len : length l.records.entries ≡ length l.initial.records.entries;
  room : length l.nodes ≡ length l.initial.nodes;
  spare : l.records.spare ≡ l.initial.records.spare;
}

abbrev pub decreases-loop-index : goal.decreases-loop-index
decreases-loop-index l = length l.records.entries - l.number
