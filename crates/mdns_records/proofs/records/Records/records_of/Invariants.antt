use Rattle.std.proofs.Common.{◌≡◌, ◌+◌, ◌-◌, length}
use Rattle.by_name.specs.At.{owner_of}
use Rattle.mdns_cache.specs.Lifetimes.{held_of}
use Rattle.mdns_records.proofs.Walking.{AreCopied}
use Rattle.mdns_records.proofs.records.Records.records_of.Given as goal

abbrev pub invariant-loop-one : goal.invariant-loop-one
invariant-loop-one g l = record {
  copied : AreCopied (held_of l.name l.self.held) l.held.items;
  visits : l.steps ≡ l.initial.steps + length l.held.items;
  owner : l.place.owner ≡ owner_of l.name;
  number : l.place.number ≡ length l.held.items;
}

abbrev pub decreases-loop-one : goal.decreases-loop-one
decreases-loop-one g l = length (held_of l.name l.self.held) - length l.held.items
