use Rattle.std.proofs.Common.{◌≡◌, ◌+◌, ◌++◌, [], map}
use Rattle.mdns_happened.specs.Walks.{AreWalks, AreOwnWalks}
use Rattle.mdns_records.specs.After.{held_after}
use Rattle.mdns_records.specs.Visits.{visits_of_all}
use Rattle.mdns_records.proofs.records.Records.walk.Given as goal

abbrev pub invariant-loop-name : goal.invariant-loop-name
invariant-loop-name g l = record {
  walks : AreWalks l.self.held (held_after l.when.moment l.when.word l.heard l.self.held) l.walks.items;
  names : map (λ walk. walk.name) l.walks.items ≡ l.yielded;
  own : AreOwnWalks [] [] l.walks.items;
  left : l.yielded ++ l.name-iterator.rest.items ≡ l.fn.names.items;
  visits : l.steps ≡ l.initial.steps + visits_of_all l.self.held l.yielded;
}
