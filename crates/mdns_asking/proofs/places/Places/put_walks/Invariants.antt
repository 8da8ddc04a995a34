use Rattle.std.proofs.Common.{take}
use Rattle.std.specs.List.{list_any}
use Rattle.mdns_happened.specs.Walks.{is_for}
use Rattle.mdns_asking.specs.Places.{ArePut}
use Rattle.mdns_asking.proofs.places.Places.put_walks.Given as goal

abbrev pub invariant-loop-walk : goal.invariant-loop-walk
invariant-loop-walk l = ArePut (λ one. list_any (is_for one.key.name) (take l.walk-index l.walks)) l.asker.questions l.initial.self.places.items l.self.places.items
