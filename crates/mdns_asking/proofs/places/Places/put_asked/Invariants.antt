use Rattle.std.proofs.Common.{◌&&◌, nat_le}
use Rattle.mdns_history.specs.Asking.{asks_openly}
use Rattle.mdns_asking.proofs.PutPlaces.{ArePutTo}
use Rattle.mdns_asking.proofs.places.Places.put_asked.Given as goal

abbrev pub invariant-loop-place : goal.invariant-loop-place
invariant-loop-place l = ArePutTo (λ one. asks_openly one.key l.asked && nat_le one.next l.until) l.asker.questions l.first l.place l.initial.self.places.items l.self.places.items
