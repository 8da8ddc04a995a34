use Rattle.dns_name.specs.Names.{folded_eq}
use Rattle.mdns_asking.proofs.PutPlaces.{ArePutTo}
use Rattle.mdns_asking.proofs.places.Places.put_name.Given as goal

abbrev pub invariant-loop-place : goal.invariant-loop-place
invariant-loop-place l = ArePutTo (λ one. folded_eq l.name one.key.name) l.asker.questions l.first l.place l.initial.self.places.items l.self.places.items
