use Rattle.std.proofs.Common.{take}
use Rattle.std.specs.List.{list_any}
use Rattle.dns_name.specs.Names.{folded_eq}
use Rattle.mdns_asking.specs.Places.{ArePut}
use Rattle.mdns_asking.proofs.places.Places.put_names.Given as goal

abbrev pub invariant-loop-name : goal.invariant-loop-name
invariant-loop-name l = ArePut (λ one. list_any (folded_eq one.key.name) (take l.name-index l.names)) l.asker.questions l.initial.self.places.items l.self.places.items
