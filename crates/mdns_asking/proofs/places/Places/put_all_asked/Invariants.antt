use Rattle.std.specs.List.{list_any}
use Rattle.std.proofs.Common.{◌&&◌, nat_le, take}
use Rattle.mdns_history.specs.Asking.{asks_openly}
use Rattle.mdns_asking.specs.Places.{ArePut}
use Rattle.mdns_asking.proofs.places.Places.put_all_asked.Given as goal

abbrev pub invariant-loop-asked : goal.invariant-loop-asked
invariant-loop-asked l = ArePut (λ one. list_any (λ asked. asks_openly one.key asked && nat_le one.next l.until) (take l.asked-index l.all_asked)) l.asker.questions l.initial.self.places.items l.self.places.items
