-- What a place in memory counts.
use Rattle.std.specs.Prelude.{Some, None, if◌then◌else◌}
use Rattle.mdns_outside.specs.Places.{Counted}
use Rattle.mdns_outside.specs.declared.mem_place.MemPlace.{MemPlace}

-- Its plan and its counts; and how many connections its doors gave, unless their sum passed what can be counted.
abbrev pub place_counted : {R I O G : Type 0} → MemPlace R I O G → Counted
place_counted place = record {
  plan = place.plan;
  door_faults = place.door_faults;
  spawner_faults = place.spawner_faults;
  link_faults = place.link_faults;
  doors_over = place.doors_over;
  given = if place.whole then Some place.given else None;
}
