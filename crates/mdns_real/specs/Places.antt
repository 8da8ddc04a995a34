-- What a real place counts.
use Rattle.std.specs.Prelude.{None}
use Rattle.mdns_outside.specs.Places.{Counted}
use Rattle.mdns_real.specs.declared.place.RealPlace.{RealPlace}

-- Its plan and its counts of faults. Its doors never are over, and it doesn't tell how many connections they gave.
abbrev pub real_counted : {R : Type 0} → RealPlace R → Counted
real_counted place = record {
  plan = place.plan;
  door_faults = place.door_faults;
  spawner_faults = place.spawner_faults;
  link_faults = place.link_faults;
  doors_over = 0;
  given = None;
}
