-- all that was let in so far has its turn
use Rattle.std.proofs.Common.{◌≡◌, true}
use Rattle.mdns_server.specs.Endings.{MayFault}
use Rattle.mdns_server.specs.Openings.{Opens}
use Rattle.mdns_server.proofs.accepting.accept_all.Given as goal

abbrev pub invariant-loop : goal.invariant-loop
invariant-loop g l =
    (goal.iterator-loop g).can_next l.iterator' × (goal.iterator-loop g).is_finite l.iterator' × (l.desk.common ≡ l.initial.desk.common)
    × Opens l.initial.seat l.seat (g.P.Door.Door.given l.initial.door) (g.P.Door.Door.given l.door) true
    × MayFault (g.P.Place.counted l.initial.place) (g.P.Place.counted l.place)
    × (g.P.Place.counted l.place ≡ g.P.Place.counted l.initial.place)
    × (g.P.Door.Door.over l.door ≡ g.P.Door.Door.over l.initial.door)
    × (g.P.Door.Door.faults l.door ≡ g.P.Door.Door.faults l.initial.door)
    × (g.P.Spawner.Spawner.faults l.desk.spawner ≡ g.P.Spawner.Spawner.faults l.initial.desk.spawner)
