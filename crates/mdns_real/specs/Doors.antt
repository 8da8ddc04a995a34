-- The faults of a door at a socket.
use Rattle.std.specs.Prelude.{ℕ}
use Rattle.mdns_real.specs.declared.door.UnixDoor.{UnixDoor}

-- how often it failed
abbrev pub door_faults : {R : Type 0} → UnixDoor R → ℕ
door_faults door = door.faults
