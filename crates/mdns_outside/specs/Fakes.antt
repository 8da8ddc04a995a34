-- What the fakes in memory have left and hold.
use Rattle.std.specs.Prelude.{ℕ, ◌-◌, Bool, List, map, Option, Some, None, length, if◌then◌else◌}
use Rattle.mdns_outside.specs.Parts.{Handed, Arriving}
use Rattle.mdns_outside.specs.declared.ear.Incoming.{Incoming}
use Rattle.mdns_outside.specs.declared.ear.MemEar.{MemEar}
use Rattle.mdns_outside.specs.declared.air.Packet.{Packet}
use Rattle.mdns_outside.specs.declared.air.MemAir.{MemAir}
use Rattle.mdns_base.specs.declared.memory.MemSink.{MemSink}
use Rattle.mdns_base.specs.Memory.{sink_held}
use Rattle.mdns_outside.specs.declared.counted.Counted.{Counted}
use Rattle.mdns_outside.specs.declared.mem_plug.Peer.{Peer}
use Rattle.mdns_outside.specs.declared.door.MemDoor.{MemDoor}
use Rattle.mdns_outside.specs.declared.spawner.MemSpawner.{MemSpawner}

-- a packet that arrives: its sender, and its bytes
abbrev pub arriving : Incoming → Arriving
arriving packet = (packet.from, packet.bytes)

-- a packet that was handed over: its bytes, and where it goes
abbrev pub handed : Packet → Handed
handed packet = (packet.bytes, packet.to)

-- how often an ear failed
abbrev pub ear_faults : MemEar → ℕ
ear_faults ear = ear.faults

-- what an air was handed, where it tells that
abbrev pub air_handed : MemAir → Option (List Handed)
air_handed air = if air.whole then Some (map handed air.packets.items) else None

-- how often an air failed
abbrev pub air_faults : MemAir → ℕ
air_faults air = air.faults

-- the source or sink within
abbrev pub inner_of : {S : Type 0} → Counted S → S
inner_of counted = counted.inner

-- how often it failed
abbrev pub counted_faults : {S : Type 0} → Counted S → ℕ
counted_faults counted = counted.faults

-- what a peer says
abbrev pub peer_bytes : Peer → List ℕ
peer_bytes peer = peer.bytes.items

-- what was said to a peer
abbrev pub said_bytes : Counted MemSink → List ℕ
said_bytes sink = sink_held sink.inner

-- how many connections a door gave
abbrev pub door_given : {I O : Type 0} → MemDoor I O → ℕ
door_given door = door.total - length door.callers.items

-- whether it has said that no more come
abbrev pub door_over : {I O : Type 0} → MemDoor I O → Bool
door_over door = door.over

-- how often it failed
abbrev pub door_faults : {I O : Type 0} → MemDoor I O → ℕ
door_faults door = door.faults

-- how often a spawner failed
abbrev pub spawner_faults : {R : Type 0} → MemSpawner R → ℕ
spawner_faults spawner = spawner.faults
