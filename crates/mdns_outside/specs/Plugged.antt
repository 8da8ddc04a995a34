-- What a plug in memory tells of its lists, and its faults.
use Rattle.std.specs.Prelude.{ℕ, List, map, Option, Some, None, if◌then◌else◌}
use Rattle.std.specs.String.{string_bytes}
use Rattle.mdns_outside.specs.Fakes.{peer_bytes, said_bytes}
use Rattle.mdns_outside.specs.declared.mem_plug.MemPlug.{MemPlug}

-- the paths that were asked for
abbrev pub plug_asked : MemPlug → Option (List (List ℕ))
plug_asked plug = if plug.whole then Some (map string_bytes plug.asked.items) else None

-- what the peers to come say
abbrev pub plug_coming : MemPlug → Option (List (List ℕ))
plug_coming plug = if plug.whole then Some (map peer_bytes plug.coming.items) else None

-- what was said on the connections that were given back
abbrev pub plug_said : MemPlug → Option (List (List ℕ))
plug_said plug = if plug.whole then Some (map said_bytes plug.said.items) else None

-- how often it failed
abbrev pub plug_faults : MemPlug → ℕ
plug_faults plug = plug.faults
