-- The bytes of a name in wire form, in their place.
use Rattle.std.specs.Prelude.{ℕ, List, take}
use Rattle.dns_name.specs.declared.wire_bytes.WireBytes.{WireBytes}

-- the bytes that are there
abbrev pub bytes_in : WireBytes → List ℕ
bytes_in wire = take wire.len wire.bytes
