-- The datagrams of a relay.
use Rattle.std.specs.Prelude.{ℕ, Bool, ◌==◌, ◌&&◌, ◌||◌, List, ◌++◌}
use Rattle.std.specs.Int.{to_be_bytes, w16, w32}
use Rattle.mdns_base.specs.declared.host.Dest.{Dest}
use Rattle.mdns_base.specs.declared.host.Dest.TheVariants as dest

-- the address and the port of a destination, 0 for all
abbrev pub place_bytes : Dest → List ℕ
place_bytes dest.All = to_be_bytes w32 0 ++ to_be_bytes w16 0
place_bytes (dest.One host) = to_be_bytes w32 host.ip ++ to_be_bytes w16 host.port

-- whether what goes to an address, 0 for all, and a port is for the daemon of an address
abbrev pub is_for : ℕ → ℕ → ℕ → Bool
is_for address to port = (to == 0) || ((to == address) && (port == 5353))

-- The datagram of a message: the sender's address and its port, which is that of Multicast DNS, where it goes, and the message.
abbrev pub datagram_of : ℕ → Dest → List ℕ → List ℕ
datagram_of address to message = to_be_bytes w32 address ++ to_be_bytes w16 5353 ++ place_bytes to ++ message
