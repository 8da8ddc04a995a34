-- Hosts, and where packets go.
use Rattle.std.specs.Prelude.{ℕ, ◌==◌, Bool, true, false, ◌&&◌}
use Rattle.mdns_base.specs.declared.host.Host.{Host}
use Rattle.mdns_base.specs.declared.host.Dest.{Dest}
use Rattle.mdns_base.specs.declared.host.Dest.TheVariants.{All, One}

-- the port of Multicast DNS (RFC 6762 section 2)
abbrev pub mdns_port : ℕ
mdns_port = 5353

-- whether two hosts are one
abbrev pub host_eq : Host → Host → Bool
host_eq a b = (a.ip == b.ip) && (a.port == b.port)

-- whether two ways of a packet are one
abbrev pub dest_eq : Dest → Dest → Bool
dest_eq All All = true
dest_eq All (One b) = false
dest_eq (One a) All = false
dest_eq (One a) (One b) = host_eq a b
