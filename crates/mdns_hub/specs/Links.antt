-- The link between daemons: which packets are lost, who hears the others, and when.
use Rattle.std.specs.Prelude.{ℕ, ◌+◌, ◌-◌, ◌==◌, nat_lt, nat_le, Bool, true, false, not, ◌&&◌, ◌||◌, List, [], ◌∷◌, length, map, filter, Option, if◌then◌else◌}
use Rattle.std.specs.List.{list_any}
use Rattle.std.specs.Option.{option_map_or, unwrap_or}
use Rattle.mdns_base.specs.declared.host.Host.{Host}
use Rattle.mdns_base.specs.declared.host.Dest.{Dest}
use Rattle.mdns_base.specs.declared.host.Dest.TheVariants.{All, One}
use Rattle.mdns_base.specs.Hosts.{mdns_port}
use Rattle.lists.specs.Lists.{count_up}
use Rattle.dns_message.specs.Writing.{written}
use Rattle.mdns_history.specs.declared.entry.Sent.{Sent}
use Rattle.mdns_hub.specs.declared.delivery.Delivery.{Delivery}
use Rattle.mdns_hub.specs.declared.delivery.Parted.{Parted}

-- How long packets are under way, how many of the next are lost, which daemons are parted, and the packets under way, in the order in which they are
-- heard.
pub record LinkState : Type 0 where
  pub delay : ℕ
  pub losses : ℕ
  pub parted : List Parted
  pub under_way : List Delivery

-- packets are under way for 1 ms, none is lost, and none is under way
abbrev pub quiet_link : LinkState
quiet_link = record { delay = 1; losses = 0; parted = []; under_way = [] }

-- the greatest number of a daemon
abbrev pub most_daemons : ℕ
most_daemons = 16

-- the most bytes of a packet (RFC 6762 section 17)
abbrev pub most_bytes : ℕ
most_bytes = 8972

-- whether two numbers are those of a pair, either way round
abbrev pub is_pair : ℕ → ℕ → Parted → Bool
is_pair a b parted = ((a == parted.left) && (b == parted.right)) || ((a == parted.right) && (b == parted.left))

-- whether two daemons are parted
abbrev pub are_parted : List Parted → ℕ → ℕ → Bool
are_parted parted a b = list_any (is_pair a b) parted

-- whether a packet goes to a daemon at an address: each packet to all, and one to a host where it is that address and port 5353
abbrev pub is_for : Dest → ℕ → Bool
is_for All address = true
is_for (One host) address = (address == host.ip) && (host.port == mdns_port)

-- Whether a daemon hears a packet, told of the address of each that was booted: it has one, it isn't the sender, nor parted from it, and the packet goes to
-- it.
abbrev pub hears_from : (ℕ → Option ℕ) → List Parted → ℕ → Dest → ℕ → Bool
hears_from address_of parted sender to daemon =
    option_map_or (is_for to) (address_of daemon) false && not (daemon == sender) && not (are_parted parted sender daemon)

-- the daemons that hear a packet, by number
abbrev pub hearers : (ℕ → Option ℕ) → List Parted → ℕ → Dest → List ℕ
hearers address_of parted sender to = filter (hears_from address_of parted sender to) (count_up 1 most_daemons)

-- the host that a daemon's packets come from
abbrev pub host_of : (ℕ → Option ℕ) → ℕ → Host
host_of address_of daemon = record { ip = unwrap_or (address_of daemon) 0; port = mdns_port }

-- a packet on its way to a daemon
abbrev pub delivery_to : ℕ → Host → List ℕ → ℕ → Delivery
delivery_to moment from bytes daemon = record { moment = moment; daemon = daemon; from = from; bytes = bytes }

-- a delivery put behind those that aren't later
abbrev pub put_delivery : Delivery → List Delivery → List Delivery
put_delivery delivery [] = delivery ∷ []
put_delivery delivery (next ∷ more) = if nat_lt delivery.moment next.moment then delivery ∷ next ∷ more else next ∷ put_delivery delivery more

-- the same where a test passes
abbrev pub put_where : Bool → Delivery → List Delivery → List Delivery
put_where test delivery under_way = if test then put_delivery delivery under_way else under_way

-- several in turn
abbrev pub put_all : List Delivery → List Delivery → List Delivery
put_all [] under_way = under_way
put_all (delivery ∷ more) under_way = put_all more (put_delivery delivery under_way)

-- the packets under way with one that is heard at a moment by all that hear it
abbrev pub spread_to : (ℕ → Option ℕ) → ℕ → Host → ℕ → Dest → List ℕ → LinkState → List Delivery
spread_to address_of moment from sender to bytes link =
    put_all (map (delivery_to moment from bytes) (hearers address_of link.parted sender to)) link.under_way

-- A packet that is sent: one that is to be lost is lost for all; any other is under way to each daemon that hears it. (No daemon sends one of more bytes than a packet
-- may have; it would be under way to none.)
abbrev pub with_packet : (ℕ → Option ℕ) → ℕ → ℕ → Sent → LinkState → LinkState
with_packet address_of now sender sent link =
    if nat_lt 0 link.losses then record link { losses = link.losses - 1 }
    else if nat_le (length (written sent.message)) most_bytes
    then record link { under_way = spread_to address_of (now + link.delay) (host_of address_of sender) sender sent.to (written sent.message) link }
    else link

-- the packets of an entry, in their order
abbrev pub with_packets : (ℕ → Option ℕ) → ℕ → ℕ → List Sent → LinkState → LinkState
with_packets address_of now sender [] link = link
with_packets address_of now sender (sent ∷ more) link = with_packets address_of now sender more (with_packet address_of now sender sent link)
