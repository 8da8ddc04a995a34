-- Packets that reach one daemon after another.
use Rattle.std.proofs.Common.{◌≡◌, ℕ, zero, suc, ◌+◌, ◌-◌, ◌<◌, Bool, true, false, cond, not, ◌&&◌, ◌==◌, List, [], ◌∷◌, length, get_or, drop, map, filter, Option, Some, None, refl, ap, sym, ◌∙◌, arith}
use Rattle.std.specs.Option.{is_some, option_map, option_map_or}
use Rattle.lists.specs.Lists.{count_up}
use Rattle.mdns_hub.specs.declared.delivery.Delivery.{Delivery}
use Rattle.mdns_hub.specs.declared.delivery.Parted.{Parted}
use Rattle.mdns_hub.specs.declared.link.Packet.{Packet}
use Rattle.mdns_hub.specs.declared.daemons.Booted.{Booted}
use Rattle.mdns_history.specs.declared.entry.Sent.{Sent}
use Rattle.mdns_hub.specs.Links.{LinkState, with_packet, with_packets, hears_from, is_for, are_parted, delivery_to, put_where, put_all}
use Rattle.mdns_hub.specs.Slots.{slot_at, is_kept, address_at}

-- the delivery of a packet to a daemon
abbrev pub to_daemon : Packet → ℕ → Delivery
to_daemon packet daemon = delivery_to packet.moment packet.from packet.bytes daemon

-- the packets under way with one that reaches each daemon from a number on
abbrev pub left_to_hear : (ℕ → Option ℕ) → List Parted → Packet → ℕ → List Delivery → List Delivery
left_to_hear address_of parted packet number under_way =
    put_all (map (to_daemon packet) (filter (hears_from address_of parted packet.sender packet.to) (count_up number (17 - number)))) under_way

count_next : (number : ℕ) → number < 17 → count_up number (17 - number) ≡ number ∷ count_up (number + 1) (17 - (number + 1))
count_next number l = ap (count_up number) more
  where
    more : 17 - number ≡ suc (17 - (number + 1))
    more = omega (arith, l)

put_first : (p : ℕ → Bool) (f : ℕ → Delivery) (number : ℕ) (rest : List ℕ) (ds : List Delivery) → put_all (map f (filter p (number ∷ rest))) ds ≡ put_all (map f (filter p rest)) (put_where (p number) (f number) ds)
put_first p f number rest ds = of (p number)
  where
    of : (b : Bool) → put_all (map f (cond b (number ∷ filter p rest) (filter p rest))) ds ≡ put_all (map f (filter p rest)) (put_where b (f number) ds)
    of true = refl
    of false = refl

-- one more daemon is reached
pub next_hears : (address_of : ℕ → Option ℕ) (parted : List Parted) (packet : Packet) (number : ℕ) (ds : List Delivery) → number < 17
    → left_to_hear address_of parted packet (number + 1) (put_where (hears_from address_of parted packet.sender packet.to number) (to_daemon packet number) ds)
    ≡ left_to_hear address_of parted packet number ds
next_hears address_of parted packet number ds l =
    sym (put_first (hears_from address_of parted packet.sender packet.to) (to_daemon packet) number (count_up (number + 1) (17 - (number + 1))) ds)
    ∙ ap (λ (numbers : List ℕ). put_all (map (to_daemon packet) (filter (hears_from address_of parted packet.sender packet.to) numbers)) ds) (sym (count_next number l))

-- who hears a packet is kept
pub hears_kept : (slots : List (Option Booted)) (parted : List Parted) (packet : Packet) (daemon : ℕ) → hears_from (address_at slots) parted packet.sender packet.to daemon ≡ true → is_kept slots daemon ≡ true
hears_kept slots parted packet daemon h = of (slot_at slots daemon) h
  where
    of : (slot : Option Booted)
        → (option_map_or (is_for packet.to) (option_map (λ booted. booted.address) slot) false && not (daemon == packet.sender) && not (are_parted parted packet.sender daemon)) ≡ true
        → is_some slot ≡ true
    of None k = cc
    of (Some booted) k = refl

sent_more : (address_of : ℕ → Option ℕ) (now sender : ℕ) (sents : List Sent) (i : ℕ) (sent : Sent) (link : LinkState) → i < length sents → sent ≡ get_or sents i sent
    → with_packets address_of now sender (drop (suc i) sents) (with_packet address_of now sender sent link) ≡ with_packets address_of now sender (drop i sents) link
sent_more address_of now sender [] i sent link l e = absurd (omega (arith, l))
sent_more address_of now sender (first ∷ sents) zero sent link l e = ap (λ (s : Sent). with_packets address_of now sender sents (with_packet address_of now sender s link)) e
sent_more address_of now sender (first ∷ sents) (suc i) sent link l e = sent_more address_of now sender sents i sent link (omega (arith, l)) e

-- one more packet is sent
pub sent_next : (address_of : ℕ → Option ℕ) (now sender : ℕ) (sents : List Sent) (i j : ℕ) (sent : Sent) (link : LinkState) → j ≡ suc i → i < length sents → sent ≡ get_or sents i sent
    → with_packets address_of now sender (drop j sents) (with_packet address_of now sender sent link) ≡ with_packets address_of now sender (drop i sents) link
sent_next address_of now sender sents i j sent link e l is =
    ap (λ (n : ℕ). with_packets address_of now sender (drop n sents) (with_packet address_of now sender sent link)) e ∙ sent_more address_of now sender sents i sent link l is
