-- Worked rows: what is earned, and what isn't. (RFC 6762 8.1 and 9)
use Rattle.std.proofs.Common.{◌≡◌, ℕ, Bool, true, false, List, [], ◌∷◌, ◌++◌, Some, None, refl, codes}
use Rattle.std.specs.Fmt.{digits}
use Rattle.std.specs.List.{list_all}
use Rattle.mdns_base.specs.declared.host.Host.{Host}
use Rattle.dns_record.specs.declared.record.Rdata.TheVariants.{A, Ptr}
use Rattle.dns_record.specs.declared.record.Rr.{Rr}
use Rattle.dns_record.specs.Records.{any_kind}
use Rattle.dns_message.specs.declared.message.Message.{Message}
use Rattle.dns_message.specs.Packing.{query_with, bare_reply, reply_with}
use Rattle.mdns_history.specs.declared.config.HostConfig.{HostConfig}
use Rattle.mdns_history.specs.declared.event.Event.{Event}
use Rattle.mdns_history.specs.declared.event.Event.TheVariants as event
use Rattle.mdns_history.specs.declared.entry.Entry.{Entry}
use Rattle.mdns_history.specs.InForce.{all_duties}
use Rattle.mdns_history.specs.Groups.{host_group, unique_record, shared_record}
use Rattle.mdns_history.specs.Sureness.{sure_groups}
use Rattle.mdns_history.specs.Sending.{to_all, to_one, probe_message, taken_back}
use Rattle.mdns_history.specs.Fitting.{next_entry, boot_entry, bare_entry}
use Rattle.mdns_history.proofs.AllOpen.{all_open}
use Rattle.mdns_asserts.specs.Earned.{asserts_sure, is_unanswered, is_whole, takes_back_own}

-- a daemon with a host h, just booted, and the address of that host
abbrev host : HostConfig
host = record { label = codes "h"; v6 = None }

abbrev booted : List Entry
booted = boot_entry 0 0 (record { address = 0x0a000001; host = Some host }) ∷ []

abbrev address_of : List ℕ → Rr
address_of label = unique_record (label ∷ codes "local" ∷ []) 120 (A 0x0a000001)

abbrev announcement : Message
announcement = bare_reply (address_of (codes "h") ∷ [])

-- the history after an event, and after ticks at these moments
abbrev after : ℕ → Event → List Entry → List Entry
after moment event history = next_entry all_duties history moment 0 event ∷ history

abbrev ticked : List Entry → List ℕ → List Entry
ticked history [] = history
ticked history (moment ∷ moments) = ticked (after moment event.Tick history) moments

-- At the tick of the second probe and at that of the third it is too early for an announcement; a quarter of a second behind the third one it is earned.
row_second : asserts_sure (ticked booted (0 ∷ 250 ∷ [])) announcement ≡ false
unfolding all_open digits
row_second = refl

row_third : asserts_sure (ticked booted (0 ∷ 250 ∷ 500 ∷ [])) announcement ≡ false
unfolding all_open digits
row_third = refl

row_earned : asserts_sure (ticked booted (0 ∷ 250 ∷ 500 ∷ 750 ∷ [])) announcement ≡ true
unfolding all_open digits
row_earned = refl

-- an additional record of a group that isn't sure asserts, too
row_additional : asserts_sure (ticked booted (0 ∷ 250 ∷ [])) (reply_with [] (address_of (codes "h") ∷ [])) ≡ false
unfolding all_open digits
row_additional = refl

-- a shared record asserts nothing unique, but one that has the flush bit does
row_shared : asserts_sure booted (bare_reply (shared_record (codes "t" ∷ []) 4500 (Ptr (codes "h" ∷ [])) ∷ [])) ≡ true
unfolding all_open digits
row_shared = refl

row_flush : asserts_sure booted (bare_reply (unique_record (codes "t" ∷ []) 4500 (Ptr (codes "h" ∷ [])) ∷ [])) ≡ false
unfolding all_open digits
row_flush = refl

-- probes that aren't a quarter of a second apart don't count
abbrev probed : ℕ → List Entry → List Entry
probed moment history = record (bare_entry moment 0 event.Tick history) { sent = to_all (probe_message (host_group host) history) ∷ [] } ∷ history

row_hasty : asserts_sure (ticked (probed 449 (probed 249 (probed 0 booted))) (1000 ∷ [])) announcement ≡ false
unfolding all_open digits
row_hasty = refl

-- another host has an address record of the name
abbrev other : Host
other = record { ip = 0x0a000009; port = 5353 }

abbrev clash : Event
clash =
    event.Hear other
    (0 ∷ 0 ∷ 0x84 ∷ 0 ∷ 0 ∷ 0 ∷ 0 ∷ 1 ∷ 0 ∷ 0 ∷ 0 ∷ 0 ∷ 1 ∷ codes "h" ++ 5 ∷ codes "local" ++ 0 ∷ 0 ∷ 1 ∷ 0x80 ∷ 1 ∷ 0 ∷ 0 ∷ 0 ∷ 120 ∷ 0 ∷ 4 ∷ 10 ∷ 0 ∷ 0 ∷ 9 ∷ [])

abbrev are_unanswered : List Entry → Bool
are_unanswered history = list_all (λ group. is_unanswered group history) (sure_groups history)

-- a daemon that passes over such a clash between its probes, or once it is sure, isn't unanswered
row_passed_over : are_unanswered (ticked (bare_entry 300 0 clash (ticked booted (0 ∷ 250 ∷ [])) ∷ ticked booted (0 ∷ 250 ∷ [])) (500 ∷ 750 ∷ [])) ≡ false
unfolding all_open digits
row_passed_over = refl

row_passed_over_later : are_unanswered (bare_entry 800 0 clash (ticked booted (0 ∷ 250 ∷ 500 ∷ 750 ∷ [])) ∷ ticked booted (0 ∷ 250 ∷ 500 ∷ 750 ∷ [])) ≡ false
unfolding all_open digits
row_passed_over_later = refl

-- one that gives way to it asserts its new name once it is sure of that, and no longer the old one
abbrev renamed : List Entry
renamed = ticked (after 300 clash (ticked booted (0 ∷ 250 ∷ []))) (300 ∷ 550 ∷ 800 ∷ 1050 ∷ [])

row_renamed : asserts_sure renamed (bare_reply (address_of (codes "h-2") ∷ [])) ≡ true
unfolding all_open digits
row_renamed = refl

row_old_name : asserts_sure renamed announcement ≡ false
unfolding all_open digits
row_old_name = refl

-- what isn't own isn't taken back
row_goodbye : takes_back_own (ticked booted (0 ∷ [])) (bare_reply (taken_back (address_of (codes "h")) ∷ [])) ≡ false
unfolding all_open digits
row_goodbye = refl

-- a probe goes to all, and lists what it claims
abbrev h_name : List (List ℕ)
h_name = codes "h" ∷ codes "local" ∷ []

row_whole : is_whole h_name booted (to_all (probe_message (host_group host) booted)) ≡ true
unfolding all_open digits
row_whole = refl

row_to_one : is_whole h_name booted (to_one other (probe_message (host_group host) booted)) ≡ false
unfolding all_open digits
row_to_one = refl

row_bare : is_whole h_name booted (to_all (query_with (record { name = h_name; kind = any_kind; unicast = true } ∷ []) [] false)) ≡ false
unfolding all_open digits
row_bare = refl
