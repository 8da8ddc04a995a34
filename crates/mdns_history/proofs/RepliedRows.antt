-- Worked rows: what is replied to queries.
use Rattle.std.proofs.Common.{◌≡◌, ℕ, List, [], ◌∷◌, ◌++◌, refl, codes, false}
use Rattle.std.specs.Fmt.{digits}
use Rattle.mdns_history.proofs.AllOpen.{all_open}
use Rattle.sd_call.specs.declared.request.Request.TheVariants as request
use Rattle.mdns_history.specs.declared.entry.Entry.{Entry}
use Rattle.mdns_history.specs.declared.event.Event.TheVariants as event
use Rattle.mdns_history.specs.EntryText.{line}
use Rattle.mdns_history.proofs.Played.{at, played, booted, host_config, from_host, notes}

-- a host probes for its name and announces it
abbrev host_stands : List ℕ
host_stands =
    line (codes "0")
    ++ line (codes " > all query 0")
    ++ line (codes "  ? h.local. ANY qu")
    ++ line (codes "  n h.local. 120 - A 10.0.0.1")
    ++ line (codes "250")
    ++ line (codes " > all query 0")
    ++ line (codes "  ? h.local. ANY qu")
    ++ line (codes "  n h.local. 120 - A 10.0.0.1")
    ++ line (codes "500")
    ++ line (codes " > all query 0")
    ++ line (codes "  ? h.local. ANY qu")
    ++ line (codes "  n h.local. 120 - A 10.0.0.1")
    ++ line (codes "750")
    ++ line (codes " ! announced 0")
    ++ line (codes " > all reply 0")
    ++ line (codes "  a h.local. 120 flush A 10.0.0.1")
    ++ line (codes "1750")
    ++ line (codes " ! announced 0")
    ++ line (codes " > all reply 0")
    ++ line (codes "  a h.local. 120 flush A 10.0.0.1")

-- the same with a service
abbrev printer_stands : List ℕ
printer_stands =
    line (codes "0")
    ++ line (codes " = opened 1")
    ++ line (codes "0")
    ++ line (codes " < 1 reply 1 start 0")
    ++ line (codes " = code 0")
    ++ line (codes "0")
    ++ line (codes " > all query 0")
    ++ line (codes "  ? h.local. ANY qu")
    ++ line (codes "  n h.local. 120 - A 10.0.0.1")
    ++ line (codes " > all query 0")
    ++ line (codes "  ? Printer._ipp._tcp.local. ANY qu")
    ++ line (codes "  n Printer._ipp._tcp.local. 4500 - TXT 00")
    ++ line (codes "  n Printer._ipp._tcp.local. 120 - SRV 0 0 631 h.local.")
    ++ line (codes "250")
    ++ line (codes " > all query 0")
    ++ line (codes "  ? h.local. ANY qu")
    ++ line (codes "  n h.local. 120 - A 10.0.0.1")
    ++ line (codes " > all query 0")
    ++ line (codes "  ? Printer._ipp._tcp.local. ANY qu")
    ++ line (codes "  n Printer._ipp._tcp.local. 4500 - TXT 00")
    ++ line (codes "  n Printer._ipp._tcp.local. 120 - SRV 0 0 631 h.local.")
    ++ line (codes "500")
    ++ line (codes " > all query 0")
    ++ line (codes "  ? h.local. ANY qu")
    ++ line (codes "  n h.local. 120 - A 10.0.0.1")
    ++ line (codes " > all query 0")
    ++ line (codes "  ? Printer._ipp._tcp.local. ANY qu")
    ++ line (codes "  n Printer._ipp._tcp.local. 4500 - TXT 00")
    ++ line (codes "  n Printer._ipp._tcp.local. 120 - SRV 0 0 631 h.local.")
    ++ line (codes "750")
    ++ line (codes " ! announced 0")
    ++ line (codes " ! announced 1")
    ++ line (codes " > all reply 0")
    ++ line (codes "  a h.local. 120 flush A 10.0.0.1")
    ++ line (codes "  a _ipp._tcp.local. 4500 - PTR Printer._ipp._tcp.local.")
    ++ line (codes "  a Printer._ipp._tcp.local. 4500 flush TXT 00")
    ++ line (codes "  a Printer._ipp._tcp.local. 120 flush SRV 0 0 631 h.local.")
    ++ line (codes "  a _services._dns-sd._udp.local. 4500 - PTR _ipp._tcp.local.")
    ++ line (codes " < 1 add 1 named Printer._ipp._tcp.local.")
    ++ line (codes "1750")
    ++ line (codes " ! announced 0")
    ++ line (codes " ! announced 1")
    ++ line (codes " > all reply 0")
    ++ line (codes "  a h.local. 120 flush A 10.0.0.1")
    ++ line (codes "  a _ipp._tcp.local. 4500 - PTR Printer._ipp._tcp.local.")
    ++ line (codes "  a Printer._ipp._tcp.local. 4500 flush TXT 00")
    ++ line (codes "  a Printer._ipp._tcp.local. 120 flush SRV 0 0 631 h.local.")
    ++ line (codes "  a _services._dns-sd._udp.local. 4500 - PTR _ipp._tcp.local.")

abbrev run_known_half : List Entry
run_known_half = played (booted host_config) (at 0 event.Tick ∷ at 250 event.Tick ∷ at 500 event.Tick ∷ at 750 event.Tick ∷ at 1750 event.Tick ∷ at 5000 (event.Hear (from_host 167772169 5353) (0 ∷ 0 ∷ 0 ∷ 0 ∷ 0 ∷ 1 ∷ 0 ∷ 1 ∷ 0 ∷ 0 ∷ 0 ∷ 0 ∷ 1 ∷ 104 ∷ 5 ∷ 108 ∷ 111 ∷ 99 ∷ 97 ∷ 108 ∷ 0 ∷ 0 ∷ 1 ∷ 0 ∷ 1 ∷ 192 ∷ 12 ∷ 0 ∷ 1 ∷ 0 ∷ 1 ∷ 0 ∷ 0 ∷ 0 ∷ 60 ∷ 0 ∷ 4 ∷ 10 ∷ 0 ∷ 0 ∷ 1 ∷ [])) ∷ at 5000 event.Tick ∷ at 6000 event.Tick ∷ [])

-- a known answer with half its TTL silences
row_known_half : notes run_known_half ≡ host_stands
unfolding all_open digits
row_known_half = refl

abbrev run_known_less : List Entry
run_known_less = played (booted host_config) (at 0 event.Tick ∷ at 250 event.Tick ∷ at 500 event.Tick ∷ at 750 event.Tick ∷ at 1750 event.Tick ∷ at 5000 (event.Hear (from_host 167772169 5353) (0 ∷ 0 ∷ 0 ∷ 0 ∷ 0 ∷ 1 ∷ 0 ∷ 1 ∷ 0 ∷ 0 ∷ 0 ∷ 0 ∷ 1 ∷ 104 ∷ 5 ∷ 108 ∷ 111 ∷ 99 ∷ 97 ∷ 108 ∷ 0 ∷ 0 ∷ 1 ∷ 0 ∷ 1 ∷ 192 ∷ 12 ∷ 0 ∷ 1 ∷ 0 ∷ 1 ∷ 0 ∷ 0 ∷ 0 ∷ 59 ∷ 0 ∷ 4 ∷ 10 ∷ 0 ∷ 0 ∷ 1 ∷ [])) ∷ at 5000 event.Tick ∷ [])

-- one with less does not
row_known_less : notes run_known_less ≡
    host_stands
    ++ line (codes "5000")
    ++ line (codes " > all reply 0")
    ++ line (codes "  a h.local. 120 flush A 10.0.0.1")
unfolding all_open digits
row_known_less = refl

abbrev run_within_second : List Entry
run_within_second = played (booted host_config) (at 0 event.Tick ∷ at 250 event.Tick ∷ at 500 event.Tick ∷ at 750 event.Tick ∷ at 1750 event.Tick ∷ at 5000 (event.Hear (from_host 167772169 5353) (0 ∷ 0 ∷ 0 ∷ 0 ∷ 0 ∷ 1 ∷ 0 ∷ 0 ∷ 0 ∷ 0 ∷ 0 ∷ 0 ∷ 1 ∷ 104 ∷ 5 ∷ 108 ∷ 111 ∷ 99 ∷ 97 ∷ 108 ∷ 0 ∷ 0 ∷ 1 ∷ 0 ∷ 1 ∷ [])) ∷ at 5000 event.Tick ∷ at 5400 (event.Hear (from_host 167772169 5353) (0 ∷ 0 ∷ 0 ∷ 0 ∷ 0 ∷ 1 ∷ 0 ∷ 0 ∷ 0 ∷ 0 ∷ 0 ∷ 0 ∷ 1 ∷ 104 ∷ 5 ∷ 108 ∷ 111 ∷ 99 ∷ 97 ∷ 108 ∷ 0 ∷ 0 ∷ 1 ∷ 0 ∷ 1 ∷ [])) ∷ at 5999 event.Tick ∷ at 6000 event.Tick ∷ at 7000 event.Tick ∷ [])

-- a record is multicast once a second
row_within_second : notes run_within_second ≡
    host_stands
    ++ line (codes "5000")
    ++ line (codes " > all reply 0")
    ++ line (codes "  a h.local. 120 flush A 10.0.0.1")
    ++ line (codes "6000")
    ++ line (codes " > all reply 0")
    ++ line (codes "  a h.local. 120 flush A 10.0.0.1")
unfolding all_open digits
row_within_second = refl

abbrev run_defence : List Entry
run_defence = played (booted host_config) (at 0 event.Tick ∷ at 250 event.Tick ∷ at 500 event.Tick ∷ at 750 event.Tick ∷ at 1750 event.Tick ∷ at 5000 (event.Hear (from_host 167772169 5353) (0 ∷ 0 ∷ 0 ∷ 0 ∷ 0 ∷ 1 ∷ 0 ∷ 0 ∷ 0 ∷ 0 ∷ 0 ∷ 0 ∷ 1 ∷ 104 ∷ 5 ∷ 108 ∷ 111 ∷ 99 ∷ 97 ∷ 108 ∷ 0 ∷ 0 ∷ 1 ∷ 0 ∷ 1 ∷ [])) ∷ at 5000 event.Tick ∷ at 5100 (event.Hear (from_host 167772169 5353) (0 ∷ 0 ∷ 0 ∷ 0 ∷ 0 ∷ 1 ∷ 0 ∷ 0 ∷ 0 ∷ 1 ∷ 0 ∷ 0 ∷ 1 ∷ 104 ∷ 5 ∷ 108 ∷ 111 ∷ 99 ∷ 97 ∷ 108 ∷ 0 ∷ 0 ∷ 255 ∷ 0 ∷ 1 ∷ 192 ∷ 12 ∷ 0 ∷ 1 ∷ 0 ∷ 1 ∷ 0 ∷ 0 ∷ 0 ∷ 120 ∷ 0 ∷ 4 ∷ 10 ∷ 0 ∷ 0 ∷ 9 ∷ [])) ∷ at 5249 event.Tick ∷ at 5250 event.Tick ∷ at 7000 event.Tick ∷ [])

-- a probe is answered sooner
row_defence : notes run_defence ≡
    host_stands
    ++ line (codes "5000")
    ++ line (codes " > all reply 0")
    ++ line (codes "  a h.local. 120 flush A 10.0.0.1")
    ++ line (codes "5250")
    ++ line (codes " > all reply 0")
    ++ line (codes "  a h.local. 120 flush A 10.0.0.1")
unfolding all_open digits
row_defence = refl

abbrev run_unicast_reply : List Entry
run_unicast_reply = played (booted host_config) (at 0 event.Tick ∷ at 250 event.Tick ∷ at 500 event.Tick ∷ at 750 event.Tick ∷ at 1750 event.Tick ∷ at 5000 (event.Hear (from_host 167772169 5353) (0 ∷ 0 ∷ 0 ∷ 0 ∷ 0 ∷ 1 ∷ 0 ∷ 0 ∷ 0 ∷ 0 ∷ 0 ∷ 0 ∷ 1 ∷ 104 ∷ 5 ∷ 108 ∷ 111 ∷ 99 ∷ 97 ∷ 108 ∷ 0 ∷ 0 ∷ 1 ∷ 0 ∷ 1 ∷ [])) ∷ at 5000 event.Tick ∷ at 5100 (event.Hear (from_host 167772169 5353) (0 ∷ 0 ∷ 0 ∷ 0 ∷ 0 ∷ 1 ∷ 0 ∷ 0 ∷ 0 ∷ 1 ∷ 0 ∷ 0 ∷ 1 ∷ 104 ∷ 5 ∷ 108 ∷ 111 ∷ 99 ∷ 97 ∷ 108 ∷ 0 ∷ 0 ∷ 255 ∷ 128 ∷ 1 ∷ 192 ∷ 12 ∷ 0 ∷ 1 ∷ 0 ∷ 1 ∷ 0 ∷ 0 ∷ 0 ∷ 120 ∷ 0 ∷ 4 ∷ 10 ∷ 0 ∷ 0 ∷ 9 ∷ [])) ∷ at 5100 event.Tick ∷ at 7000 event.Tick ∷ [])

-- a question for a unicast reply of a record that was multicast lately
row_unicast_reply : notes run_unicast_reply ≡
    host_stands
    ++ line (codes "5000")
    ++ line (codes " > all reply 0")
    ++ line (codes "  a h.local. 120 flush A 10.0.0.1")
    ++ line (codes "5100")
    ++ line (codes " > 10.0.0.9 5353 reply 0")
    ++ line (codes "  a h.local. 120 flush A 10.0.0.1")
unfolding all_open digits
row_unicast_reply = refl

abbrev run_legacy : List Entry
run_legacy = played (booted host_config) (at 0 event.Tick ∷ at 250 event.Tick ∷ at 500 event.Tick ∷ at 750 event.Tick ∷ at 1750 event.Tick ∷ at 5000 (event.Hear (from_host 167772169 49152) (0 ∷ 7 ∷ 1 ∷ 0 ∷ 0 ∷ 1 ∷ 0 ∷ 0 ∷ 0 ∷ 0 ∷ 0 ∷ 0 ∷ 1 ∷ 104 ∷ 5 ∷ 108 ∷ 111 ∷ 99 ∷ 97 ∷ 108 ∷ 0 ∷ 0 ∷ 1 ∷ 0 ∷ 1 ∷ [])) ∷ at 5000 event.Tick ∷ at 6000 event.Tick ∷ [])

-- a query from another port
row_legacy : notes run_legacy ≡
    host_stands
    ++ line (codes "5000")
    ++ line (codes " > 10.0.0.9 49152 reply 7")
    ++ line (codes "  ? h.local. A")
    ++ line (codes "  a h.local. 10 - A 10.0.0.1")
unfolding all_open digits
row_legacy = refl

abbrev run_browsed : List Entry
run_browsed = played (booted host_config) (at 0 event.Attach ∷ at 0 (event.Call 1 1 (request.Register (codes "Printer") (codes "_ipp._tcp") 631 false [])) ∷ at 0 event.Tick ∷ at 250 event.Tick ∷ at 500 event.Tick ∷ at 750 event.Tick ∷ at 1750 event.Tick ∷ at 5000 (event.Hear (from_host 167772169 5353) (0 ∷ 0 ∷ 0 ∷ 0 ∷ 0 ∷ 1 ∷ 0 ∷ 0 ∷ 0 ∷ 0 ∷ 0 ∷ 0 ∷ 4 ∷ 95 ∷ 105 ∷ 112 ∷ 112 ∷ 4 ∷ 95 ∷ 116 ∷ 99 ∷ 112 ∷ 5 ∷ 108 ∷ 111 ∷ 99 ∷ 97 ∷ 108 ∷ 0 ∷ 0 ∷ 12 ∷ 0 ∷ 1 ∷ [])) ∷ at 5000 event.Tick ∷ at 5019 event.Tick ∷ at 5020 event.Tick ∷ [])

-- a shared record is answered later, with what it wants
row_browsed : notes run_browsed ≡
    printer_stands
    ++ line (codes "5020")
    ++ line (codes " > all reply 0")
    ++ line (codes "  a _ipp._tcp.local. 4500 - PTR Printer._ipp._tcp.local.")
    ++ line (codes "  x h.local. 120 flush A 10.0.0.1")
    ++ line (codes "  x Printer._ipp._tcp.local. 4500 flush TXT 00")
    ++ line (codes "  x Printer._ipp._tcp.local. 120 flush SRV 0 0 631 h.local.")
unfolding all_open digits
row_browsed = refl

abbrev run_nsec : List Entry
run_nsec = played (booted host_config) (at 0 event.Tick ∷ at 250 event.Tick ∷ at 500 event.Tick ∷ at 750 event.Tick ∷ at 1750 event.Tick ∷ at 5000 (event.Hear (from_host 167772169 5353) (0 ∷ 0 ∷ 0 ∷ 0 ∷ 0 ∷ 1 ∷ 0 ∷ 0 ∷ 0 ∷ 0 ∷ 0 ∷ 0 ∷ 1 ∷ 104 ∷ 5 ∷ 108 ∷ 111 ∷ 99 ∷ 97 ∷ 108 ∷ 0 ∷ 0 ∷ 28 ∷ 0 ∷ 1 ∷ [])) ∷ at 5000 event.Tick ∷ [])

-- a type that a name lacks
row_nsec : notes run_nsec ≡
    host_stands
    ++ line (codes "5000")
    ++ line (codes " > all reply 0")
    ++ line (codes "  a h.local. 120 flush NSEC h.local. 000140")
unfolding all_open digits
row_nsec = refl

abbrev run_follow_up : List Entry
run_follow_up = played (booted host_config) (at 0 event.Attach ∷ at 0 (event.Call 1 1 (request.Register (codes "Printer") (codes "_ipp._tcp") 631 false [])) ∷ at 0 event.Tick ∷ at 250 event.Tick ∷ at 500 event.Tick ∷ at 750 event.Tick ∷ at 1750 event.Tick ∷ at 5000 (event.Hear (from_host 167772169 5353) (0 ∷ 0 ∷ 2 ∷ 0 ∷ 0 ∷ 1 ∷ 0 ∷ 0 ∷ 0 ∷ 0 ∷ 0 ∷ 0 ∷ 4 ∷ 95 ∷ 105 ∷ 112 ∷ 112 ∷ 4 ∷ 95 ∷ 116 ∷ 99 ∷ 112 ∷ 5 ∷ 108 ∷ 111 ∷ 99 ∷ 97 ∷ 108 ∷ 0 ∷ 0 ∷ 12 ∷ 0 ∷ 1 ∷ [])) ∷ at 5100 (event.Hear (from_host 167772169 5353) (0 ∷ 0 ∷ 0 ∷ 0 ∷ 0 ∷ 0 ∷ 0 ∷ 1 ∷ 0 ∷ 0 ∷ 0 ∷ 0 ∷ 4 ∷ 95 ∷ 105 ∷ 112 ∷ 112 ∷ 4 ∷ 95 ∷ 116 ∷ 99 ∷ 112 ∷ 5 ∷ 108 ∷ 111 ∷ 99 ∷ 97 ∷ 108 ∷ 0 ∷ 0 ∷ 12 ∷ 0 ∷ 1 ∷ 0 ∷ 0 ∷ 17 ∷ 148 ∷ 0 ∷ 10 ∷ 7 ∷ 80 ∷ 114 ∷ 105 ∷ 110 ∷ 116 ∷ 101 ∷ 114 ∷ 192 ∷ 12 ∷ [])) ∷ at 5400 event.Tick ∷ at 5500 event.Tick ∷ [])

-- known answers that follow strike
row_follow_up : notes run_follow_up ≡ printer_stands
unfolding all_open digits
row_follow_up = refl

abbrev run_follow_up_late : List Entry
run_follow_up_late = played (booted host_config) (at 0 event.Attach ∷ at 0 (event.Call 1 1 (request.Register (codes "Printer") (codes "_ipp._tcp") 631 false [])) ∷ at 0 event.Tick ∷ at 250 event.Tick ∷ at 500 event.Tick ∷ at 750 event.Tick ∷ at 1750 event.Tick ∷ at 5000 (event.Hear (from_host 167772169 5353) (0 ∷ 0 ∷ 2 ∷ 0 ∷ 0 ∷ 1 ∷ 0 ∷ 0 ∷ 0 ∷ 0 ∷ 0 ∷ 0 ∷ 4 ∷ 95 ∷ 105 ∷ 112 ∷ 112 ∷ 4 ∷ 95 ∷ 116 ∷ 99 ∷ 112 ∷ 5 ∷ 108 ∷ 111 ∷ 99 ∷ 97 ∷ 108 ∷ 0 ∷ 0 ∷ 12 ∷ 0 ∷ 1 ∷ [])) ∷ at 5399 event.Tick ∷ at 5400 event.Tick ∷ [])

-- without them the answer comes after four tenths of a second
row_follow_up_late : notes run_follow_up_late ≡
    printer_stands
    ++ line (codes "5400")
    ++ line (codes " > all reply 0")
    ++ line (codes "  a _ipp._tcp.local. 4500 - PTR Printer._ipp._tcp.local.")
    ++ line (codes "  x h.local. 120 flush A 10.0.0.1")
    ++ line (codes "  x Printer._ipp._tcp.local. 4500 flush TXT 00")
    ++ line (codes "  x Printer._ipp._tcp.local. 120 flush SRV 0 0 631 h.local.")
unfolding all_open digits
row_follow_up_late = refl
