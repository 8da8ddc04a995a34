-- Whole transcripts.
use Rattle.mdns_history.proofs.AllOpen.{all_open}
use Rattle.std.proofs.Common.{◌≡◌, ℕ, List, [], ◌∷◌, ◌++◌, refl, codes, false}
use Rattle.std.specs.Fmt.{digits}
use Rattle.sd_call.specs.declared.request.Request.TheVariants as request
use Rattle.mdns_history.specs.declared.event.Event.TheVariants as event
use Rattle.mdns_history.specs.EntryText.{line, history_text}
use Rattle.mdns_history.proofs.Played.{Step, at, played, booted, plain_config, host_config, query_a, hears, ticks}

abbrev pub query_transcript : List ℕ
query_transcript =
    line (codes "@0 d1 w0 boot 10.0.0.1")
    ++ line (codes "@0 d1 w0 open")
    ++ line (codes " = opened 1")
    ++ line (codes "@0 d1 w0 call 1 1 query A a.local.")
    ++ line (codes " < 1 reply 1 start 0")
    ++ line (codes " = code 0")
    ++ line (codes "@20 d1 w0 tick")
    ++ line (codes " ! asked a.local. A series")
    ++ line (codes " > all query 0")
    ++ line (codes "  ? a.local. A")
    ++ line (codes "@1000 d1 w0 hear 10.0.0.9 5353 0000840000000001000000000161056c6f63616c0000018001000000020004c0000201")
    ++ line (codes " < 1 add 1 A 192.0.2.1")
    ++ line (codes "@1020 d1 w0 tick")
    ++ line (codes " ! asked a.local. A series")
    ++ line (codes " > all query 0")
    ++ line (codes "  ? a.local. A")
    ++ line (codes "  a a.local. 2 - A 192.0.2.1")
    ++ line (codes "@2600 d1 w0 tick")
    ++ line (codes " ! asked a.local. A refresh")
    ++ line (codes " > all query 0")
    ++ line (codes "  ? a.local. A")
    ++ line (codes "@2700 d1 w0 tick")
    ++ line (codes " ! asked a.local. A refresh")
    ++ line (codes " > all query 0")
    ++ line (codes "  ? a.local. A")
    ++ line (codes "@2800 d1 w0 tick")
    ++ line (codes " ! asked a.local. A refresh")
    ++ line (codes " > all query 0")
    ++ line (codes "  ? a.local. A")
    ++ line (codes "@2900 d1 w0 tick")
    ++ line (codes " ! asked a.local. A refresh")
    ++ line (codes " > all query 0")
    ++ line (codes "  ? a.local. A")
    ++ line (codes "@3000 d1 w0 tick")
    ++ line (codes " < 1 rem 1 A 192.0.2.1")

-- a query, an answer that lives two seconds, its refreshes and its end
row_query : history_text 1 (played (booted plain_config) (query_a ++ ticks 20 ∷ hears 1000 0x80 2 1 ∷ ticks 1020 ∷ ticks 2600 ∷ ticks 2700 ∷ ticks 2800 ∷ ticks 2900 ∷ ticks 3000 ∷ [])) ≡ query_transcript
unfolding all_open digits
row_query = refl

abbrev pub register_transcript : List ℕ
register_transcript =
    line (codes "@0 d1 w0 boot 10.0.0.1 h")
    ++ line (codes "@0 d1 w0 open")
    ++ line (codes " = opened 1")
    ++ line (codes "@0 d1 w0 call 1 1 register Printer _ipp._tcp 631 auto -")
    ++ line (codes " < 1 reply 1 start 0")
    ++ line (codes " = code 0")
    ++ line (codes "@0 d1 w0 tick")
    ++ line (codes " > all query 0")
    ++ line (codes "  ? h.local. ANY qu")
    ++ line (codes "  n h.local. 120 - A 10.0.0.1")
    ++ line (codes " > all query 0")
    ++ line (codes "  ? Printer._ipp._tcp.local. ANY qu")
    ++ line (codes "  n Printer._ipp._tcp.local. 4500 - TXT 00")
    ++ line (codes "  n Printer._ipp._tcp.local. 120 - SRV 0 0 631 h.local.")
    ++ line (codes "@250 d1 w0 tick")
    ++ line (codes " > all query 0")
    ++ line (codes "  ? h.local. ANY qu")
    ++ line (codes "  n h.local. 120 - A 10.0.0.1")
    ++ line (codes " > all query 0")
    ++ line (codes "  ? Printer._ipp._tcp.local. ANY qu")
    ++ line (codes "  n Printer._ipp._tcp.local. 4500 - TXT 00")
    ++ line (codes "  n Printer._ipp._tcp.local. 120 - SRV 0 0 631 h.local.")
    ++ line (codes "@500 d1 w0 tick")
    ++ line (codes " > all query 0")
    ++ line (codes "  ? h.local. ANY qu")
    ++ line (codes "  n h.local. 120 - A 10.0.0.1")
    ++ line (codes " > all query 0")
    ++ line (codes "  ? Printer._ipp._tcp.local. ANY qu")
    ++ line (codes "  n Printer._ipp._tcp.local. 4500 - TXT 00")
    ++ line (codes "  n Printer._ipp._tcp.local. 120 - SRV 0 0 631 h.local.")
    ++ line (codes "@750 d1 w0 tick")
    ++ line (codes " ! announced 0")
    ++ line (codes " ! announced 1")
    ++ line (codes " > all reply 0")
    ++ line (codes "  a h.local. 120 flush A 10.0.0.1")
    ++ line (codes "  a _ipp._tcp.local. 4500 - PTR Printer._ipp._tcp.local.")
    ++ line (codes "  a Printer._ipp._tcp.local. 4500 flush TXT 00")
    ++ line (codes "  a Printer._ipp._tcp.local. 120 flush SRV 0 0 631 h.local.")
    ++ line (codes "  a _services._dns-sd._udp.local. 4500 - PTR _ipp._tcp.local.")
    ++ line (codes " < 1 add 1 named Printer._ipp._tcp.local.")
    ++ line (codes "@1750 d1 w0 tick")
    ++ line (codes " ! announced 0")
    ++ line (codes " ! announced 1")
    ++ line (codes " > all reply 0")
    ++ line (codes "  a h.local. 120 flush A 10.0.0.1")
    ++ line (codes "  a _ipp._tcp.local. 4500 - PTR Printer._ipp._tcp.local.")
    ++ line (codes "  a Printer._ipp._tcp.local. 4500 flush TXT 00")
    ++ line (codes "  a Printer._ipp._tcp.local. 120 flush SRV 0 0 631 h.local.")
    ++ line (codes "  a _services._dns-sd._udp.local. 4500 - PTR _ipp._tcp.local.")

abbrev pub register_printer : List Step
register_printer = at 0 event.Attach ∷ at 0 (event.Call 1 1 (request.Register (codes "Printer") (codes "_ipp._tcp") 631 false [])) ∷ []

abbrev run_text : List ℕ
run_text = history_text 1 (played (booted host_config) (register_printer ++ ticks 0 ∷ ticks 250 ∷ ticks 500 ∷ ticks 750 ∷ ticks 1750 ∷ []))

-- a registration: probes, and two announcements
row_register : run_text ≡ register_transcript
unfolding all_open digits
row_register = refl
