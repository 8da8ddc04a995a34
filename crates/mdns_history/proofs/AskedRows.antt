-- Worked rows: when questions are asked.
use Rattle.std.proofs.Common.{◌≡◌, List, [], ◌∷◌, ◌++◌, refl, codes}
use Rattle.std.specs.Fmt.{digits}
use Rattle.mdns_history.proofs.AllOpen.{all_open}
use Rattle.sd_call.specs.declared.request.Request.TheVariants as request
use Rattle.mdns_history.specs.declared.entry.Entry.{Entry}
use Rattle.mdns_history.specs.declared.event.Event.TheVariants as event
use Rattle.mdns_history.specs.EntryText.{line}
use Rattle.mdns_history.proofs.Played.{at, played, booted, plain_config, from_host, notes}

abbrev run_browse : List Entry
run_browse = played (booted plain_config) (at 0 event.Attach ∷ at 0 (event.Call 1 1 (request.Browse (codes "_ipp._tcp"))) ∷ at 20 event.Tick ∷ at 1020 event.Tick ∷ at 3020 event.Tick ∷ at 7020 event.Tick ∷ at 15020 event.Tick ∷ at 31020 event.Tick ∷ at 63020 event.Tick ∷ at 127020 event.Tick ∷ at 255020 event.Tick ∷ at 511020 event.Tick ∷ at 1023020 event.Tick ∷ at 2047020 event.Tick ∷ at 4095020 event.Tick ∷ at 7695019 event.Tick ∷ at 7695020 event.Tick ∷ [])

-- a series slows down to an hour
row_browse : notes run_browse ≡
    line (codes "0")
    ++ line (codes " = opened 1")
    ++ line (codes "0")
    ++ line (codes " < 1 reply 1 start 0")
    ++ line (codes " = code 0")
    ++ line (codes "20")
    ++ line (codes " ! asked _ipp._tcp.local. PTR series")
    ++ line (codes " > all query 0")
    ++ line (codes "  ? _ipp._tcp.local. PTR")
    ++ line (codes "1020")
    ++ line (codes " ! asked _ipp._tcp.local. PTR series")
    ++ line (codes " > all query 0")
    ++ line (codes "  ? _ipp._tcp.local. PTR")
    ++ line (codes "3020")
    ++ line (codes " ! asked _ipp._tcp.local. PTR series")
    ++ line (codes " > all query 0")
    ++ line (codes "  ? _ipp._tcp.local. PTR")
    ++ line (codes "7020")
    ++ line (codes " ! asked _ipp._tcp.local. PTR series")
    ++ line (codes " > all query 0")
    ++ line (codes "  ? _ipp._tcp.local. PTR")
    ++ line (codes "15020")
    ++ line (codes " ! asked _ipp._tcp.local. PTR series")
    ++ line (codes " > all query 0")
    ++ line (codes "  ? _ipp._tcp.local. PTR")
    ++ line (codes "31020")
    ++ line (codes " ! asked _ipp._tcp.local. PTR series")
    ++ line (codes " > all query 0")
    ++ line (codes "  ? _ipp._tcp.local. PTR")
    ++ line (codes "63020")
    ++ line (codes " ! asked _ipp._tcp.local. PTR series")
    ++ line (codes " > all query 0")
    ++ line (codes "  ? _ipp._tcp.local. PTR")
    ++ line (codes "127020")
    ++ line (codes " ! asked _ipp._tcp.local. PTR series")
    ++ line (codes " > all query 0")
    ++ line (codes "  ? _ipp._tcp.local. PTR")
    ++ line (codes "255020")
    ++ line (codes " ! asked _ipp._tcp.local. PTR series")
    ++ line (codes " > all query 0")
    ++ line (codes "  ? _ipp._tcp.local. PTR")
    ++ line (codes "511020")
    ++ line (codes " ! asked _ipp._tcp.local. PTR series")
    ++ line (codes " > all query 0")
    ++ line (codes "  ? _ipp._tcp.local. PTR")
    ++ line (codes "1023020")
    ++ line (codes " ! asked _ipp._tcp.local. PTR series")
    ++ line (codes " > all query 0")
    ++ line (codes "  ? _ipp._tcp.local. PTR")
    ++ line (codes "2047020")
    ++ line (codes " ! asked _ipp._tcp.local. PTR series")
    ++ line (codes " > all query 0")
    ++ line (codes "  ? _ipp._tcp.local. PTR")
    ++ line (codes "4095020")
    ++ line (codes " ! asked _ipp._tcp.local. PTR series")
    ++ line (codes " > all query 0")
    ++ line (codes "  ? _ipp._tcp.local. PTR")
    ++ line (codes "7695020")
    ++ line (codes " ! asked _ipp._tcp.local. PTR series")
    ++ line (codes " > all query 0")
    ++ line (codes "  ? _ipp._tcp.local. PTR")
unfolding all_open digits
row_browse = refl

abbrev run_refresh : List Entry
run_refresh = played (booted plain_config) (at 0 event.Attach ∷ at 0 (event.Call 1 1 (request.Query 1 (codes "a" ∷ codes "local" ∷ []))) ∷ at 20 event.Tick ∷ at 1000 (event.Hear (from_host 167772169 5353) (0 ∷ 0 ∷ 132 ∷ 0 ∷ 0 ∷ 0 ∷ 0 ∷ 1 ∷ 0 ∷ 0 ∷ 0 ∷ 0 ∷ 1 ∷ 97 ∷ 5 ∷ 108 ∷ 111 ∷ 99 ∷ 97 ∷ 108 ∷ 0 ∷ 0 ∷ 1 ∷ 128 ∷ 1 ∷ 0 ∷ 0 ∷ 0 ∷ 120 ∷ 0 ∷ 4 ∷ 192 ∷ 0 ∷ 2 ∷ 1 ∷ [])) ∷ at 1020 event.Tick ∷ at 3020 event.Tick ∷ at 7020 event.Tick ∷ at 15020 event.Tick ∷ at 31020 event.Tick ∷ at 63020 event.Tick ∷ at 96999 event.Tick ∷ at 97000 event.Tick ∷ at 103000 event.Tick ∷ at 109000 event.Tick ∷ at 115000 event.Tick ∷ at 121000 event.Tick ∷ [])

-- refreshes of an answer
row_refresh : notes run_refresh ≡
    line (codes "0")
    ++ line (codes " = opened 1")
    ++ line (codes "0")
    ++ line (codes " < 1 reply 1 start 0")
    ++ line (codes " = code 0")
    ++ line (codes "20")
    ++ line (codes " ! asked a.local. A series")
    ++ line (codes " > all query 0")
    ++ line (codes "  ? a.local. A")
    ++ line (codes "1000")
    ++ line (codes " < 1 add 1 A 192.0.2.1")
    ++ line (codes "1020")
    ++ line (codes " ! asked a.local. A series")
    ++ line (codes " > all query 0")
    ++ line (codes "  ? a.local. A")
    ++ line (codes "  a a.local. 120 - A 192.0.2.1")
    ++ line (codes "3020")
    ++ line (codes " ! asked a.local. A series")
    ++ line (codes " > all query 0")
    ++ line (codes "  ? a.local. A")
    ++ line (codes "  a a.local. 118 - A 192.0.2.1")
    ++ line (codes "7020")
    ++ line (codes " ! asked a.local. A series")
    ++ line (codes " > all query 0")
    ++ line (codes "  ? a.local. A")
    ++ line (codes "  a a.local. 114 - A 192.0.2.1")
    ++ line (codes "15020")
    ++ line (codes " ! asked a.local. A series")
    ++ line (codes " > all query 0")
    ++ line (codes "  ? a.local. A")
    ++ line (codes "  a a.local. 106 - A 192.0.2.1")
    ++ line (codes "31020")
    ++ line (codes " ! asked a.local. A series")
    ++ line (codes " > all query 0")
    ++ line (codes "  ? a.local. A")
    ++ line (codes "  a a.local. 90 - A 192.0.2.1")
    ++ line (codes "63020")
    ++ line (codes " ! asked a.local. A series")
    ++ line (codes " > all query 0")
    ++ line (codes "  ? a.local. A")
    ++ line (codes "97000")
    ++ line (codes " ! asked a.local. A refresh")
    ++ line (codes " > all query 0")
    ++ line (codes "  ? a.local. A")
    ++ line (codes "103000")
    ++ line (codes " ! asked a.local. A refresh")
    ++ line (codes " > all query 0")
    ++ line (codes "  ? a.local. A")
    ++ line (codes "109000")
    ++ line (codes " ! asked a.local. A refresh")
    ++ line (codes " > all query 0")
    ++ line (codes "  ? a.local. A")
    ++ line (codes "115000")
    ++ line (codes " ! asked a.local. A refresh")
    ++ line (codes " > all query 0")
    ++ line (codes "  ? a.local. A")
    ++ line (codes "121000")
    ++ line (codes " < 1 rem 1 A 192.0.2.1")
unfolding all_open digits
row_refresh = refl

abbrev run_heard_asking : List Entry
run_heard_asking = played (booted plain_config) (at 0 event.Attach ∷ at 0 (event.Call 1 1 (request.Query 1 (codes "a" ∷ codes "local" ∷ []))) ∷ at 20 event.Tick ∷ at 500 (event.Hear (from_host 167772169 5353) (0 ∷ 0 ∷ 0 ∷ 0 ∷ 0 ∷ 1 ∷ 0 ∷ 0 ∷ 0 ∷ 0 ∷ 0 ∷ 0 ∷ 1 ∷ 97 ∷ 5 ∷ 108 ∷ 111 ∷ 99 ∷ 97 ∷ 108 ∷ 0 ∷ 0 ∷ 1 ∷ 0 ∷ 1 ∷ [])) ∷ at 1020 event.Tick ∷ at 2499 event.Tick ∷ at 2500 event.Tick ∷ [])

-- a query of another stands for an asking
row_heard_asking : notes run_heard_asking ≡
    line (codes "0")
    ++ line (codes " = opened 1")
    ++ line (codes "0")
    ++ line (codes " < 1 reply 1 start 0")
    ++ line (codes " = code 0")
    ++ line (codes "20")
    ++ line (codes " ! asked a.local. A series")
    ++ line (codes " > all query 0")
    ++ line (codes "  ? a.local. A")
    ++ line (codes "500")
    ++ line (codes " ! asked a.local. A heard")
    ++ line (codes "2500")
    ++ line (codes " ! asked a.local. A series")
    ++ line (codes " > all query 0")
    ++ line (codes "  ? a.local. A")
unfolding all_open digits
row_heard_asking = refl

abbrev run_heard_unicast : List Entry
run_heard_unicast = played (booted plain_config) (at 0 event.Attach ∷ at 0 (event.Call 1 1 (request.Query 1 (codes "a" ∷ codes "local" ∷ []))) ∷ at 20 event.Tick ∷ at 500 (event.Hear (from_host 167772169 5353) (0 ∷ 0 ∷ 0 ∷ 0 ∷ 0 ∷ 1 ∷ 0 ∷ 0 ∷ 0 ∷ 0 ∷ 0 ∷ 0 ∷ 1 ∷ 97 ∷ 5 ∷ 108 ∷ 111 ∷ 99 ∷ 97 ∷ 108 ∷ 0 ∷ 0 ∷ 1 ∷ 128 ∷ 1 ∷ [])) ∷ at 501 (event.Hear (from_host 167772169 5353) (0 ∷ 0 ∷ 2 ∷ 0 ∷ 0 ∷ 1 ∷ 0 ∷ 0 ∷ 0 ∷ 0 ∷ 0 ∷ 0 ∷ 1 ∷ 97 ∷ 5 ∷ 108 ∷ 111 ∷ 99 ∷ 97 ∷ 108 ∷ 0 ∷ 0 ∷ 1 ∷ 0 ∷ 1 ∷ [])) ∷ at 502 (event.Hear (from_host 167772169 5353) (0 ∷ 0 ∷ 0 ∷ 0 ∷ 0 ∷ 1 ∷ 0 ∷ 1 ∷ 0 ∷ 0 ∷ 0 ∷ 0 ∷ 1 ∷ 97 ∷ 5 ∷ 108 ∷ 111 ∷ 99 ∷ 97 ∷ 108 ∷ 0 ∷ 0 ∷ 1 ∷ 0 ∷ 1 ∷ 192 ∷ 12 ∷ 0 ∷ 1 ∷ 0 ∷ 1 ∷ 0 ∷ 0 ∷ 0 ∷ 120 ∷ 0 ∷ 4 ∷ 192 ∷ 0 ∷ 2 ∷ 1 ∷ [])) ∷ at 1020 event.Tick ∷ [])

-- not one for a unicast reply, not one that more follows, not one that knows other answers
row_heard_unicast : notes run_heard_unicast ≡
    line (codes "0")
    ++ line (codes " = opened 1")
    ++ line (codes "0")
    ++ line (codes " < 1 reply 1 start 0")
    ++ line (codes " = code 0")
    ++ line (codes "20")
    ++ line (codes " ! asked a.local. A series")
    ++ line (codes " > all query 0")
    ++ line (codes "  ? a.local. A")
    ++ line (codes "1020")
    ++ line (codes " ! asked a.local. A series")
    ++ line (codes " > all query 0")
    ++ line (codes "  ? a.local. A")
unfolding all_open digits
row_heard_unicast = refl

abbrev run_heard_known : List Entry
run_heard_known = played (booted plain_config) (at 0 event.Attach ∷ at 0 (event.Call 1 1 (request.Query 1 (codes "a" ∷ codes "local" ∷ []))) ∷ at 20 event.Tick ∷ at 600 (event.Hear (from_host 167772169 5353) (0 ∷ 0 ∷ 132 ∷ 0 ∷ 0 ∷ 0 ∷ 0 ∷ 1 ∷ 0 ∷ 0 ∷ 0 ∷ 0 ∷ 1 ∷ 97 ∷ 5 ∷ 108 ∷ 111 ∷ 99 ∷ 97 ∷ 108 ∷ 0 ∷ 0 ∷ 1 ∷ 0 ∷ 1 ∷ 0 ∷ 0 ∷ 0 ∷ 120 ∷ 0 ∷ 4 ∷ 192 ∷ 0 ∷ 2 ∷ 1 ∷ [])) ∷ at 700 (event.Hear (from_host 167772169 5353) (0 ∷ 0 ∷ 0 ∷ 0 ∷ 0 ∷ 1 ∷ 0 ∷ 1 ∷ 0 ∷ 0 ∷ 0 ∷ 0 ∷ 1 ∷ 97 ∷ 5 ∷ 108 ∷ 111 ∷ 99 ∷ 97 ∷ 108 ∷ 0 ∷ 0 ∷ 1 ∷ 0 ∷ 1 ∷ 192 ∷ 12 ∷ 0 ∷ 1 ∷ 0 ∷ 1 ∷ 0 ∷ 0 ∷ 0 ∷ 120 ∷ 0 ∷ 4 ∷ 192 ∷ 0 ∷ 2 ∷ 1 ∷ [])) ∷ at 2699 event.Tick ∷ at 2700 event.Tick ∷ [])

-- one that knows what the daemon knows stands for it
row_heard_known : notes run_heard_known ≡
    line (codes "0")
    ++ line (codes " = opened 1")
    ++ line (codes "0")
    ++ line (codes " < 1 reply 1 start 0")
    ++ line (codes " = code 0")
    ++ line (codes "20")
    ++ line (codes " ! asked a.local. A series")
    ++ line (codes " > all query 0")
    ++ line (codes "  ? a.local. A")
    ++ line (codes "600")
    ++ line (codes " < 1 add 1 A 192.0.2.1")
    ++ line (codes "700")
    ++ line (codes " ! asked a.local. A heard")
    ++ line (codes "2700")
    ++ line (codes " ! asked a.local. A series")
    ++ line (codes " > all query 0")
    ++ line (codes "  ? a.local. A")
    ++ line (codes "  a a.local. 118 - A 192.0.2.1")
unfolding all_open digits
row_heard_known = refl
