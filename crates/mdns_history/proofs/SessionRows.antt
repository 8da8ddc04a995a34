-- Worked rows: what sessions are given.
use Rattle.std.proofs.Common.{◌≡◌, List, [], ◌∷◌, ◌++◌, refl, codes, false}
use Rattle.std.specs.Fmt.{digits}
use Rattle.mdns_history.proofs.AllOpen.{all_open}
use Rattle.sd_call.specs.declared.request.Request.TheVariants as request
use Rattle.mdns_history.specs.declared.entry.Entry.{Entry}
use Rattle.mdns_history.specs.declared.event.Event.TheVariants as event
use Rattle.mdns_history.specs.EntryText.{line}
use Rattle.mdns_history.proofs.Played.{at, played, booted, plain_config, host_config, from_host, notes}

abbrev run_taken : List Entry
run_taken = played (booted plain_config) (at 0 event.Attach ∷ at 0 (event.Call 1 1 (request.Query 1 (codes "a" ∷ codes "local" ∷ []))) ∷ at 0 (event.Take 1 5) ∷ at 0 (event.Take 1 5) ∷ at 0 (event.Detach 1) ∷ at 0 (event.Take 1 5) ∷ at 0 (event.Detach 1) ∷ [])

-- takes and closed sessions
row_taken : notes run_taken ≡
    line (codes "0")
    ++ line (codes " = opened 1")
    ++ line (codes "0")
    ++ line (codes " < 1 reply 1 start 0")
    ++ line (codes " = code 0")
    ++ line (codes "0")
    ++ line (codes " = items 1")
    ++ line (codes "  reply 1 start 0")
    ++ line (codes "0")
    ++ line (codes " = empty")
    ++ line (codes "0")
    ++ line (codes " = ended")
    ++ line (codes "0")
    ++ line (codes " = closed")
    ++ line (codes "0")
    ++ line (codes " = closed")
unfolding all_open digits
row_taken = refl

abbrev run_codes : List Entry
run_codes = played (booted plain_config) (at 0 event.Attach ∷ at 0 (event.Call 1 1 (request.Query 1 (codes "a" ∷ codes "local" ∷ []))) ∷ at 0 (event.Call 1 1 (request.Query 1 (codes "a" ∷ codes "local" ∷ []))) ∷ at 0 (event.Call 1 9 (request.Stop)) ∷ at 0 (event.Call 1 1 (request.Update [])) ∷ at 0 (event.Call 1 2 (request.Browse (codes "ipp._tcp"))) ∷ at 0 (event.Call 1 2 (request.Query 1 (codes "example" ∷ codes "com" ∷ []))) ∷ at 0 (event.Call 1 2 (request.Register (codes "P") (codes "_ipp._tcp") 631 false [])) ∷ [])

-- the codes of calls
row_codes : notes run_codes ≡
    line (codes "0")
    ++ line (codes " = opened 1")
    ++ line (codes "0")
    ++ line (codes " < 1 reply 1 start 0")
    ++ line (codes " = code 0")
    ++ line (codes "0")
    ++ line (codes " < 1 reply 1 start -65549")
    ++ line (codes " = code -65549")
    ++ line (codes "0")
    ++ line (codes " < 1 reply 9 stop -65541")
    ++ line (codes " = code -65541")
    ++ line (codes "0")
    ++ line (codes " < 1 reply 1 update -65541")
    ++ line (codes " = code -65541")
    ++ line (codes "0")
    ++ line (codes " < 1 reply 2 start -65540")
    ++ line (codes " = code -65540")
    ++ line (codes "0")
    ++ line (codes " < 1 reply 2 start -65544")
    ++ line (codes " = code -65544")
    ++ line (codes "0")
    ++ line (codes " < 1 reply 2 start -65544")
    ++ line (codes " = code -65544")
unfolding all_open digits
row_codes = refl

abbrev run_own : List Entry
run_own = played (booted host_config) (at 0 event.Attach ∷ at 0 (event.Call 1 1 (request.Query 1 (codes "h" ∷ codes "local" ∷ []))) ∷ at 0 event.Tick ∷ at 20 event.Tick ∷ at 250 event.Tick ∷ at 500 event.Tick ∷ at 750 event.Tick ∷ [])

-- an operation is answered by own records
row_own : notes run_own ≡
    line (codes "0")
    ++ line (codes " = opened 1")
    ++ line (codes "0")
    ++ line (codes " < 1 reply 1 start 0")
    ++ line (codes " = code 0")
    ++ line (codes "0")
    ++ line (codes " > all query 0")
    ++ line (codes "  ? h.local. ANY qu")
    ++ line (codes "  n h.local. 120 - A 10.0.0.1")
    ++ line (codes "20")
    ++ line (codes " ! asked h.local. A series")
    ++ line (codes " > all query 0")
    ++ line (codes "  ? h.local. A")
    ++ line (codes "250")
    ++ line (codes " > all query 0")
    ++ line (codes "  ? h.local. ANY qu")
    ++ line (codes "  n h.local. 120 - A 10.0.0.1")
    ++ line (codes "500")
    ++ line (codes " > all query 0")
    ++ line (codes "  ? h.local. ANY qu")
    ++ line (codes "  n h.local. 120 - A 10.0.0.1")
    ++ line (codes "750")
    ++ line (codes " ! announced 0")
    ++ line (codes " > all reply 0")
    ++ line (codes "  a h.local. 120 flush A 10.0.0.1")
    ++ line (codes " < 1 add 1 A 10.0.0.1")
unfolding all_open digits
row_own = refl

abbrev run_families : List Entry
run_families = played (booted plain_config) (at 0 event.Attach ∷ at 0 (event.Call 1 1 (request.Address 3 (codes "a" ∷ codes "local" ∷ []))) ∷ at 20 event.Tick ∷ at 500 (event.Hear (from_host 167772169 5353) (0 ∷ 0 ∷ 132 ∷ 0 ∷ 0 ∷ 0 ∷ 0 ∷ 1 ∷ 0 ∷ 0 ∷ 0 ∷ 0 ∷ 1 ∷ 97 ∷ 5 ∷ 108 ∷ 111 ∷ 99 ∷ 97 ∷ 108 ∷ 0 ∷ 0 ∷ 1 ∷ 0 ∷ 1 ∷ 0 ∷ 0 ∷ 0 ∷ 120 ∷ 0 ∷ 4 ∷ 192 ∷ 0 ∷ 2 ∷ 1 ∷ [])) ∷ at 600 (event.Detach 1) ∷ at 700 (event.Hear (from_host 167772169 5353) (0 ∷ 0 ∷ 132 ∷ 0 ∷ 0 ∷ 0 ∷ 0 ∷ 1 ∷ 0 ∷ 0 ∷ 0 ∷ 0 ∷ 1 ∷ 97 ∷ 5 ∷ 108 ∷ 111 ∷ 99 ∷ 97 ∷ 108 ∷ 0 ∷ 0 ∷ 1 ∷ 0 ∷ 1 ∷ 0 ∷ 0 ∷ 0 ∷ 120 ∷ 0 ∷ 4 ∷ 192 ∷ 0 ∷ 2 ∷ 2 ∷ [])) ∷ at 1020 event.Tick ∷ [])

-- both families, and an end of the session
row_families : notes run_families ≡
    line (codes "0")
    ++ line (codes " = opened 1")
    ++ line (codes "0")
    ++ line (codes " < 1 reply 1 start 0")
    ++ line (codes " = code 0")
    ++ line (codes "20")
    ++ line (codes " ! asked a.local. A series")
    ++ line (codes " ! asked a.local. AAAA series")
    ++ line (codes " > all query 0")
    ++ line (codes "  ? a.local. A")
    ++ line (codes "  ? a.local. AAAA")
    ++ line (codes "500")
    ++ line (codes " < 1 add 1 A 192.0.2.1")
    ++ line (codes "600")
    ++ line (codes " = ended")
unfolding all_open digits
row_families = refl
