-- Worked rows: what is heard: goodbyes, renewals, flushes, and what is passed over.
use Rattle.std.proofs.Common.{◌≡◌, List, [], ◌∷◌, ◌++◌, refl, codes}
use Rattle.std.specs.Fmt.{digits}
use Rattle.mdns_history.proofs.AllOpen.{all_open}
use Rattle.sd_call.specs.declared.request.Request.TheVariants as request
use Rattle.mdns_history.specs.declared.entry.Entry.{Entry}
use Rattle.mdns_history.specs.declared.event.Event.TheVariants as event
use Rattle.mdns_history.specs.EntryText.{line}
use Rattle.mdns_history.proofs.Played.{at, played, booted, plain_config, from_host, notes}

abbrev run_goodbye : List Entry
run_goodbye = played (booted plain_config) (at 0 event.Attach ∷ at 0 (event.Call 1 1 (request.Query 1 (codes "a" ∷ codes "local" ∷ []))) ∷ at 20 event.Tick ∷ at 1000 (event.Hear (from_host 167772169 5353) (0 ∷ 0 ∷ 132 ∷ 0 ∷ 0 ∷ 0 ∷ 0 ∷ 1 ∷ 0 ∷ 0 ∷ 0 ∷ 0 ∷ 1 ∷ 97 ∷ 5 ∷ 108 ∷ 111 ∷ 99 ∷ 97 ∷ 108 ∷ 0 ∷ 0 ∷ 1 ∷ 0 ∷ 1 ∷ 0 ∷ 0 ∷ 0 ∷ 120 ∷ 0 ∷ 4 ∷ 192 ∷ 0 ∷ 2 ∷ 1 ∷ [])) ∷ at 1020 event.Tick ∷ at 3020 event.Tick ∷ at 5000 (event.Hear (from_host 167772169 5353) (0 ∷ 0 ∷ 132 ∷ 0 ∷ 0 ∷ 0 ∷ 0 ∷ 1 ∷ 0 ∷ 0 ∷ 0 ∷ 0 ∷ 1 ∷ 97 ∷ 5 ∷ 108 ∷ 111 ∷ 99 ∷ 97 ∷ 108 ∷ 0 ∷ 0 ∷ 1 ∷ 0 ∷ 1 ∷ 0 ∷ 0 ∷ 0 ∷ 0 ∷ 0 ∷ 4 ∷ 192 ∷ 0 ∷ 2 ∷ 1 ∷ [])) ∷ at 6000 event.Tick ∷ [])

-- a goodbye leaves a second
row_goodbye : notes run_goodbye ≡
    line (codes "0")
    ++ line (codes " = opened 1")
    ++ line (codes "0")
    ++ line (codes " < 1 reply 1 start 0")
    ++ line (codes " = code 0")
    ++ line (codes "20")
    ++ line (codes " ! asked a.local. A series")
    ++ line (codes " > all query 0")
    ++ line (codes "  ? a.local. A")
    ++ line (codes "1000")
    ++ line (codes " < 1 add 1 A 192.0.2.1")
    ++ line (codes "1020")
    ++ line (codes " ! asked a.local. A series")
    ++ line (codes " > all query 0")
    ++ line (codes "  ? a.local. A")
    ++ line (codes "  a a.local. 120 - A 192.0.2.1")
    ++ line (codes "3020")
    ++ line (codes " ! asked a.local. A series")
    ++ line (codes " > all query 0")
    ++ line (codes "  ? a.local. A")
    ++ line (codes "  a a.local. 118 - A 192.0.2.1")
    ++ line (codes "6000")
    ++ line (codes " < 1 rem 1 A 192.0.2.1")
unfolding all_open digits
row_goodbye = refl

abbrev run_lone_goodbye : List Entry
run_lone_goodbye = played (booted plain_config) (at 0 event.Attach ∷ at 0 (event.Call 1 1 (request.Query 1 (codes "a" ∷ codes "local" ∷ []))) ∷ at 20 event.Tick ∷ at 1000 (event.Hear (from_host 167772169 5353) (0 ∷ 0 ∷ 132 ∷ 0 ∷ 0 ∷ 0 ∷ 0 ∷ 1 ∷ 0 ∷ 0 ∷ 0 ∷ 0 ∷ 1 ∷ 97 ∷ 5 ∷ 108 ∷ 111 ∷ 99 ∷ 97 ∷ 108 ∷ 0 ∷ 0 ∷ 1 ∷ 0 ∷ 1 ∷ 0 ∷ 0 ∷ 0 ∷ 0 ∷ 0 ∷ 4 ∷ 192 ∷ 0 ∷ 2 ∷ 1 ∷ [])) ∷ at 1020 event.Tick ∷ [])

-- a goodbye of what was never heard gives nothing
row_lone_goodbye : notes run_lone_goodbye ≡
    line (codes "0")
    ++ line (codes " = opened 1")
    ++ line (codes "0")
    ++ line (codes " < 1 reply 1 start 0")
    ++ line (codes " = code 0")
    ++ line (codes "20")
    ++ line (codes " ! asked a.local. A series")
    ++ line (codes " > all query 0")
    ++ line (codes "  ? a.local. A")
    ++ line (codes "1020")
    ++ line (codes " ! asked a.local. A series")
    ++ line (codes " > all query 0")
    ++ line (codes "  ? a.local. A")
unfolding all_open digits
row_lone_goodbye = refl

abbrev run_two_goodbyes : List Entry
run_two_goodbyes = played (booted plain_config) (at 0 event.Attach ∷ at 0 (event.Call 1 1 (request.Query 1 (codes "a" ∷ codes "local" ∷ []))) ∷ at 1000 (event.Hear (from_host 167772169 5353) (0 ∷ 0 ∷ 132 ∷ 0 ∷ 0 ∷ 0 ∷ 0 ∷ 1 ∷ 0 ∷ 0 ∷ 0 ∷ 0 ∷ 1 ∷ 97 ∷ 5 ∷ 108 ∷ 111 ∷ 99 ∷ 97 ∷ 108 ∷ 0 ∷ 0 ∷ 1 ∷ 0 ∷ 1 ∷ 0 ∷ 0 ∷ 0 ∷ 120 ∷ 0 ∷ 4 ∷ 192 ∷ 0 ∷ 2 ∷ 1 ∷ [])) ∷ at 5000 (event.Hear (from_host 167772169 5353) (0 ∷ 0 ∷ 132 ∷ 0 ∷ 0 ∷ 0 ∷ 0 ∷ 1 ∷ 0 ∷ 0 ∷ 0 ∷ 0 ∷ 1 ∷ 97 ∷ 5 ∷ 108 ∷ 111 ∷ 99 ∷ 97 ∷ 108 ∷ 0 ∷ 0 ∷ 1 ∷ 0 ∷ 1 ∷ 0 ∷ 0 ∷ 0 ∷ 0 ∷ 0 ∷ 4 ∷ 192 ∷ 0 ∷ 2 ∷ 1 ∷ [])) ∷ at 5500 (event.Hear (from_host 167772169 5353) (0 ∷ 0 ∷ 132 ∷ 0 ∷ 0 ∷ 0 ∷ 0 ∷ 1 ∷ 0 ∷ 0 ∷ 0 ∷ 0 ∷ 1 ∷ 97 ∷ 5 ∷ 108 ∷ 111 ∷ 99 ∷ 97 ∷ 108 ∷ 0 ∷ 0 ∷ 1 ∷ 0 ∷ 1 ∷ 0 ∷ 0 ∷ 0 ∷ 0 ∷ 0 ∷ 4 ∷ 192 ∷ 0 ∷ 2 ∷ 1 ∷ [])) ∷ at 6000 event.Tick ∷ [])

-- the first of two goodbyes counts
row_two_goodbyes : notes run_two_goodbyes ≡
    line (codes "0")
    ++ line (codes " = opened 1")
    ++ line (codes "0")
    ++ line (codes " < 1 reply 1 start 0")
    ++ line (codes " = code 0")
    ++ line (codes "1000")
    ++ line (codes " < 1 add 1 A 192.0.2.1")
    ++ line (codes "6000")
    ++ line (codes " ! asked a.local. A series")
    ++ line (codes " > all query 0")
    ++ line (codes "  ? a.local. A")
    ++ line (codes " < 1 rem 1 A 192.0.2.1")
unfolding all_open digits
row_two_goodbyes = refl

abbrev run_renewed : List Entry
run_renewed = played (booted plain_config) (at 0 event.Attach ∷ at 0 (event.Call 1 1 (request.Query 1 (codes "a" ∷ codes "local" ∷ []))) ∷ at 1000 (event.Hear (from_host 167772169 5353) (0 ∷ 0 ∷ 132 ∷ 0 ∷ 0 ∷ 0 ∷ 0 ∷ 1 ∷ 0 ∷ 0 ∷ 0 ∷ 0 ∷ 1 ∷ 97 ∷ 5 ∷ 108 ∷ 111 ∷ 99 ∷ 97 ∷ 108 ∷ 0 ∷ 0 ∷ 1 ∷ 0 ∷ 1 ∷ 0 ∷ 0 ∷ 0 ∷ 120 ∷ 0 ∷ 4 ∷ 192 ∷ 0 ∷ 2 ∷ 1 ∷ [])) ∷ at 5000 (event.Hear (from_host 167772169 5353) (0 ∷ 0 ∷ 132 ∷ 0 ∷ 0 ∷ 0 ∷ 0 ∷ 1 ∷ 0 ∷ 0 ∷ 0 ∷ 0 ∷ 1 ∷ 97 ∷ 5 ∷ 108 ∷ 111 ∷ 99 ∷ 97 ∷ 108 ∷ 0 ∷ 0 ∷ 1 ∷ 0 ∷ 1 ∷ 0 ∷ 0 ∷ 0 ∷ 0 ∷ 0 ∷ 4 ∷ 192 ∷ 0 ∷ 2 ∷ 1 ∷ [])) ∷ at 5500 (event.Hear (from_host 167772169 5353) (0 ∷ 0 ∷ 132 ∷ 0 ∷ 0 ∷ 0 ∷ 0 ∷ 1 ∷ 0 ∷ 0 ∷ 0 ∷ 0 ∷ 1 ∷ 97 ∷ 5 ∷ 108 ∷ 111 ∷ 99 ∷ 97 ∷ 108 ∷ 0 ∷ 0 ∷ 1 ∷ 0 ∷ 1 ∷ 0 ∷ 0 ∷ 0 ∷ 120 ∷ 0 ∷ 4 ∷ 192 ∷ 0 ∷ 2 ∷ 1 ∷ [])) ∷ at 125499 event.Tick ∷ at 125500 event.Tick ∷ [])

-- a renewal undoes a goodbye
row_renewed : notes run_renewed ≡
    line (codes "0")
    ++ line (codes " = opened 1")
    ++ line (codes "0")
    ++ line (codes " < 1 reply 1 start 0")
    ++ line (codes " = code 0")
    ++ line (codes "1000")
    ++ line (codes " < 1 add 1 A 192.0.2.1")
    ++ line (codes "125499")
    ++ line (codes " ! asked a.local. A series")
    ++ line (codes " > all query 0")
    ++ line (codes "  ? a.local. A")
    ++ line (codes "125500")
    ++ line (codes " < 1 rem 1 A 192.0.2.1")
unfolding all_open digits
row_renewed = refl

abbrev run_flush_within_second : List Entry
run_flush_within_second = played (booted plain_config) (at 0 event.Attach ∷ at 0 (event.Call 1 1 (request.Query 1 (codes "a" ∷ codes "local" ∷ []))) ∷ at 1000 (event.Hear (from_host 167772169 5353) (0 ∷ 0 ∷ 132 ∷ 0 ∷ 0 ∷ 0 ∷ 0 ∷ 1 ∷ 0 ∷ 0 ∷ 0 ∷ 0 ∷ 1 ∷ 97 ∷ 5 ∷ 108 ∷ 111 ∷ 99 ∷ 97 ∷ 108 ∷ 0 ∷ 0 ∷ 1 ∷ 0 ∷ 1 ∷ 0 ∷ 0 ∷ 0 ∷ 120 ∷ 0 ∷ 4 ∷ 192 ∷ 0 ∷ 2 ∷ 1 ∷ [])) ∷ at 2000 (event.Hear (from_host 167772169 5353) (0 ∷ 0 ∷ 132 ∷ 0 ∷ 0 ∷ 0 ∷ 0 ∷ 1 ∷ 0 ∷ 0 ∷ 0 ∷ 0 ∷ 1 ∷ 97 ∷ 5 ∷ 108 ∷ 111 ∷ 99 ∷ 97 ∷ 108 ∷ 0 ∷ 0 ∷ 1 ∷ 128 ∷ 1 ∷ 0 ∷ 0 ∷ 0 ∷ 120 ∷ 0 ∷ 4 ∷ 192 ∷ 0 ∷ 2 ∷ 2 ∷ [])) ∷ at 3000 event.Tick ∷ [])

-- a flush within a second of a hearing leaves it
row_flush_within_second : notes run_flush_within_second ≡
    line (codes "0")
    ++ line (codes " = opened 1")
    ++ line (codes "0")
    ++ line (codes " < 1 reply 1 start 0")
    ++ line (codes " = code 0")
    ++ line (codes "1000")
    ++ line (codes " < 1 add 1 A 192.0.2.1")
    ++ line (codes "2000")
    ++ line (codes " < 1 add 1 A 192.0.2.2")
    ++ line (codes "3000")
    ++ line (codes " ! asked a.local. A series")
    ++ line (codes " > all query 0")
    ++ line (codes "  ? a.local. A")
    ++ line (codes "  a a.local. 118 - A 192.0.2.1")
    ++ line (codes "  a a.local. 119 - A 192.0.2.2")
unfolding all_open digits
row_flush_within_second = refl

abbrev run_flush_after_second : List Entry
run_flush_after_second = played (booted plain_config) (at 0 event.Attach ∷ at 0 (event.Call 1 1 (request.Query 1 (codes "a" ∷ codes "local" ∷ []))) ∷ at 1000 (event.Hear (from_host 167772169 5353) (0 ∷ 0 ∷ 132 ∷ 0 ∷ 0 ∷ 0 ∷ 0 ∷ 1 ∷ 0 ∷ 0 ∷ 0 ∷ 0 ∷ 1 ∷ 97 ∷ 5 ∷ 108 ∷ 111 ∷ 99 ∷ 97 ∷ 108 ∷ 0 ∷ 0 ∷ 1 ∷ 0 ∷ 1 ∷ 0 ∷ 0 ∷ 0 ∷ 120 ∷ 0 ∷ 4 ∷ 192 ∷ 0 ∷ 2 ∷ 1 ∷ [])) ∷ at 2001 (event.Hear (from_host 167772169 5353) (0 ∷ 0 ∷ 132 ∷ 0 ∷ 0 ∷ 0 ∷ 0 ∷ 1 ∷ 0 ∷ 0 ∷ 0 ∷ 0 ∷ 1 ∷ 97 ∷ 5 ∷ 108 ∷ 111 ∷ 99 ∷ 97 ∷ 108 ∷ 0 ∷ 0 ∷ 1 ∷ 128 ∷ 1 ∷ 0 ∷ 0 ∷ 0 ∷ 120 ∷ 0 ∷ 4 ∷ 192 ∷ 0 ∷ 2 ∷ 2 ∷ [])) ∷ at 3000 event.Tick ∷ at 3001 event.Tick ∷ [])

-- a flush more than a second later leaves a second
row_flush_after_second : notes run_flush_after_second ≡
    line (codes "0")
    ++ line (codes " = opened 1")
    ++ line (codes "0")
    ++ line (codes " < 1 reply 1 start 0")
    ++ line (codes " = code 0")
    ++ line (codes "1000")
    ++ line (codes " < 1 add 1 A 192.0.2.1")
    ++ line (codes "2001")
    ++ line (codes " < 1 add 1 A 192.0.2.2")
    ++ line (codes "3000")
    ++ line (codes " ! asked a.local. A series")
    ++ line (codes " > all query 0")
    ++ line (codes "  ? a.local. A")
    ++ line (codes "  a a.local. 120 - A 192.0.2.2")
    ++ line (codes "3001")
    ++ line (codes " < 1 rem 1 A 192.0.2.1")
unfolding all_open digits
row_flush_after_second = refl

abbrev run_flush_two : List Entry
run_flush_two = played (booted plain_config) (at 0 event.Attach ∷ at 0 (event.Call 1 1 (request.Query 1 (codes "a" ∷ codes "local" ∷ []))) ∷ at 1000 (event.Hear (from_host 167772169 5353) (0 ∷ 0 ∷ 132 ∷ 0 ∷ 0 ∷ 0 ∷ 0 ∷ 1 ∷ 0 ∷ 0 ∷ 0 ∷ 0 ∷ 1 ∷ 97 ∷ 5 ∷ 108 ∷ 111 ∷ 99 ∷ 97 ∷ 108 ∷ 0 ∷ 0 ∷ 1 ∷ 0 ∷ 1 ∷ 0 ∷ 0 ∷ 0 ∷ 120 ∷ 0 ∷ 4 ∷ 192 ∷ 0 ∷ 2 ∷ 1 ∷ [])) ∷ at 1000 (event.Hear (from_host 167772169 5353) (0 ∷ 0 ∷ 132 ∷ 0 ∷ 0 ∷ 0 ∷ 0 ∷ 1 ∷ 0 ∷ 0 ∷ 0 ∷ 0 ∷ 1 ∷ 97 ∷ 5 ∷ 108 ∷ 111 ∷ 99 ∷ 97 ∷ 108 ∷ 0 ∷ 0 ∷ 1 ∷ 0 ∷ 1 ∷ 0 ∷ 0 ∷ 0 ∷ 120 ∷ 0 ∷ 4 ∷ 192 ∷ 0 ∷ 2 ∷ 2 ∷ [])) ∷ at 5000 (event.Hear (from_host 167772169 5353) (0 ∷ 0 ∷ 132 ∷ 0 ∷ 0 ∷ 0 ∷ 0 ∷ 1 ∷ 0 ∷ 0 ∷ 0 ∷ 0 ∷ 1 ∷ 97 ∷ 5 ∷ 108 ∷ 111 ∷ 99 ∷ 97 ∷ 108 ∷ 0 ∷ 0 ∷ 1 ∷ 128 ∷ 1 ∷ 0 ∷ 0 ∷ 0 ∷ 120 ∷ 0 ∷ 4 ∷ 192 ∷ 0 ∷ 2 ∷ 2 ∷ [])) ∷ at 6000 event.Tick ∷ at 125000 event.Tick ∷ [])

-- a flush ends the other record of the set
row_flush_two : notes run_flush_two ≡
    line (codes "0")
    ++ line (codes " = opened 1")
    ++ line (codes "0")
    ++ line (codes " < 1 reply 1 start 0")
    ++ line (codes " = code 0")
    ++ line (codes "1000")
    ++ line (codes " < 1 add 1 A 192.0.2.1")
    ++ line (codes "1000")
    ++ line (codes " < 1 add 1 A 192.0.2.2")
    ++ line (codes "6000")
    ++ line (codes " ! asked a.local. A series")
    ++ line (codes " > all query 0")
    ++ line (codes "  ? a.local. A")
    ++ line (codes "  a a.local. 119 - A 192.0.2.2")
    ++ line (codes " < 1 rem 1 A 192.0.2.1")
    ++ line (codes "125000")
    ++ line (codes " ! asked a.local. A series")
    ++ line (codes " > all query 0")
    ++ line (codes "  ? a.local. A")
    ++ line (codes " < 1 rem 1 A 192.0.2.2")
unfolding all_open digits
row_flush_two = refl

abbrev run_pointers : List Entry
run_pointers = played (booted plain_config) (at 0 event.Attach ∷ at 0 (event.Call 1 1 (request.Query 1 (codes "a" ∷ codes "local" ∷ []))) ∷ at 1000 (event.Hear (from_host 167772169 5353) (0 ∷ 0 ∷ 132 ∷ 0 ∷ 0 ∷ 0 ∷ 0 ∷ 4 ∷ 0 ∷ 0 ∷ 0 ∷ 0 ∷ 1 ∷ 65 ∷ 5 ∷ 76 ∷ 79 ∷ 67 ∷ 65 ∷ 76 ∷ 0 ∷ 0 ∷ 1 ∷ 0 ∷ 1 ∷ 0 ∷ 0 ∷ 0 ∷ 120 ∷ 0 ∷ 4 ∷ 192 ∷ 0 ∷ 2 ∷ 1 ∷ 192 ∷ 12 ∷ 0 ∷ 1 ∷ 0 ∷ 1 ∷ 0 ∷ 0 ∷ 0 ∷ 120 ∷ 0 ∷ 4 ∷ 192 ∷ 0 ∷ 2 ∷ 2 ∷ 192 ∷ 35 ∷ 0 ∷ 1 ∷ 0 ∷ 1 ∷ 0 ∷ 0 ∷ 0 ∷ 120 ∷ 0 ∷ 4 ∷ 192 ∷ 0 ∷ 2 ∷ 3 ∷ 192 ∷ 51 ∷ 0 ∷ 1 ∷ 0 ∷ 1 ∷ 0 ∷ 0 ∷ 0 ∷ 120 ∷ 0 ∷ 4 ∷ 192 ∷ 0 ∷ 2 ∷ 4 ∷ [])) ∷ [])

-- four records, owners by pointers
row_pointers : notes run_pointers ≡
    line (codes "0")
    ++ line (codes " = opened 1")
    ++ line (codes "0")
    ++ line (codes " < 1 reply 1 start 0")
    ++ line (codes " = code 0")
    ++ line (codes "1000")
    ++ line (codes " < 1 add 1 A 192.0.2.1")
    ++ line (codes " < 1 add 1 A 192.0.2.2")
    ++ line (codes " < 1 add 1 A 192.0.2.3")
    ++ line (codes " < 1 add 1 A 192.0.2.4")
unfolding all_open digits
row_pointers = refl

abbrev run_forward_pointer : List Entry
run_forward_pointer = played (booted plain_config) (at 0 event.Attach ∷ at 0 (event.Call 1 1 (request.Query 1 (codes "a" ∷ codes "local" ∷ []))) ∷ at 1000 (event.Hear (from_host 167772169 5353) (0 ∷ 0 ∷ 132 ∷ 0 ∷ 0 ∷ 0 ∷ 0 ∷ 1 ∷ 0 ∷ 0 ∷ 0 ∷ 0 ∷ 192 ∷ 14 ∷ 0 ∷ 1 ∷ 0 ∷ 1 ∷ 0 ∷ 0 ∷ 0 ∷ 120 ∷ 0 ∷ 4 ∷ 192 ∷ 0 ∷ 2 ∷ 1 ∷ [])) ∷ at 1000 (event.Hear (from_host 167772169 5353) (0 ∷ 0 ∷ 132 ∷ 0 ∷ 0 ∷ 0 ∷ 0 ∷ 1 ∷ 0 ∷ 0 ∷ 0 ∷ 0 ∷ 192 ∷ 12 ∷ 0 ∷ 1 ∷ 0 ∷ 1 ∷ 0 ∷ 0 ∷ 0 ∷ 120 ∷ 0 ∷ 4 ∷ 192 ∷ 0 ∷ 2 ∷ 1 ∷ [])) ∷ [])

-- a forward pointer and a pointer to itself
row_forward_pointer : notes run_forward_pointer ≡
    line (codes "0")
    ++ line (codes " = opened 1")
    ++ line (codes "0")
    ++ line (codes " < 1 reply 1 start 0")
    ++ line (codes " = code 0")
    ++ line (codes "1000")
    ++ line (codes " ! bad 2")
    ++ line (codes "1000")
    ++ line (codes " ! bad 2")
unfolding all_open digits
row_forward_pointer = refl

abbrev run_other_port : List Entry
run_other_port = played (booted plain_config) (at 0 event.Attach ∷ at 0 (event.Call 1 1 (request.Query 1 (codes "a" ∷ codes "local" ∷ []))) ∷ at 1000 (event.Hear (from_host 167772169 5354) (0 ∷ 0 ∷ 132 ∷ 0 ∷ 0 ∷ 0 ∷ 0 ∷ 1 ∷ 0 ∷ 0 ∷ 0 ∷ 0 ∷ 1 ∷ 97 ∷ 5 ∷ 108 ∷ 111 ∷ 99 ∷ 97 ∷ 108 ∷ 0 ∷ 0 ∷ 1 ∷ 128 ∷ 1 ∷ 0 ∷ 0 ∷ 0 ∷ 120 ∷ 0 ∷ 4 ∷ 192 ∷ 0 ∷ 2 ∷ 1 ∷ [])) ∷ [])

-- a response from another port is ignored
row_other_port : notes run_other_port ≡
    line (codes "0")
    ++ line (codes " = opened 1")
    ++ line (codes "0")
    ++ line (codes " < 1 reply 1 start 0")
    ++ line (codes " = code 0")
unfolding all_open digits
row_other_port = refl

abbrev run_opt : List Entry
run_opt = played (booted plain_config) (at 0 event.Attach ∷ at 0 (event.Call 1 1 (request.Query 1 (codes "a" ∷ codes "local" ∷ []))) ∷ at 1000 (event.Hear (from_host 167772169 5353) (0 ∷ 0 ∷ 132 ∷ 0 ∷ 0 ∷ 0 ∷ 0 ∷ 1 ∷ 0 ∷ 0 ∷ 0 ∷ 1 ∷ 1 ∷ 97 ∷ 5 ∷ 108 ∷ 111 ∷ 99 ∷ 97 ∷ 108 ∷ 0 ∷ 0 ∷ 1 ∷ 128 ∷ 1 ∷ 0 ∷ 0 ∷ 0 ∷ 120 ∷ 0 ∷ 4 ∷ 192 ∷ 0 ∷ 2 ∷ 1 ∷ 0 ∷ 0 ∷ 41 ∷ 5 ∷ 160 ∷ 0 ∷ 0 ∷ 0 ∷ 0 ∷ 0 ∷ 0 ∷ [])) ∷ [])

-- an OPT record is passed over
row_opt : notes run_opt ≡
    line (codes "0")
    ++ line (codes " = opened 1")
    ++ line (codes "0")
    ++ line (codes " < 1 reply 1 start 0")
    ++ line (codes " = code 0")
    ++ line (codes "1000")
    ++ line (codes " < 1 add 1 A 192.0.2.1")
unfolding all_open digits
row_opt = refl
