-- Worked rows of a daemon without any duty, and of a response that carries a question.
use Rattle.std.proofs.Common.{◌≡◌, List, [], ◌∷◌, ◌++◌, refl, codes, true, false}
use Rattle.std.specs.Fmt.{digits}
use Rattle.mdns_history.proofs.AllOpen.{all_open}
use Rattle.mdns_history.specs.declared.entry.Entry.{Entry}
use Rattle.mdns_history.specs.declared.event.Event.TheVariants as event
use Rattle.mdns_history.specs.EntryText.{line}
use Rattle.mdns_history.specs.InForce.{no_duties}
use Rattle.mdns_history.specs.Due.{is_idle}
use Rattle.mdns_history.proofs.Played.{at, played, played_by, booted, plain_config, other, query_a, hears, ticks, notes}

-- a record of two seconds, heard at 1000
abbrev run_without : List Entry
run_without = played_by no_duties (booted plain_config) (query_a ++ ticks 20 ∷ hears 1000 0x80 2 1 ∷ ticks 2999 ∷ [])

-- asked for nothing, the record comes and goes
row_without : notes (played_by no_duties run_without (ticks 3000 ∷ [])) ≡
    line (codes "0")
    ++ line (codes " = opened 1")
    ++ line (codes "0")
    ++ line (codes " < 1 reply 1 start 0")
    ++ line (codes " = code 0")
    ++ line (codes "1000")
    ++ line (codes " < 1 add 1 A 192.0.2.1")
    ++ line (codes "3000")
    ++ line (codes " < 1 rem 1 A 192.0.2.1")
unfolding all_open digits
row_without = refl

-- a tick has nothing to do before the record ends
row_without_due : is_idle no_duties run_without 2999 ∷ is_idle no_duties run_without 3000 ∷ [] ≡ true ∷ false ∷ []
unfolding all_open digits
row_without_due = refl

-- a response with the question for a.local
abbrev run_response : List Entry
run_response =
    played (booted plain_config) (query_a ++ at 0 (event.Hear other (0 ∷ 0 ∷ 0x84 ∷ 0 ∷ 0 ∷ 1 ∷ 0 ∷ 0 ∷ 0 ∷ 0 ∷ 0 ∷ 0 ∷ 1 ∷ 0x61 ∷ 5 ∷ codes "local" ++ 0 ∷ 0 ∷ 1 ∷ 0 ∷ 1 ∷ [])) ∷ ticks 20 ∷ [])

-- A response with a question is no query: the daemon asks all the same.
row_response_asks_nothing : notes run_response ≡
    line (codes "0")
    ++ line (codes " = opened 1")
    ++ line (codes "0")
    ++ line (codes " < 1 reply 1 start 0")
    ++ line (codes " = code 0")
    ++ line (codes "20")
    ++ line (codes " ! asked a.local. A series")
    ++ line (codes " > all query 0")
    ++ line (codes "  ? a.local. A")
unfolding all_open digits
row_response_asks_nothing = refl
