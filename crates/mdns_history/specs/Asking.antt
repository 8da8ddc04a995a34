-- When a question is asked, and which answers are listed as known. (RFC 6762 5.2, 7.1 and 7.3)
use Rattle.std.specs.Prelude.{ℕ, suc, ◌+◌, ◌-◌, ◌*◌, ◌/◌, ◌%◌, ◌^◌, ◌==◌, nat_lt, nat_le, min, Bool, true, false, not, ◌&&◌, ◌||◌, List, [], ◌∷◌, map, length, filter, Option, Some, None, if◌then◌else◌}
use Rattle.std.specs.List.{list_any, list_all, flat_map, filter_map}
use Rattle.mdns_base.specs.Hosts.{mdns_port}
use Rattle.lists.specs.Lists.{sorted_by}
use Rattle.dns_record.specs.declared.record.Rr.{Rr}
use Rattle.dns_record.specs.declared.record.Key.{Key}
use Rattle.dns_record.specs.declared.record.Question.{Question}
use Rattle.dns_record.specs.Records.{key_eq, matches, same, record_cmp}
use Rattle.dns_message.specs.Packing.{query_with}
use Rattle.dns_message.specs.Writing.{written}
use Rattle.mdns_history.specs.declared.mark.Cause.{Cause}
use Rattle.mdns_history.specs.declared.mark.Cause.TheVariants as cause
use Rattle.mdns_history.specs.declared.mark.Mark.{Mark}
use Rattle.mdns_history.specs.declared.mark.Mark.TheVariants as mark
use Rattle.mdns_history.specs.declared.held.Held.{Held}
use Rattle.mdns_history.specs.declared.entry.Entry.{Entry}
use Rattle.mdns_history.specs.History.{since, moment_if, has_mark}
use Rattle.mdns_history.specs.Hearings.{Heard}
use Rattle.mdns_history.specs.Lifetimes.{live_records, is_uncut}
use Rattle.mdns_history.specs.Questions.{Active, active_questions, begins_asking}

-- askings that count in the series
abbrev pub is_counted : Cause → Bool
is_counted cause.Series = true
is_counted cause.Heard = true
is_counted cause.Refresh = false

-- the mark that a question was asked in the series
abbrev pub is_series_asking : Key → Mark → Bool
is_series_asking question (mark.Asked key cause) = key_eq question key && is_counted cause
is_series_asking question _ = false

-- the mark that a question was asked, for any cause
abbrev pub is_asking : Key → Mark → Bool
is_asking question (mark.Asked key cause) = key_eq question key
is_asking question _ = false

-- the moments at which a question was asked in the series since it became active, the last first
unfoldable pub series_moments : Key → List Entry → List ℕ
series_moments question history = since (begins_asking question) (λ entry. moment_if (has_mark (is_series_asking question) entry) entry.moment) history

-- the moments at which a question was asked since it became active, for any cause, the last first
unfoldable pub asking_moments : Key → List Entry → List ℕ
asking_moments question history = since (begins_asking question) (λ entry. moment_if (has_mark (is_asking question) entry) entry.moment) history

-- the gap behind the k-th asking of the series: a second, twice as long each time, an hour at most
abbrev pub series_gap : ℕ → ℕ
series_gap k = min (1000 * 2 ^ (k - 1)) 3600000

-- the moment of the next asking in the series, behind those at these moments
abbrev pub next_in_series : Active → List ℕ → ℕ
next_in_series active [] = active.start + 20 + active.word % 101
next_in_series active (last ∷ earlier) = last + series_gap (suc (length earlier))

-- the moment at which a question is due in the series
unfoldable pub series_due : Active → List Entry → ℕ
series_due active history = next_in_series active (series_moments active.key history)

-- The refresh points of a record: at 80, 85, 90 and 95 percent of its TTL, and up to two percent later.
abbrev pub refresh_point : Held → ℕ → ℕ
refresh_point held j = held.heard + held.rr.ttl * (800 + 50 * j) + held.word % (20 * held.rr.ttl + 1)

-- the four refresh points of a record
abbrev pub refresh_points : Held → List ℕ
refresh_points held = map (refresh_point held) (0 ∷ 1 ∷ 2 ∷ 3 ∷ [])

-- the live records that match a question and are uncut
unfoldable pub fresh_matches : Key → List Entry → ℕ → List Held
fresh_matches question history moment = filter (λ held. matches question held.rr && is_uncut held) (live_records history moment)

-- whether a point is later than the last of some moments
abbrev pub is_behind : ℕ → List ℕ → Bool
is_behind point [] = true
is_behind point (last ∷ earlier) = nat_lt last point

-- A refresh point calls for an asking once it has come, where it is later than the start and than the last asking.
abbrev pub calls_at : Active → List ℕ → ℕ → ℕ → Bool
calls_at active askings moment point = nat_le point moment && nat_lt active.start point && is_behind point askings

-- whether a record that answers a question is to be refreshed at a moment
unfoldable pub is_refresh_due : Active → List Entry → ℕ → Bool
is_refresh_due active history moment =
    list_any (calls_at active (asking_moments active.key history) moment) (flat_map refresh_points (fresh_matches active.key history moment))

-- why a tick at a moment asks a question, if it asks it
abbrev pub tick_cause : List Entry → ℕ → Active → Option Cause
tick_cause history moment active =
    if nat_le (series_due active history) moment then Some cause.Series else if is_refresh_due active history moment then Some cause.Refresh else None

-- the mark of a question with its cause, if it has one
abbrev pub asked_mark : Active → Option Cause → Option Mark
asked_mark active None = None
asked_mark active (Some cause) = Some (mark.Asked active.key cause)

-- the marks of the questions that a tick asks
unfoldable pub tick_askings : List Entry → ℕ → List Mark
tick_askings history moment = filter_map (λ active. asked_mark active (tick_cause history moment active)) (active_questions history)

-- a known answer as it is listed: without the flush bit, with the seconds that are left, rounded up
abbrev pub listed : ℕ → Held → Rr
listed moment held = record { owner = held.rr.owner; flush = false; ttl = (held.end - moment + 999) / 1000; rdata = held.rr.rdata }

-- at least half of the TTL is left
abbrev pub is_half_fresh : ℕ → Held → Bool
is_half_fresh moment held = nat_le (1000 * held.rr.ttl) (2 * (held.end - moment))

-- the longest message
abbrev pub longest_message : ℕ
longest_message = 8972

-- a record that fits a message alone
abbrev pub fits_alone : Rr → Bool
fits_alone rr = nat_le (length (written (query_with [] (rr ∷ []) false))) longest_message

-- the known answers of a question at a moment, as they are listed, in record order
unfoldable pub known_answers : Key → List Entry → ℕ → List Rr
known_answers question history moment =
    sorted_by record_cmp (filter fits_alone (map (listed moment) (filter (is_half_fresh moment) (fresh_matches question history moment))))

-- a question of the link that asks the same without a unicast reply
abbrev pub asks_openly : Key → Question → Bool
asks_openly question asked = key_eq question (record { name = asked.name; kind = asked.kind }) && not asked.unicast

-- Each answer of a query to a question is one that the daemon would list.
abbrev pub knows_no_more : Key → List Entry → ℕ → List Rr → Bool
knows_no_more question history moment answers =
    list_all (λ rr. not (matches question rr) || list_any (same rr) (known_answers question history moment)) answers

-- Another's query stands for the daemon's own where that is due within a second.
abbrev pub is_asked_by : List Entry → ℕ → Heard → Active → Bool
is_asked_by history moment heard active =
    not heard.message.response && (heard.from.port == mdns_port) && not heard.message.truncated && list_any (asks_openly active.key) heard.message.questions
    && nat_le (series_due active history) (moment + 1000) && knows_no_more active.key history moment heard.message.answers

-- the marks of the questions that a query asks in the daemon's stead
unfoldable pub heard_askings : List Entry → ℕ → Option Heard → List Mark
heard_askings history moment None = []
heard_askings history moment (Some heard) = map (λ active. mark.Asked active.key cause.Heard) (filter (is_asked_by history moment heard) (active_questions history))
