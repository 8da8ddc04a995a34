-- What one more entry makes of the queries that are owed something, told of what the daemon keeps. (RFC 6762 5.4, 6, 6.1, 6.7, 7.1 to 7.4)
use Rattle.std.specs.Prelude.{◌≡◌, ℕ, ◌+◌, ◌==◌, nat_le, nat_lt, Bool, false, not, ◌&&◌, ◌||◌, List, [], ◌∷◌, ◌++◌, map, length, filter, Option, Some, None, if◌then◌else◌}
use Rattle.std.specs.List.{list_any, list_all, flat_map}
use Rattle.mdns_base.specs.declared.host.Dest.{Dest}
use Rattle.mdns_base.specs.declared.host.Dest.TheVariants.{All, One}
use Rattle.mdns_base.specs.Hosts.{mdns_port, host_eq, dest_eq}
use Rattle.lists.specs.Lists.{each_once, least}
use Rattle.dns_name.specs.Names.{folded_eq}
use Rattle.dns_record.specs.declared.record.Rr.{Rr}
use Rattle.dns_record.specs.declared.record.Question.{Question}
use Rattle.dns_record.specs.Records.{same, matches}
use Rattle.mdns_history.specs.declared.entry.Entry.{Entry}
use Rattle.mdns_history.specs.History.{is_tick}
use Rattle.mdns_history.specs.Hearings.{Heard, heard_in, query_of, counted_records}
use Rattle.mdns_history.specs.Groups.{group_name, unique_records}
use Rattle.mdns_history.specs.Sureness.{sure_groups, own_records}
use Rattle.mdns_history.specs.Debts.{Owed, owed_eq, is_unique, debt_wait, is_struck, is_recent, own_or_nsec, nsec_record, is_nsec, multicasts_in, is_multicast, last_multicast}
use Rattle.mdns_debts.specs.Queries.{Query, repeated, owed_queries, is_to_all}
use Rattle.mdns_debts.specs.Releasing.{ready_at}

-- what is the daemon's to send: its own records, and the NSEC records of its sure names (6.1)
pub record Ours : Type 0 where
  pub records : List Rr
  pub names : List Rr

-- what an entry tells of itself: its moment and word, whether it is a tick, what it heard, and what it sent to all in responses
pub record News : Type 0 where
  pub moment : ℕ
  pub word : ℕ
  pub tick : Bool
  pub heard : Option Heard
  pub multicast : List Rr

-- what a question is owed: the own records that match, or else the NSEC record of a sure name (6 and 6.1)
abbrev pub owed_to : Ours → Question → List Rr
owed_to own question =
    own_or_nsec (filter (matches (record { name = question.name; kind = question.kind })) own.records) (filter (λ rr. folded_eq rr.owner question.name) own.names) question

-- where a record goes that a question is owed: to all, but to the asker where the question asks for that and the record was multicast lately (5.4), and to another port than
-- 5353 (6.7)
abbrev pub way_for : (Rr → Option ℕ) → Heard → ℕ → Question → Rr → Dest
way_for lasts heard moment question rr =
    if not (heard.from.port == mdns_port) || (question.unicast && is_recent rr moment (lasts rr)) then One heard.from else All

-- what a query is owed that it doesn't list itself, each record and way once (7.1)
abbrev pub owed_by : Ours → (Rr → Option ℕ) → Heard → ℕ → List Owed
owed_by own lasts heard moment =
    each_once owed_eq (flat_map (λ question. map (λ rr. (rr, way_for lasts heard moment question rr)) (filter (λ rr. not (is_struck heard.message.answers rr)) (owed_to own question))) heard.message.questions)

-- the query that is heard, with what it is owed
abbrev pub query_from : Ours → (Rr → Option ℕ) → News → Heard → Query
query_from own lasts news heard = let owed = owed_by own lasts heard news.moment in
    record {
      from = heard.from;
      id = heard.message.id;
      questions = repeated heard;
      truncated = heard.message.truncated;
      probing = nat_lt 0 (length heard.message.authority);
      due = news.moment + debt_wait heard news.word (list_all (λ o. is_unique o.0) owed);
      owed = owed;
    }

-- the query that an entry hears, if it hears one
abbrev pub queries_from : Ours → (Rr → Option ℕ) → News → Option Heard → List Query
queries_from own lasts news None = []
queries_from own lasts news (Some heard) = query_from own lasts news heard ∷ []

-- whether a later query takes back what a query is owed: one from the same host, where more was to follow (7.2)
abbrev pub strikes : Query → Owed → Option Heard → Bool
strikes query owed None = false
strikes query owed (Some heard) = query.truncated && host_eq query.from heard.from && is_struck heard.message.answers owed.0

-- Whether an entry meets what a query is owed. What goes to all is met by a multicast, and by another's with no less TTL (7.4); what goes to the asker by the tick that sends it.
abbrev pub meets : News → Query → Owed → Bool
meets news query owed =
    if dest_eq owed.1 All then is_multicast owed.0 news.multicast || list_any (λ rr. same owed.0 rr && nat_le (owed.0).ttl rr.ttl) (counted_records news.heard)
    else news.tick && nat_le query.due news.moment

-- whether an entry leaves it
abbrev pub leaves : News → Query → Owed → Bool
leaves news query owed = not (strikes query owed (query_of news.heard)) && not (meets news query owed)

-- whether a record is the daemon's to send
abbrev pub is_among : Ours → Rr → Bool
is_among own rr = if is_nsec rr then list_any (same rr) own.names else list_any (same rr) own.records

-- whether all that queries are owed is the daemon's to send
abbrev pub all_among : Ours → List Query → Bool
all_among own queries = list_all (λ query. list_all (λ owed. is_among own owed.0) query.owed) queries

-- what is owed still where a test passes
abbrev pub left_by : (Query → Owed → Bool) → Query → Query
left_by test query = record query { owed = filter (test query) query.owed }

-- whether a query is owed something
abbrev pub has_owed : Query → Bool
has_owed query = nat_lt 0 (length query.owed)

-- The queries that are owed something after an entry: what it leaves of those before, and the one that it hears, of what is the daemon's before and after it.
unfoldable pub queries_after : Ours → Ours → (Rr → Option ℕ) → News → List Query → List Query
queries_after before after lasts news queries =
    filter has_owed (map (left_by (λ query owed. is_among after owed.0)) (map (left_by (leaves news)) queries ++ queries_from before lasts news (query_of news.heard)))

-- what is the daemon's in a history
abbrev pub own_in : List Entry → Ours
own_in history = record { records = own_records history; names = map (λ group. nsec_record (group_name group history) (unique_records group history)) (sure_groups history) }

-- what an entry tells
abbrev pub news_of : Entry → News
news_of entry = record { moment = entry.moment; word = entry.word; tick = is_tick entry.event; heard = heard_in entry; multicast = multicasts_in entry }

-- the queries of a history
abbrev pub queries_in : List Entry → List Query
queries_in history = map (λ placed. placed.1) (owed_queries history)

-- One more entry carries the queries on as it tells.
abbrev pub AreFollowed : Type 0
AreFollowed = (entry : Entry) (past : List Entry) →
    queries_in (entry ∷ past) ≡ queries_after (own_in past) (own_in (entry ∷ past)) (λ rr. last_multicast rr past) (news_of entry) (queries_in past)

-- the moment from which on a tick sends something that a query is owed
abbrev pub moment_of : (Rr → Option ℕ) → Query → Owed → ℕ
moment_of lasts query owed = if is_to_all owed then ready_at query (lasts owed.0) else query.due

-- the first moment at which something that is owed may be sent
abbrev pub next_reply : (Rr → Option ℕ) → List Query → Option ℕ
next_reply lasts queries = least (flat_map (λ query. map (moment_of lasts query) query.owed) queries)
