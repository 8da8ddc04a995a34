-- What contracts see of the queries that are owed something, and what an event makes of them, told of what is kept. (RFC 6762 5.4, 6, 6.1, 6.7, 7.1 to 7.4)
use Rattle.std.specs.Prelude.{◌≡◌, ℕ, ◌<◌, ◌≤◌, nat_le, Bool, true, not, ◌&&◌, List, [], ◌++◌, map, filter, Option, Some, None}
use Rattle.std.specs.List.{list_any, flat_map, All}
use Rattle.dns_record.specs.declared.record.Rr.{Rr}
use Rattle.dns_record.specs.Records.{same}
use Rattle.mdns_history.specs.Hearings.{Heard, query_of}
use Rattle.mdns_happened.specs.Told.{Told, told_by}
use Rattle.mdns_claims.specs.Owned.{own_in, nsecs_in, is_ours}
use Rattle.mdns_probe.specs.Kept.{Kept}
use Rattle.mdns_reply.specs.Lasts.{Last, last_of}
use Rattle.mdns_timer.specs.Tree.{moment_at}
use Rattle.mdns_debts.specs.Queries.{Query, is_to_all}
use Rattle.mdns_debts.specs.Releasing.{is_let_go, wanted_of}
use Rattle.dns_record.specs.declared.record.Question.{Question}
use Rattle.mdns_history.specs.Debts.{Owed, is_struck}
use Rattle.mdns_happened.specs.declared.happened.Heard.{Heard as Said}
use Rattle.mdns_owing.specs.declared.terms.Terms.{Terms}
use Rattle.mdns_owing.specs.declared.news.News.{News as Event}
use Rattle.mdns_owing.specs.Satisfied.{IsOwed}
use Rattle.mdns_debts.specs.Following.{Ours, News, owed_to, way_for, queries_from, leaves, left_by, has_owed, queries_after}

-- what a query says of itself that decides when and where what it is owed goes, as a query that is owed nothing
abbrev pub query_of_terms : Terms → Query
query_of_terms terms = record { from = terms.from; id = 0; questions = []; truncated = terms.truncated; probing = terms.probing; due = terms.due; owed = [] }

-- What contracts see of it: the queries that are owed something, in the order of hearing, and for how many more there is room.
pub record State : Type 0 where
  pub queries : List Query
  pub spare : ℕ

-- the moments from which on what queries are owed is due
abbrev pub moments_of : List Query → List ℕ
moments_of queries = map (λ query. query.due) queries

-- The queries that are kept, and the moments beside them: each is owed something, and the moments are those from which on that is due.
pub record AreKept (queries : List Query) (moments : List ℕ) : Type 0 where
  pub owed : All IsOwed queries
  pub timed : moments ≡ moments_of queries

-- a moment isn't before the first one, if there is that
abbrev pub IsNoSooner : Option ℕ → ℕ → Type 0
IsNoSooner None moment = ⊥
IsNoSooner (Some first) moment = first ≤ moment

-- no moment from one place on up to another is before the first one
abbrev pub AreNoSooner : List ℕ → Option ℕ → ℕ → ℕ → Type 0
AreNoSooner moments first from end = (k : ℕ) → from ≤ k → k < end → IsNoSooner first (moment_at moments k)

-- An event meets nothing but what is due and goes to its asker: time has passed, and nothing is heard or multicast with it.
pub record MeetsDueAlone (news : News) : Type 0 where
  pub tick : news.tick ≡ true
  pub heard : news.heard ≡ None
  pub multicast : news.multicast ≡ []

-- what is the daemon's to send where these groups are kept: its own records, and the NSEC records of its sure names
abbrev pub ours_in : List Kept → Ours
ours_in kept = record { records = own_in kept; names = nsecs_in kept }

-- the last multicast of a record, of those that are kept
abbrev pub last_in : List Last → Rr → Option ℕ
last_in lasts rr = last_of rr lasts

-- what an event tells, with what is multicast with it
abbrev pub news_told : Told → ℕ → ℕ → List Rr → News
news_told told moment word multicast = record { moment = moment; word = word; tick = told.ticks; heard = told.heard; multicast = multicast }

abbrev pub news_in : Event → News
news_in news = news_told (told_by news.happened.now) news.when.moment news.when.word news.multicasts.now

-- the query that comes with an event, where it is owed something
abbrev pub query_told : List Kept → List Last → Told → ℕ → ℕ → List Query
query_told kept lasts told moment word = filter has_owed (queries_from (ours_in kept) (last_in lasts) (news_told told moment word []) (query_of told.heard))

-- whether a query that is due is a probe and asks for a record
abbrev pub is_probing_for : ℕ → Rr → Query → Bool
is_probing_for moment rr query = nat_le query.due moment && (query.probing && list_any (λ owed. is_to_all owed && same owed.0 rr) query.owed)

-- what a query wants to all, if it is due, of what the last multicasts let go, among these queries
abbrev pub released_of : (Rr → Option ℕ) → ℕ → List Query → Query → List Rr
released_of lasts moment queries query = filter (is_let_go lasts moment (flat_map (wanted_of moment) queries)) (map (λ wanted. wanted.1) (wanted_of moment query))

-- what a host said, as the code has it
abbrev pub heard_in : Said → Heard
heard_in said = record { from = said.from.now; message = said.message }

-- of records that a question of a query is owed those that its own answers don't strike, with the ways
abbrev pub unstruck_for : (Rr → Option ℕ) → Heard → ℕ → Question → List Rr → List Owed
unstruck_for lasts heard moment question rrs = map (λ rr. (rr, way_for lasts heard moment question rr)) (filter (λ rr. not (is_struck heard.message.answers rr)) rrs)

-- what a question of a query is owed and isn't struck by its own answers, with the ways
abbrev pub owed_for : Ours → (Rr → Option ℕ) → Heard → ℕ → Question → List Owed
owed_for own lasts heard moment question = unstruck_for lasts heard moment question (owed_to own question)

-- the queries after an event: what it leaves of those before it, and the one that comes with it
abbrev pub followed_by : News → List Query → List Query → List Query
followed_by news come queries = filter has_owed (map (left_by (leaves news)) queries ++ come)

-- those that are owed something that is still the daemon's to send where these groups are kept
abbrev pub kept_ours : List Kept → List Query → List Query
kept_ours kept queries = filter has_owed (map (left_by (λ query owed. is_ours kept owed.0)) queries)

-- the queries behind an event, told of the groups before it and behind it, of the last multicasts, and of what is multicast with it
abbrev pub queries_told : List Kept → List Kept → List Last → News → List Query → List Query
queries_told before after lasts news queries = queries_after (ours_in before) (ours_in after) (last_in lasts) news queries
