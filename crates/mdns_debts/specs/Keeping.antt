-- What the last multicasts that are kept tell of queries is what those of the history tell. (RFC 6762 5.4 and 6)
use Rattle.std.specs.Prelude.{◌≡◌, ℕ, ◌≤◌, List}
use Rattle.std.specs.List.{list_all, AllByRecursion}
use Rattle.dns_record.specs.declared.record.Rr.{Rr}
use Rattle.mdns_history.specs.declared.entry.Entry.{Entry}
use Rattle.mdns_history.specs.History.{now}
use Rattle.mdns_history.specs.Debts.{last_multicast}
use Rattle.mdns_reply.specs.Lasts.{Last, Stands, last_of, most_ttl}
use Rattle.mdns_debts.specs.Queries.{Query}
use Rattle.mdns_debts.specs.Releasing.{released_by}
use Rattle.mdns_debts.specs.Following.{Ours, News, queries_after, own_in}
use Rattle.mdns_debts.specs.Waiting.{waits}

-- no record has a TTL above the greatest of own records
abbrev pub HaveOwnTtls : List Rr → Type 0
HaveOwnTtls rrs = AllByRecursion (λ (rr : Rr). rr.ttl ≤ most_ttl) rrs

-- The records that are the daemon's to send in a history have no greater TTLs.
abbrev pub OursHaveOwnTtls : Type 0
OursHaveOwnTtls = (history : List Entry) → HaveOwnTtls (own_in history).records × HaveOwnTtls (own_in history).names

-- Kept last multicasts tell no more and no less than those of a history, at no moment from its last one on: what an entry makes of the queries, where no record that
-- was the daemon's before it has a greater TTL than own records have; what a tick releases; and whether all that a query is owed has to wait.
pub record TellAlike (kept : List Last) (past : List Entry) : Type 0 where
  pub followed : (before after : Ours) (news : News) (queries : List Query) → now past ≤ news.moment → HaveOwnTtls before.records → HaveOwnTtls before.names
      → queries_after before after (λ rr. last_of rr kept) news queries ≡ queries_after before after (λ rr. last_multicast rr past) news queries
  pub released : (moment : ℕ) (queries : List Query) → now past ≤ moment → released_by (λ rr. last_of rr kept) moment queries ≡ released_by (λ rr. last_multicast rr past) moment queries
  pub waiting : (moment : ℕ) (queries : List Query) → now past ≤ moment → list_all (waits (λ rr. last_of rr kept) moment) queries ≡ list_all (waits (λ rr. last_multicast rr past) moment) queries

-- So they do where they stand for the history.
abbrev pub LastsTellNoMore : Type 0
LastsTellNoMore = (kept : List Last) (past : List Entry) → Stands kept past → TellAlike kept past
