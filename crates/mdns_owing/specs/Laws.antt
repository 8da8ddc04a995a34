-- What is noted of an event, and what is dropped then, are the queries behind it.
use Rattle.std.specs.Prelude.{◌≡◌, ℕ, true, List, ◌++◌}
use Rattle.dns_record.specs.declared.record.Rr.{Rr}
use Rattle.mdns_happened.specs.Told.{Told}
use Rattle.mdns_claims.specs.Owned.{is_ours}
use Rattle.mdns_probe.specs.Kept.{Kept}
use Rattle.mdns_reply.specs.Lasts.{Last}
use Rattle.mdns_debts.specs.Queries.{Query}
use Rattle.mdns_debts.specs.Following.{all_among}
use Rattle.mdns_owing.specs.Owing.{ours_in, news_told, query_told, followed_by, kept_ours, queries_told}

-- The groups before an event and behind it, the last multicasts that are kept, what is told of the event, its moment and word, what is multicast with it, and the
-- queries before it.
module _ (before after : List Kept) (lasts : List Last) (told : Told) (moment word : ℕ) (multicasts : List Rr) (queries : List Query) where
  -- the queries once the event was noted
  abbrev pub followed : List Query
  followed = followed_by (news_told told moment word multicasts) (query_told before lasts told moment word) queries

  -- Those behind the event are what is left of them when what isn't the daemon's to send was dropped. Nothing has to be dropped where all that they are owed
  -- was the daemon's to send, and what was so still is.
  pub record AreFollowed : Type 0 where
    pub dropped : kept_ours after followed ≡ queries_told before after lasts (news_told told moment word multicasts) queries
    pub whole : ((rr : Rr) → is_ours before rr ≡ true → is_ours after rr ≡ true) → all_among (ours_in before) (queries ++ query_told before lasts told moment word) ≡ true
        → followed ≡ queries_told before after lasts (news_told told moment word multicasts) queries

abbrev pub QueriesFollow : Type 0
QueriesFollow =
    (before after : List Kept) (lasts : List Last) (told : Told) (moment word : ℕ) (multicasts : List Rr) (queries : List Query)
    → AreFollowed before after lasts told moment word multicasts queries
