-- What queries are owed behind an entry, by what is kept before it and behind it.
use Rattle.std.proofs.Common.{◌≡◌, ℕ, ◌≤◌, Bool, true, false, cond, ◌&&◌, List, [], ◌∷◌, ◌++◌, refl, ◌∙◌, sym}
use Rattle.std.proofs.lemmas.Bool.{and_parts, and_from}
use Rattle.std.proofs.lemmas.List.Folds.{list_all-append}
use Rattle.std.specs.Prelude.{filter}
use Rattle.std.specs.List.{list_all}
use Rattle.mdns_history.specs.declared.event.Event.{Event}
use Rattle.mdns_history.specs.declared.event.Event.TheVariants as event
use Rattle.mdns_history.specs.declared.entry.Entry.{Entry}
use Rattle.mdns_history.specs.History.{now, is_tick}
use Rattle.mdns_history.specs.Hearings.{heard_in, query_of}
use Rattle.mdns_history.specs.Debts.{multicasts_in, last_multicast}
use Rattle.mdns_history.specs.Debts as debts
use Rattle.mdns_happened.specs.Told.{Told}
use Rattle.mdns_happened.specs.Told as told
use Rattle.mdns_claims.specs.State.{Contents}
use Rattle.mdns_claims.specs.State as claims
use Rattle.mdns_claims.proofs.Known.{own_known, nsecs_known, ttls_known}
use Rattle.mdns_reply.specs.Lasts.{Last, multicasts_of}
use Rattle.mdns_reply.specs.Lasts as lasts
use Rattle.mdns_debts.specs.Queries.{Query}
use Rattle.mdns_debts.specs.Following.{Ours, News, own_in, news_of, is_among, has_owed, all_among, queries_from, queries_in, queries_after}
use Rattle.mdns_debts.proofs.Followed.{are_followed}
use Rattle.mdns_debts.proofs.Ours.{owed_among, come_among}
use Rattle.mdns_debts.proofs.Kept.{lasts_tell_no_more}
use Rattle.mdns_owing.specs.Owing.{ours_in, last_in, news_told, query_told, queries_told}

-- what is the daemon's to send is read off the groups that are kept
pub ours_are : (contents : Contents) (history : List Entry) → claims.Stands contents history → ours_in contents.kept ≡ own_in history
ours_are contents history stands = λ i. record { records = own_known contents history stands i; names = nsecs_known contents history stands i }

module _ (history : List Entry) (entry : Entry) (before then : Contents) (multicasts : List Last) (owing : List Query) (told : Told)
    (stands : claims.Stands before history) (stands_then : claims.Stands then (entry ∷ history)) (lasting : lasts.Stands multicasts history) (owed : owing ≡ queries_in history)
    (heard : told.heard ≡ heard_in entry) (ticks : told.ticks ≡ is_tick entry.event) (later : now history ≤ entry.moment) where
  abbrev news : News
  news = news_told told entry.moment entry.word (multicasts_of entry.sent)

  news_are : news ≡ news_of entry
  unfolding multicasts_in
  news_are = λ i. record { moment = entry.moment; word = entry.word; tick = ticks i; heard = heard i; multicast = multicasts_in entry }

  -- The queries that are then owed something are those of the history with the entry.
  pub queries-next : queries_told before.kept then.kept multicasts news owing ≡ queries_in (entry ∷ history)
  queries-next =
      let ttls = ttls_known before history stands in
      (lasts_tell_no_more multicasts history lasting).followed (ours_in before.kept) (ours_in then.kept) news owing later ttls.0 ttls.1
      ∙ (λ i. queries_after (ours_are before history stands i) (ours_are then (entry ∷ history) stands_then i) (λ rr. last_multicast rr history) (news_are i) (owed i))
      ∙ sym (are_followed entry history)

-- ticks are told of as they are
pub ticks_are : (ev : Event) → told.is_tick ev ≡ is_tick ev
ticks_are (event.Boot config) = refl
ticks_are event.Attach = refl
ticks_are (event.Detach session) = refl
ticks_are (event.Call session op request) = refl
ticks_are (event.Hear from bytes) = refl
ticks_are event.Tick = refl
ticks_are (event.Take session max) = refl

kept_all : (test : Query → Bool) (queries : List Query) (ours : Ours) → all_among ours queries ≡ true → all_among ours (filter test queries) ≡ true
kept_all test [] ours h = refl
kept_all test (query ∷ queries) ours h =
    let parts = and_parts (list_all (λ (owed : debts.Owed). is_among ours owed.0) query.owed) (all_among ours queries) h in
    of (test query) parts.0 (kept_all test queries ours parts.1)
  where
    of : (b : Bool) → list_all (λ (owed : debts.Owed). is_among ours owed.0) query.owed ≡ true → all_among ours (filter test queries) ≡ true → all_among ours (cond b (query ∷ filter test queries) (filter test queries)) ≡ true
    of true here rest = and_from (list_all (λ (owed : debts.Owed). is_among ours owed.0) query.owed) (all_among ours (filter test queries)) here rest
    of false here rest = rest

-- What queries are owed, and what one is owed that comes with an event, is the daemon's to send.
pub all_ours : (history : List Entry) (contents : Contents) (multicasts : List Last) (owing : List Query) (told : Told) (moment word : ℕ) → claims.Stands contents history → owing ≡ queries_in history
    → all_among (ours_in contents.kept) (owing ++ query_told contents.kept multicasts told moment word) ≡ true
all_ours history contents multicasts owing told moment word stands owed =
    let come : News = news_told told moment word [] in
    list_all-append (λ (query : Query). list_all (λ (one : debts.Owed). is_among (ours_in contents.kept) one.0) query.owed) owing (query_told contents.kept multicasts told moment word)
    ∙ (λ i. all_among (ours_are contents history stands i) (owed i) && all_among (ours_are contents history stands i) (filter has_owed (queries_from (ours_are contents history stands i) (last_in multicasts) come (query_of told.heard))))
    ∙ (λ i. owed_among history i && all_among (own_in history) (filter has_owed (queries_from (own_in history) (last_in multicasts) come (query_of told.heard))))
    ∙ kept_all has_owed (queries_from (own_in history) (last_in multicasts) come (query_of told.heard)) (own_in history) (come_among history (last_in multicasts) come (query_of told.heard))
