-- What is noted of an event, and what is dropped then, are the queries behind it.
use Rattle.std.proofs.Common.{◌≡◌, ℕ, Bool, true, false, cond, List, [], ◌∷◌, ◌++◌, map, length, suc, refl, ap, ◌∙◌, sym, arith}
use Rattle.std.proofs.lemmas.Bool.{true≢false}
use Rattle.std.proofs.lemmas.Bool.{and_parts, and_from}
use Rattle.std.proofs.lemmas.List.{map-append}
use Rattle.std.proofs.lemmas.List.Folds.{list_all-append}
use Rattle.std.specs.Prelude.{filter, nat_lt}
use Rattle.std.specs.List.{list_all}
use Rattle.dns_record.specs.declared.record.Rr.{Rr}
use Rattle.mdns_history.specs.Hearings.{query_of}
use Rattle.mdns_history.specs.Debts.{Owed}
use Rattle.mdns_happened.specs.Told.{Told}
use Rattle.mdns_claims.specs.Owned.{is_ours}
use Rattle.mdns_probe.specs.Kept.{Kept}
use Rattle.mdns_reply.specs.Lasts.{Last}
use Rattle.mdns_debts.specs.Queries.{Query}
use Rattle.mdns_debts.specs.Following.{News, left_by, leaves, has_owed, all_among, queries_from, queries_after}
use Rattle.mdns_owing.specs.Owing.{ours_in, last_in, news_told, query_told, kept_ours, queries_told}
use Rattle.mdns_owing.specs.Laws.{followed, QueriesFollow}

abbrev Test : Type 0
Test = Query → Owed → Bool

-- a query is owed nothing more once some of it was dropped
left_nothing : (test : Test) (query : Query) → has_owed query ≡ false → has_owed (left_by test query) ≡ false
left_nothing test query none = of query.owed none
  where
    of : (owed : List Owed) → has_owed (record query { owed = owed }) ≡ false → has_owed (record query { owed = filter (test query) owed }) ≡ false
    of [] h = refl
    of (one ∷ owed) h = let yes : nat_lt 0 (suc (length owed)) ≡ true = grind arith in absurd (true≢false (sym yes ∙ h))

-- queries that are owed nothing may be dropped first
dropped_first : (test : Test) (queries : List Query) → filter has_owed (map (left_by test) (filter has_owed queries)) ≡ filter has_owed (map (left_by test) queries)
dropped_first test [] = refl
dropped_first test (query ∷ queries) = of (has_owed query) refl (dropped_first test queries)
  where
    rest : List Query
    rest = filter has_owed (map (left_by test) queries)

    keep : (b : Bool) → filter has_owed (map (left_by test) (filter has_owed queries)) ≡ rest → cond b (left_by test query ∷ filter has_owed (map (left_by test) (filter has_owed queries))) (filter has_owed (map (left_by test) (filter has_owed queries))) ≡ cond b (left_by test query ∷ rest) rest
    keep true e = ap (λ l. left_by test query ∷ l) e
    keep false e = e

    of : (b : Bool) → has_owed query ≡ b → filter has_owed (map (left_by test) (filter has_owed queries)) ≡ rest → filter has_owed (map (left_by test) (cond b (query ∷ filter has_owed queries) (filter has_owed queries)))
        ≡ cond (has_owed (left_by test query)) (left_by test query ∷ rest) rest
    of true e same = keep (has_owed (left_by test query)) same
    of false e same = same ∙ ap (λ c. cond c (left_by test query ∷ rest) rest) (sym (left_nothing test query e))

filter_append : (xs ys : List Query) → filter has_owed (xs ++ ys) ≡ filter has_owed xs ++ filter has_owed ys
filter_append [] ys = refl
filter_append (x ∷ xs) ys = of (has_owed x) (filter_append xs ys)
  where
    of : (b : Bool) → filter has_owed (xs ++ ys) ≡ filter has_owed xs ++ filter has_owed ys → cond b (x ∷ filter has_owed (xs ++ ys)) (filter has_owed (xs ++ ys)) ≡ cond b (x ∷ filter has_owed xs) (filter has_owed xs) ++ filter has_owed ys
    of true e = ap (λ l. x ∷ l) e
    of false e = e

-- what all passes is left whole
module _ (pass : Rr → Bool) where
  abbrev passes : Test
  passes query owed = pass owed.0

  abbrev all_pass : List Query → Bool
  all_pass queries = list_all (λ (query : Query). list_all (λ (owed : Owed). pass owed.0) query.owed) queries

  owed_whole : (owed : List Owed) → list_all (λ (one : Owed). pass one.0) owed ≡ true → filter (λ (one : Owed). pass one.0) owed ≡ owed
  owed_whole [] h = refl
  owed_whole (one ∷ owed) h =
      let parts = and_parts (pass one.0) (list_all (λ (o : Owed). pass o.0) owed) h in
      ap (λ b. cond b (one ∷ filter (λ (o : Owed). pass o.0) owed) (filter (λ (o : Owed). pass o.0) owed)) parts.0 ∙ ap (λ l. one ∷ l) (owed_whole owed parts.1)

  all_whole : (queries : List Query) → all_pass queries ≡ true → map (left_by passes) queries ≡ queries
  all_whole [] h = refl
  all_whole (query ∷ queries) h =
      let parts = and_parts (list_all (λ (owed : Owed). pass owed.0) query.owed) (all_pass queries) h in
      (λ i. record query { owed = owed_whole query.owed parts.0 i } ∷ all_whole queries parts.1 i)

  left_passes : (test : Owed → Bool) (owed : List Owed) → list_all (λ (one : Owed). pass one.0) owed ≡ true → list_all (λ (one : Owed). pass one.0) (filter test owed) ≡ true
  left_passes test [] h = refl
  left_passes test (one ∷ owed) h =
      let parts = and_parts (pass one.0) (list_all (λ (o : Owed). pass o.0) owed) h in
      of (test one) parts.0 (left_passes test owed parts.1)
    where
      of : (b : Bool) → pass one.0 ≡ true → list_all (λ (o : Owed). pass o.0) (filter test owed) ≡ true → list_all (λ (o : Owed). pass o.0) (cond b (one ∷ filter test owed) (filter test owed)) ≡ true
      of true here rest = and_from (pass one.0) (list_all (λ (o : Owed). pass o.0) (filter test owed)) here rest
      of false here rest = rest

  all_left : (test : Test) (queries : List Query) → all_pass queries ≡ true → all_pass (map (left_by test) queries) ≡ true
  all_left test [] h = refl
  all_left test (query ∷ queries) h =
      let parts = and_parts (list_all (λ (owed : Owed). pass owed.0) query.owed) (all_pass queries) h in
      and_from (list_all (λ (owed : Owed). pass owed.0) (filter (test query) query.owed)) (all_pass (map (left_by test) queries)) (left_passes (test query) query.owed parts.0) (all_left test queries parts.1)

  -- what all passed another test that this one follows from passes
  module _ (earlier : Rr → Bool) (stays : (rr : Rr) → earlier rr ≡ true → pass rr ≡ true) where
    owed_later : (owed : List Owed) → list_all (λ (one : Owed). earlier one.0) owed ≡ true → list_all (λ (one : Owed). pass one.0) owed ≡ true
    owed_later [] h = refl
    owed_later (one ∷ owed) h =
        let parts = and_parts (earlier one.0) (list_all (λ (o : Owed). earlier o.0) owed) h in
        and_from (pass one.0) (list_all (λ (o : Owed). pass o.0) owed) (stays one.0 parts.0) (owed_later owed parts.1)

    all_later : (queries : List Query) → list_all (λ (query : Query). list_all (λ (owed : Owed). earlier owed.0) query.owed) queries ≡ true → all_pass queries ≡ true
    all_later [] h = refl
    all_later (query ∷ queries) h =
        let parts = and_parts (list_all (λ (owed : Owed). earlier owed.0) query.owed) (list_all (λ (q : Query). list_all (λ (owed : Owed). earlier owed.0) q.owed) queries) h in
        and_from (list_all (λ (owed : Owed). pass owed.0) query.owed) (all_pass queries) (owed_later query.owed parts.0) (all_later queries parts.1)

module _ (before after : List Kept) (lasts : List Last) (told : Told) (moment word : ℕ) (multicasts : List Rr) (queries : List Query) where
  abbrev news : News
  news = news_told told moment word multicasts

  -- what is left of earlier queries, and the one that comes, also where it is owed nothing
  abbrev left : List Query
  left = map (left_by (leaves news)) queries

  abbrev come : List Query
  come = queries_from (ours_in before) (last_in lasts) news (query_of told.heard)

  abbrev told_queries : List Query
  told_queries = queries_told before after lasts news queries

  by_passing : filter has_owed (map (left_by (passes (is_ours after))) (left ++ come)) ≡ told_queries
  unfolding queries_after
  by_passing = refl

  dropped : kept_ours after (followed before after lasts told moment word multicasts queries) ≡ told_queries
  dropped =
      dropped_first (passes (is_ours after)) (left ++ filter has_owed come)
      ∙ ap (filter has_owed) (map-append (left_by (passes (is_ours after))) left (filter has_owed come))
      ∙ filter_append (map (left_by (passes (is_ours after))) left) (map (left_by (passes (is_ours after))) (filter has_owed come))
      ∙ ap (λ l. filter has_owed (map (left_by (passes (is_ours after))) left) ++ l) (dropped_first (passes (is_ours after)) come)
      ∙ sym (filter_append (map (left_by (passes (is_ours after))) left) (map (left_by (passes (is_ours after))) come))
      ∙ ap (filter has_owed) (sym (map-append (left_by (passes (is_ours after))) left come))
      ∙ by_passing

  whole : ((rr : Rr) → is_ours before rr ≡ true → is_ours after rr ≡ true) → all_among (ours_in before) (queries ++ query_told before lasts told moment word) ≡ true
      → followed before after lasts told moment word multicasts queries ≡ told_queries
  whole stays ours =
      let parts = and_parts (all_among (ours_in before) queries) (all_among (ours_in before) (filter has_owed come))
      (sym (list_all-append (λ (query : Query). list_all (λ (owed : Owed). is_ours before owed.0) query.owed) queries (filter has_owed come)) ∙ ours) in
      let here : map (left_by (passes (is_ours after))) left ≡ left = all_whole (is_ours after) left (all_left (is_ours after) (leaves news) queries (all_later (is_ours after) (is_ours before) stays queries parts.0)) in
      let new : map (left_by (passes (is_ours after))) (filter has_owed come) ≡ filter has_owed come = all_whole (is_ours after) (filter has_owed come) (all_later (is_ours after) (is_ours before) stays (filter has_owed come) parts.1) in
      (λ i. filter has_owed (sym here i ++ sym new i))
      ∙ dropped_again
    where
      dropped_again : filter has_owed (map (left_by (passes (is_ours after))) left ++ map (left_by (passes (is_ours after))) (filter has_owed come)) ≡ told_queries
      dropped_again =
          filter_append (map (left_by (passes (is_ours after))) left) (map (left_by (passes (is_ours after))) (filter has_owed come))
          ∙ ap (λ l. filter has_owed (map (left_by (passes (is_ours after))) left) ++ l) (dropped_first (passes (is_ours after)) come)
          ∙ sym (filter_append (map (left_by (passes (is_ours after))) left) (map (left_by (passes (is_ours after))) come))
          ∙ ap (filter has_owed) (sym (map-append (left_by (passes (is_ours after))) left come))
          ∙ by_passing

-- What is noted of an event, and what is dropped then, are the queries behind it.
pub queries_follow : QueriesFollow
queries_follow before after lasts told moment word multicasts queries =
    record { dropped = dropped before after lasts told moment word multicasts queries; whole = whole before after lasts told moment word multicasts queries }
