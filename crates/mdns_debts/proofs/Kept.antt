-- What the last multicasts that are kept tell of queries is what those of the history tell.
use Rattle.std.proofs.Common.{◌≡◌, ℕ, ◌≤◌, ◌==◌, ◌⊎◌, inl, inr, Bool, true, false, cond, not, ◌&&◌, ◌||◌, List, [], ◌∷◌, ◌++◌, map, Option, Some, None, refl, ap, ◌∙◌, sym, arith}
use Rattle.std.specs.Prelude.{filter, nat_lt, nat_le}
use Rattle.std.specs.List.{list_any, list_all, flat_map}
use Rattle.mdns_base.specs.declared.host.Dest.TheVariants.{All, One}
use Rattle.mdns_base.specs.Hosts.{mdns_port}
use Rattle.lists.specs.Lists.{ordered, each_once}
use Rattle.dns_name.specs.Names.{folded_eq}
use Rattle.dns_record.specs.declared.record.Rr.{Rr}
use Rattle.dns_record.specs.declared.record.Question.{Question}
use Rattle.dns_record.specs.Records.{any_kind, same, record_cmp, matches}
use Rattle.mdns_history.specs.declared.entry.Entry.{Entry}
use Rattle.mdns_history.specs.History.{now}
use Rattle.mdns_history.specs.Hearings.{Heard, query_of}
use Rattle.mdns_history.specs.Debts.{Owed, owed_eq, own_or_nsec, is_struck, is_long_ago, last_multicast}
use Rattle.mdns_history.specs.Multicasts.{multicast_gap, defence_gap}
use Rattle.mdns_reply.specs.Lasts.{Last, Stands, IsKept, last_of, most_ttl}
use Rattle.mdns_asserts.proofs.Elements.{In, of_filter}
use Rattle.mdns_debts.specs.Queries.{Query, is_to_all, gap_of}
use Rattle.mdns_debts.specs.Releasing.{Wanted, wanted_of, is_let_go, released_by, ready_at}
use Rattle.mdns_debts.specs.Following.{Ours, News, owed_to, way_for, owed_by, query_from, queries_from, leaves, is_among, left_by, has_owed, queries_after, moment_of}
use Rattle.mdns_debts.specs.Waiting.{waits}
use Rattle.mdns_debts.specs.Keeping.{HaveOwnTtls, LastsTellNoMore}
use Rattle.mdns_debts.proofs.Debts.{filter_like}
use Rattle.mdns_debts.proofs.Followed.{flat_like}
use Rattle.mdns_debts.proofs.Waits.{gap_within, all_like}

-- a list of records with such TTLs, element by element
ttl_of : (rrs : List Rr) (rr : Rr) → HaveOwnTtls rrs → In rr rrs → rr.ttl ≤ most_ttl
ttl_of [] rr h m = absurd m
ttl_of (r ∷ rrs) rr h (inl e) = let first : r.ttl ≤ most_ttl = h.0 in rw e first
ttl_of (r ∷ rrs) rr h (inr m) = ttl_of rrs rr h.1 m

-- functions that agree on the elements of a list
map_like : {X Y : Type 0} (f g : X → Y) (xs : List X) → ((x : X) → In x xs → f x ≡ g x) → map f xs ≡ map g xs
map_like f g [] h = refl
map_like f g (x ∷ xs) h = ap (λ y. y ∷ map f xs) (h x (inl refl)) ∙ ap (λ ys. g x ∷ ys) (map_like f g xs (λ y m. h y (inr m)))

-- what a question is owed is an own record or an NSEC record
of_own_or_nsec : (rrs nsecs : List Rr) (question : Question) (rr : Rr) → In rr (own_or_nsec rrs nsecs question) → In rr rrs ⊎ In rr nsecs
of_own_or_nsec (r ∷ rrs) nsecs question rr m = inl m
of_own_or_nsec [] nsecs question rr m = inr (of (question.kind == any_kind) m)
  where
    of : (b : Bool) → In rr (cond b [] nsecs) → In rr nsecs
    of true n = absurd n
    of false n = n

owed_ttl : (own : Ours) (question : Question) (rr : Rr) → HaveOwnTtls own.records → HaveOwnTtls own.names → In rr (owed_to own question) → rr.ttl ≤ most_ttl
owed_ttl own question rr records names m =
    of (of_own_or_nsec (filter (matches (record { name = question.name; kind = question.kind })) own.records) (filter (λ r. folded_eq r.owner question.name) own.names) question rr m)
  where
    of : In rr (filter (matches (record { name = question.name; kind = question.kind })) own.records) ⊎ In rr (filter (λ r. folded_eq r.owner question.name) own.names) → rr.ttl ≤ most_ttl
    of (inl n) = ttl_of own.records rr records (of_filter (matches (record { name = question.name; kind = question.kind })) rr own.records n).0
    of (inr n) = ttl_of own.names rr names (of_filter (λ r. folded_eq r.owner question.name) rr own.names n).0

-- what a query's question is owed that the query doesn't list itself, and with the way of each record
abbrev unstruck : Ours → Heard → Question → List Rr
unstruck own heard question = filter (λ rr. not (is_struck heard.message.answers rr)) (owed_to own question)

abbrev with_way : (Rr → Option ℕ) → Heard → ℕ → Question → Rr → Owed
with_way lasts heard moment question rr = (rr, way_for lasts heard moment question rr)

abbrev owed_for : Ours → (Rr → Option ℕ) → Heard → ℕ → Question → List Owed
owed_for own lasts heard moment question = map (with_way lasts heard moment question) (unstruck own heard question)

-- a moment from which on a record is ready, by the moment that is due and the time since the last multicast
ready_told : (query : Query) (moment : ℕ) (o : Option ℕ) → nat_lt moment (ready_at query o) ≡ not (nat_le query.due moment && is_long_ago (gap_of query) moment o)
ready_told query moment None = grind arith
ready_told query moment (Some last) = grind arith

module _ (kept : List Last) (past : List Entry) (stands : Stands kept past) where
  is_kept_of : (rr : Rr) → IsKept rr (now past) (last_of rr kept) (last_multicast rr past)
  unfolding Stands
  is_kept_of rr = stands rr

  gone_alike : (rr : Rr) (gap moment : ℕ) → gap ≤ multicast_gap → now past ≤ moment → is_long_ago gap moment (last_of rr kept) ≡ is_long_ago gap moment (last_multicast rr past)
  gone_alike rr gap moment small later = (is_kept_of rr).gaps gap moment small later

  module _ (moment : ℕ) (later : now past ≤ moment) where
    way_alike : (heard : Heard) (question : Question) (rr : Rr) → rr.ttl ≤ most_ttl → way_for (λ r. last_of r kept) heard moment question rr ≡ way_for (λ r. last_multicast r past) heard moment question rr
    way_alike heard question rr small =
        ap (λ b. cond (not (heard.from.port == mdns_port) || (question.unicast && b)) (One heard.from) All) ((is_kept_of rr).recent moment later small)

    owed_alike : (own : Ours) (heard : Heard) → HaveOwnTtls own.records → HaveOwnTtls own.names → owed_by own (λ r. last_of r kept) heard moment ≡ owed_by own (λ r. last_multicast r past) heard moment
    owed_alike own heard records names =
        ap (each_once owed_eq) (flat_like (owed_for own (λ r. last_of r kept) heard moment) (owed_for own (λ r. last_multicast r past) heard moment) heard.message.questions each)
      where
        each : (question : Question) → owed_for own (λ r. last_of r kept) heard moment question ≡ owed_for own (λ r. last_multicast r past) heard moment question
        each question =
            map_like (with_way (λ r. last_of r kept) heard moment question) (with_way (λ r. last_multicast r past) heard moment question) (unstruck own heard question)
            (λ rr m. ap (λ way. let owed : Owed = (rr, way) in owed)
            (way_alike heard question rr (owed_ttl own question rr records names (of_filter (λ r. not (is_struck heard.message.answers r)) rr (owed_to own question) m).0)))

    let_go_alike : (due : List Wanted) (rr : Rr) → is_let_go (λ r. last_of r kept) moment due rr ≡ is_let_go (λ r. last_multicast r past) moment due rr
    let_go_alike due rr =
        ap (λ b. b || (list_any (λ wanted. (wanted.0).probing && same wanted.1 rr) due && is_long_ago defence_gap moment (last_of rr kept))) (gone_alike rr multicast_gap moment (omega arith) later)
        ∙ ap (λ b. is_long_ago multicast_gap moment (last_multicast rr past) || (list_any (λ wanted. (wanted.0).probing && same wanted.1 rr) due && b)) (gone_alike rr defence_gap moment (omega arith) later)

    released_alike : (queries : List Query) → released_by (λ r. last_of r kept) moment queries ≡ released_by (λ r. last_multicast r past) moment queries
    unfolding released_by
    released_alike queries =
        let due : List Wanted = flat_map (wanted_of moment) queries in
        ap (ordered record_cmp) (filter_like (is_let_go (λ r. last_of r kept) moment due) (is_let_go (λ r. last_multicast r past) moment due) (map (λ wanted. wanted.1) due) (let_go_alike due))

    ready_alike : (query : Query) (rr : Rr) → nat_lt moment (ready_at query (last_of rr kept)) ≡ nat_lt moment (ready_at query (last_multicast rr past))
    ready_alike query rr =
        ready_told query moment (last_of rr kept)
        ∙ ap (λ b. not (nat_le query.due moment && b)) (gone_alike rr (gap_of query) moment (gap_within query) later)
        ∙ sym (ready_told query moment (last_multicast rr past))

    moment_alike : (query : Query) (owed : Owed) → nat_lt moment (moment_of (λ r. last_of r kept) query owed) ≡ nat_lt moment (moment_of (λ r. last_multicast r past) query owed)
    moment_alike query owed = of (is_to_all owed)
      where
        of : (b : Bool) → nat_lt moment (cond b (ready_at query (last_of owed.0 kept)) query.due) ≡ nat_lt moment (cond b (ready_at query (last_multicast owed.0 past)) query.due)
        of true = ready_alike query owed.0
        of false = refl

    waiting_alike : (queries : List Query) → list_all (waits (λ r. last_of r kept) moment) queries ≡ list_all (waits (λ r. last_multicast r past) moment) queries
    waiting_alike queries =
        all_like (waits (λ r. last_of r kept) moment) (waits (λ r. last_multicast r past) moment) queries
        (λ query. all_like (λ owed. nat_lt moment (moment_of (λ r. last_of r kept) query owed)) (λ owed. nat_lt moment (moment_of (λ r. last_multicast r past) query owed)) query.owed (moment_alike query))

  query_alike : (own : Ours) (news : News) (heard : Heard) → now past ≤ news.moment → HaveOwnTtls own.records → HaveOwnTtls own.names →
      query_from own (λ r. last_of r kept) news heard ≡ query_from own (λ r. last_multicast r past) news heard
  query_alike own news heard later records names = rw (owed_alike news.moment later own heard records names) refl

  followed_alike : (before after : Ours) (news : News) (queries : List Query) → now past ≤ news.moment → HaveOwnTtls before.records → HaveOwnTtls before.names →
      queries_after before after (λ rr. last_of rr kept) news queries ≡ queries_after before after (λ rr. last_multicast rr past) news queries
  unfolding queries_after
  followed_alike before after news queries later records names =
      ap (λ qs. filter has_owed (map (left_by (λ query owed. is_among after owed.0)) (map (left_by (leaves news)) queries ++ qs))) (of (query_of news.heard))
    where
      of : (o : Option Heard) → queries_from before (λ r. last_of r kept) news o ≡ queries_from before (λ r. last_multicast r past) news o
      of None = refl
      of (Some heard) = ap (λ q. q ∷ []) (query_alike before news heard later records names)

-- Kept last multicasts tell no more.
pub lasts_tell_no_more : LastsTellNoMore
lasts_tell_no_more kept past stands =
    record {
      followed = followed_alike kept past stands;
      released = λ moment queries later. released_alike kept past stands moment later queries;
      waiting = λ moment queries later. waiting_alike kept past stands moment later queries;
    }
