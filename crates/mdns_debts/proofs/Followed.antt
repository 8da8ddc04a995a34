-- One more entry carries the queries that are owed something on as it tells.
use Rattle.std.proofs.Common.{◌≡◌, ℕ, ◌+◌, Bool, true, false, cond, not, ◌&&◌, ◌||◌, List, [], ◌∷◌, ◌++◌, map, length, Option, Some, None, refl, ap, ◌∙◌, sym}
use Rattle.std.specs.Prelude.{filter, nat_lt}
use Rattle.std.specs.List.{list_any, list_all, flat_map}
use Rattle.dns_name.specs.Names.{folded_eq}
use Rattle.lists.specs.Lists.{each_once}
use Rattle.lists.proofs.InOrder.{any-filter}
use Rattle.dns_record.specs.declared.record.Rr.{Rr}
use Rattle.dns_record.specs.declared.record.Question.{Question}
use Rattle.dns_record.specs.Records.{same, matches}
use Rattle.mdns_history.specs.declared.entry.Entry.{Entry}
use Rattle.mdns_history.specs.Hearings.{Heard, heard_in, query_of}
use Rattle.mdns_history.specs.Groups.{group_name, unique_records}
use Rattle.mdns_history.specs.Sureness.{sure_groups, own_records, is_own}
use Rattle.mdns_history.specs.Debts as debts
use Rattle.mdns_history.specs.Debts.{Debt, Owed, owed_eq, is_unique, nsec_record, nsecs_of, own_or_nsec, is_nsec, is_struck, is_ours, stays_open, last_multicast}
use Rattle.mdns_debts.specs.Queries.{Query, Placed, debt_in, repeated, query_at, placed_at, keeping, is_owed, owed_queries}
use Rattle.mdns_debts.specs.Following.{strikes, meets, owed_to, way_for, owed_by, query_from, queries_from, leaves, is_among, left_by, has_owed, queries_after, own_in, news_of, AreFollowed}
use Rattle.mdns_asserts.proofs.Published.{same_owner, name_symm}
use Rattle.mdns_debts.proofs.Debts.{filter_map-keeps, map-append, filter_like}

-- the NSEC records of a name
nsecs_told : (name : List (List ℕ)) (history : List Entry) → nsecs_of name history ≡ filter (λ rr. folded_eq rr.owner name) (own_in history).names
unfolding nsec_record
nsecs_told name history = sym (filter_map-keeps (λ (rr : Rr). folded_eq rr.owner name) (λ group. nsec_record (group_name group history) (unique_records group history)) (sure_groups history))

owed_told : (history : List Entry) (question : Question) → debts.owed_to history question ≡ owed_to (own_in history) question
unfolding debts.owed_to
owed_told history question =
    ap (λ nsecs. own_or_nsec (filter (matches (record { name = question.name; kind = question.kind })) (own_records history)) nsecs question) (nsecs_told question.name history)

pub flat_like : {X Y : Type 0} (f g : X → List Y) (xs : List X) → ((x : X) → f x ≡ g x) → flat_map f xs ≡ flat_map g xs
flat_like f g [] h = refl
flat_like f g (x ∷ xs) h = ap (λ zs. zs ++ flat_map f xs) (h x) ∙ ap (λ zs. g x ++ zs) (flat_like f g xs h)

all_owed_told : (heard : Heard) (entry : Entry) (past : List Entry) → debts.owed_by heard entry past ≡ owed_by (own_in past) (λ rr. last_multicast rr past) heard entry.moment
all_owed_told heard entry past = ap (each_once owed_eq) (flat_like (debts.owed_for heard entry past)
    (λ question. map (λ rr. (rr, way_for (λ r. last_multicast r past) heard entry.moment question rr)) (filter (λ rr. not (is_struck heard.message.answers rr)) (owed_to (own_in past) question)))
    heard.message.questions
    (λ question. ap (λ rrs. map (λ rr. (rr, way_for (λ r. last_multicast r past) heard entry.moment question rr)) (filter (λ rr. not (is_struck heard.message.answers rr)) rrs)) (owed_told past question)))

query_told : (heard : Heard) (entry : Entry) (past : List Entry) → query_at heard entry past ≡ query_from (own_in past) (λ rr. last_multicast rr past) (news_of entry) heard
query_told heard entry past =
    ap (λ (owed : List Owed). let q : Query = record {
      from = heard.from;
      id = heard.message.id;
      questions = repeated heard;
      truncated = heard.message.truncated;
      probing = nat_lt 0 (length heard.message.authority);
      due = entry.moment + debts.debt_wait heard entry.word (list_all (λ o. is_unique o.0) owed);
      owed = owed;
    } in q) (all_owed_told heard entry past)

made_told : (o : Option Heard) (entry : Entry) (past : List Entry) → map (λ (p : Placed). p.1) (placed_at o entry past) ≡ queries_from (own_in past) (λ rr. last_multicast rr past) (news_of entry) o
made_told None entry past = refl
made_told (Some heard) entry past = ap (λ q. q ∷ []) (query_told heard entry past)

-- what is the daemon's to send
among_names : (rr : Rr) (rrs : List Rr) → list_any (same rr) (filter (λ r. folded_eq r.owner rr.owner) rrs) ≡ list_any (same rr) rrs
among_names rr [] = refl
among_names rr (r ∷ rrs) = any-filter (same rr) (λ x. folded_eq x.owner rr.owner) (r ∷ rrs) ∙ each (r ∷ rrs)
  where
    each : (xs : List Rr) → list_any (λ x. folded_eq x.owner rr.owner && same rr x) xs ≡ list_any (same rr) xs
    each [] = refl
    each (x ∷ xs) = one (same rr x) refl (each_rest xs)
      where
        each_rest : (ys : List Rr) → list_any (λ y. folded_eq y.owner rr.owner && same rr y) ys ≡ list_any (same rr) ys
        each_rest [] = refl
        each_rest (y ∷ ys) = two (same rr y) refl (each_rest ys)
          where
            two : (b : Bool) → same rr y ≡ b → list_any (λ z. folded_eq z.owner rr.owner && same rr z) ys ≡ list_any (same rr) ys →
                ((folded_eq y.owner rr.owner && same rr y) || list_any (λ z. folded_eq z.owner rr.owner && same rr z) ys) ≡ (same rr y || list_any (same rr) ys)
            two true e rest = rw (e, name_symm rr.owner y.owner (same_owner rr y e)) refl
            two false e rest = rw e (no (folded_eq y.owner rr.owner) rest)
              where
                no : (c : Bool) → list_any (λ z. folded_eq z.owner rr.owner && same rr z) ys ≡ list_any (same rr) ys → ((c && false) || list_any (λ z. folded_eq z.owner rr.owner && same rr z) ys) ≡ list_any (same rr) ys
                no true r = r
                no false r = r

        one : (b : Bool) → same rr x ≡ b → list_any (λ z. folded_eq z.owner rr.owner && same rr z) xs ≡ list_any (same rr) xs →
            ((folded_eq x.owner rr.owner && same rr x) || list_any (λ z. folded_eq z.owner rr.owner && same rr z) xs) ≡ (same rr x || list_any (same rr) xs)
        one true e rest = rw (e, name_symm rr.owner x.owner (same_owner rr x e)) refl
        one false e rest = rw e (no (folded_eq x.owner rr.owner) rest)
          where
            no : (c : Bool) → list_any (λ z. folded_eq z.owner rr.owner && same rr z) xs ≡ list_any (same rr) xs → ((c && false) || list_any (λ z. folded_eq z.owner rr.owner && same rr z) xs) ≡ list_any (same rr) xs
            no true r = r
            no false r = r

ours_told : (rr : Rr) (history : List Entry) → is_ours rr history ≡ is_among (own_in history) rr
unfolding is_ours is_own
ours_told rr history =
    ap (λ b. cond (is_nsec rr) b (list_any (same rr) (own_records history))) (ap (list_any (same rr)) (nsecs_told rr.owner history) ∙ among_names rr (own_in history).names)

-- a query without its place, after a test that doesn't see the place
kept_told : (test : Debt → Bool) (told : Query → Owed → Bool) → ((place : ℕ) (query : Query) (owed : Owed) → test (debt_in place query owed) ≡ told query owed) → (ps : List Placed) →
    map (λ (p : Placed). p.1) (map (keeping test) ps) ≡ map (left_by told) (map (λ (p : Placed). p.1) ps)
kept_told test told same_test [] = refl
kept_told test told same_test (p ∷ ps) =
    ap (λ (owed : List Owed). let q : Query = record p.1 { owed = owed } in q ∷ map (λ (x : Placed). x.1) (map (keeping test) ps)) (filter_like (λ owed. test (debt_in p.0 p.1 owed)) (told p.1) (p.1).owed (same_test p.0 p.1))
    ∙ ap (λ qs. left_by told p.1 ∷ qs) (kept_told test told same_test ps)

owed_told_all : (ps : List Placed) → map (λ (p : Placed). p.1) (filter is_owed ps) ≡ filter has_owed (map (λ (p : Placed). p.1) ps)
owed_told_all ps = sym (filter_map-keeps has_owed (λ (p : Placed). p.1) ps)

-- One more entry carries the queries on as it tells.
pub are_followed : AreFollowed
unfolding owed_queries queries_after
are_followed entry past =
    let ours : Debt → Bool = λ debt. is_ours debt.rr (entry ∷ past) in
    let before : List Placed = map (keeping (stays_open entry)) (owed_queries past) in
    let made : List Placed = placed_at (query_of (heard_in entry)) entry past in
    let queries : List Query = map (λ (p : Placed). p.1) (owed_queries past) in
    owed_told_all (map (keeping ours) (before ++ made))
    ∙ ap (filter has_owed) (kept_told ours (λ query owed. is_among (own_in (entry ∷ past)) owed.0) (λ place query owed. ours_told owed.0 (entry ∷ past)) (before ++ made))
    ∙ ap (λ qs. filter has_owed (map (left_by (λ query owed. is_among (own_in (entry ∷ past)) owed.0)) qs)) (map-append (λ (p : Placed). p.1) before made)
    ∙ ap (λ qs. filter has_owed (map (left_by (λ query owed. is_among (own_in (entry ∷ past)) owed.0)) (qs ++ map (λ (p : Placed). p.1) made))) (kept_told (stays_open entry) (leaves (news_of entry)) (λ place query owed. stays_told (query_of (heard_in entry)) place query owed) (owed_queries past))
    ∙ ap (λ qs. filter has_owed (map (left_by (λ query owed. is_among (own_in (entry ∷ past)) owed.0)) (map (left_by (leaves (news_of entry))) queries ++ qs))) (made_told (query_of (heard_in entry)) entry past)
  where
    stays_told : (o : Option Heard) (place : ℕ) (query : Query) (owed : Owed) →
        (not (debts.strikes (debt_in place query owed) o) && not (debts.meets (debt_in place query owed) entry)) ≡ (not (strikes query owed o) && not (meets (news_of entry) query owed))
    stays_told None place query owed = refl
    stays_told (Some heard) place query owed = refl
