-- What is due is found by its moment, and what isn't changes nothing.
use Rattle.std.proofs.Common.{◌≡◌, ℕ, zero, suc, ◌+◌, ◌<◌, ◌≤◌, min, max, Bool, true, false, cond, not, ◌&&◌, ◌||◌, List, [], ◌∷◌, ◌++◌, length, map, take, drop, get_or, Option, Some, None, refl, ap, sym, subst, ◌∙◌, arith, append-nil, append_assoc, add-one, ⊎_elim, ◌^◌, ◌-◌}
use Rattle.std.specs.Prelude.{filter, nat_le, IfNone, IfSome}
use Rattle.std.specs.List.{list_any, flat_map, All as AllOf, AllByRecursion}
use Rattle.std.proofs.Math.Seq.{take-length}
use Rattle.std.proofs.lemmas.Bool.{lt-leb, cases_lt}
use Rattle.std.proofs.lemmas.List.{get_or-map, take_more, take_all, take-append-le, length-map}
use Rattle.std.proofs.lemmas.List.Concat.{flat_map-append}
use Rattle.std.proofs.lemmas.List.Elements.{All-head, All-tail, filter-append}
use Rattle.mdns_base.specs.declared.host.Dest.TheVariants.{All}
use Rattle.mdns_base.specs.Hosts.{dest_eq}
use Rattle.lists.specs.Lists.{least, least_of}
use Rattle.lists.proofs.Least.{least_of-append}
use Rattle.dns_record.specs.declared.record.Rr.{Rr}
use Rattle.dns_record.specs.Records.{same}
use Rattle.mdns_history.specs.Hearings.{counted_records, query_of}
use Rattle.mdns_history.specs.Debts.{Owed, is_multicast}
use Rattle.mdns_happened.specs.declared.happened.Happened.{Happened}
use Rattle.mdns_happened.specs.declared.happened.Happened.TheVariants as happened
use Rattle.mdns_happened.specs.Told.{told_by}
use Rattle.mdns_timer.specs.Parts.{NoneDue, IsFirstDue}
use Rattle.mdns_timer.specs.Tree.{moment_at}
use Rattle.mdns_debts.specs.Queries.{Query, is_to_all, replies_at, records_for, reply_unless}
use Rattle.mdns_debts.specs.Releasing.{Wanted, is_let_go, wanted_of, ready_at}
use Rattle.mdns_debts.specs.Following.{News, strikes, leaves, left_by, has_owed, moment_of, next_reply}
use Rattle.mdns_owing.specs.Owing.{moments_of, released_of, IsNoSooner, AreNoSooner, MeetsDueAlone}

-- an element of a list that has some
some_of : {X : Type 0} (xs : List X) (i : ℕ) → i < length xs → X
some_of [] i h = absurd (omega arith)
some_of (x ∷ xs) i h = x

-- the moment at a place is that of the query there
moment_there : (queries : List Query) (k : ℕ) (d : Query) → k < length queries → moment_at (moments_of queries) k ≡ (get_or queries k d).due
moment_there queries k d within = get_or-map (λ (query : Query). query.due) queries k d (2 ^ 64 - 1) within

pub length_timed : (queries : List Query) (moments : List ℕ) → moments ≡ moments_of queries → length moments ≡ length queries
length_timed queries moments timed = ap length timed ∙ length-map queries (λ query. query.due)

-- a query between two places of which none is due
pub undue : (queries : List Query) (moments : List ℕ) (now from place : ℕ) → moments ≡ moments_of queries → place ≤ length queries → NoneDue moments now from place →
    (k : ℕ) (d : Query) → from ≤ k → k < place → nat_le (get_or queries k d).due now ≡ false
undue queries moments now from place timed within none k d behind below =
    let later : now < moment_at moments k = none k behind below in
    let is : moment_at moments k ≡ (get_or queries k d).due = ap (λ (ms : List ℕ). moment_at ms k) timed ∙ moment_there queries k d (omega (arith, below, within)) in
    lt-leb (get_or queries k d).due now (omega (arith, later, is))

-- ---- lists that are gone over with gaps

pub skipped : {X Y : Type 0} (f : X → List Y) (xs : List X) (from place : ℕ) → from ≤ place → place ≤ length xs → ((k : ℕ) (d : X) → from ≤ k → k < place → f (get_or xs k d) ≡ []) →
    flat_map f (take place xs) ≡ flat_map f (take from xs)
skipped f xs zero zero h within none = refl
skipped f xs (suc from) zero h within none = absurd (omega arith)
skipped f [] zero (suc place) h within none = absurd (omega arith)
skipped f [] (suc from) (suc place) h within none = absurd (omega arith)
skipped f (x ∷ xs) zero (suc place) h within none =
    ap (λ l. l ++ flat_map f (take place xs)) (none 0 x (omega arith) (omega arith)) ∙ skipped f xs zero place (omega arith) (omega arith) (λ k d behind below. none (suc k) d (omega arith) (omega arith))
skipped f (x ∷ xs) (suc from) (suc place) h within none =
    ap (λ l. f x ++ l) (skipped f xs from place (omega arith) (omega arith) (λ k d behind below. none (suc k) d (omega arith) (omega arith)))

-- what one more gives behind what the others gave
pub flat_next : {X Y : Type 0} (f : X → List Y) (xs : List X) (from place : ℕ) (x : X) (start before after : List Y) → from ≤ place → place < length xs → x ≡ get_or xs place x →
    ((k : ℕ) (d : X) → from ≤ k → k < place → f (get_or xs k d) ≡ []) → before ≡ start ++ flat_map f (take from xs) → after ≡ before ++ f x → after ≡ start ++ flat_map f (take (place + 1) xs)
flat_next f xs from place x start before after past within is none had put =
    put
    ∙ ap (λ l. l ++ f x) (had ∙ ap (λ l. start ++ l) (sym (skipped f xs from place past (omega arith) none)))
    ∙ append_assoc start (flat_map f (take place xs)) (f x)
    ∙ ap (λ l. start ++ (flat_map f (take place xs) ++ l)) (sym (append-nil (f x)))
    ∙ ap (λ l. start ++ l) (sym (flat_map-append f (take place xs) (x ∷ [])))
    ∙ ap (λ l. start ++ flat_map f l) (ap (λ y. take place xs ++ y ∷ []) is ∙ sym (take_more xs place x within))

pub flat_all : {X Y : Type 0} (f : X → List Y) (xs : List X) (from : ℕ) (start found : List Y) → from ≤ length xs → ((k : ℕ) (d : X) → from ≤ k → k < length xs → f (get_or xs k d) ≡ []) →
    found ≡ start ++ flat_map f (take from xs) → found ≡ start ++ flat_map f xs
flat_all f xs from start found within none had = had ∙ ap (λ l. start ++ l) (sym (skipped f xs from (length xs) within (omega arith) none) ∙ ap (flat_map f) (take-length xs))

-- elements that a change leaves as they are
pub left_between : {X : Type 0} (f : X → X) (xs : List X) (from place : ℕ) → from ≤ place → place ≤ length xs → ((k : ℕ) (d : X) → from ≤ k → k < place → f (get_or xs k d) ≡ get_or xs k d) →
    map f (take from xs) ++ drop from xs ≡ map f (take place xs) ++ drop place xs
left_between f xs zero zero h within same = refl
left_between f xs (suc from) zero h within same = absurd (omega arith)
left_between f [] zero (suc place) h within same = absurd (omega arith)
left_between f [] (suc from) (suc place) h within same = absurd (omega arith)
left_between f (x ∷ xs) zero (suc place) h within same =
    ap (λ y. y ∷ xs) (sym (same 0 x (omega arith) (omega arith)))
    ∙ ap (λ l. f x ∷ l) (left_between f xs zero place (omega arith) (omega arith) (λ k d behind below. same (suc k) d (omega arith) (omega arith)))
left_between f (x ∷ xs) (suc from) (suc place) h within same =
    ap (λ l. f x ∷ l) (left_between f xs from place (omega arith) (omega arith) (λ k d behind below. same (suc k) d (omega arith) (omega arith)))

pub left_whole : {X : Type 0} (f : X → X) (xs : List X) → map f (take (length xs) xs) ++ drop (length xs) xs ≡ map f xs
left_whole f [] = refl
left_whole f (x ∷ xs) = ap (λ l. f x ∷ l) (left_whole f xs)

-- ---- what isn't due

released_none : (lasts : Rr → Option ℕ) (now : ℕ) (queries : List Query) (query : Query) → nat_le query.due now ≡ false → released_of lasts now queries query ≡ []
released_none lasts now queries query late =
    ap (λ (b : Bool). filter (is_let_go lasts now (flat_map (wanted_of now) queries)) (map (λ (wanted : Wanted). wanted.1) (cond b (map (λ (owed : Owed). (query, owed.0)) (filter is_to_all query.owed)) []))) late

pub released_undue : (lasts : Rr → Option ℕ) (now : ℕ) (queries : List Query) (moments : List ℕ) (from place : ℕ) → moments ≡ moments_of queries → place ≤ length queries → NoneDue moments now from place →
    (k : ℕ) (d : Query) → from ≤ k → k < place → released_of lasts now queries (get_or queries k d) ≡ []
released_undue lasts now queries moments from place timed within none k d behind below = released_none lasts now queries (get_or queries k d) (undue queries moments now from place timed within none k d behind below)

pub replies_undue : (now : ℕ) (queries : List Query) (moments : List ℕ) (from place : ℕ) → moments ≡ moments_of queries → place ≤ length queries → NoneDue moments now from place →
    (k : ℕ) (d : Query) → from ≤ k → k < place → replies_at now (get_or queries k d) ≡ []
replies_undue now queries moments from place timed within none k d behind below =
    ap (λ (b : Bool). cond b (reply_unless (get_or queries k d) (records_for (get_or queries k d))) []) (undue queries moments now from place timed within none k d behind below)

all_stay : {X : Type 0} (p : X → Bool) (xs : List X) → ((x : X) → p x ≡ true) → filter p xs ≡ xs
all_stay p [] h = refl
all_stay p (x ∷ xs) h = ap (λ b. cond b (x ∷ filter p xs) (filter p xs)) (h x) ∙ ap (λ l. x ∷ l) (all_stay p xs h)

pub each_stays : {X : Type 0} (p : X → Bool) (xs : List X) → AllOf (λ x. p x ≡ true) xs → filter p xs ≡ xs
each_stays p [] h = refl
each_stays p (x ∷ xs) h =
    ap (λ b. cond b (x ∷ filter p xs) (filter p xs)) (All-head (λ y. p y ≡ true) x xs h) ∙ ap (λ l. x ∷ l) (each_stays p xs (All-tail (λ y. p y ≡ true) x xs h))

-- what isn't due is left where it isn't multicast and nothing is heard
pub leaves_unmet : (news : News) (query : Query) (owed : Owed) → news.heard ≡ None → nat_le query.due news.moment ≡ false → is_multicast owed.0 news.multicast ≡ false → leaves news query owed ≡ true
leaves_unmet news query owed unheard late apart =
    (λ i. not (strikes query owed (query_of (unheard i)))
    && not (cond (dest_eq owed.1 All) (apart i || list_any (λ rr. same owed.0 rr && nat_le (owed.0).ttl rr.ttl) (counted_records (unheard i))) (news.tick && late i)))
    ∙ of (dest_eq owed.1 All) news.tick
  where
    of : (all tick : Bool) → not (cond all false (tick && false)) ≡ true
    of true tick = refl
    of false true = refl
    of false false = refl

pub stays_undue : (news : News) (queries : List Query) (moments : List ℕ) (from place : ℕ) → MeetsDueAlone news → moments ≡ moments_of queries → place ≤ length queries → NoneDue moments news.moment from place →
    (k : ℕ) (d : Query) → from ≤ k → k < place → left_by (leaves news) (get_or queries k d) ≡ get_or queries k d
stays_undue news queries moments from place alone timed within none k d behind below =
    let query : Query = get_or queries k d in
    ap (λ (owed : List Owed). record query { owed = owed }) (all_stay (leaves news query) query.owed (λ owed.
    leaves_unmet news query owed alone.heard (undue queries moments news.moment from place timed within none k d behind below) (ap (is_multicast owed.0) alone.multicast)))

-- when time has passed nothing was heard
pub ticked_unheard : (it : Happened) → (told_by it).ticks ≡ true → (told_by it).heard ≡ None
ticked_unheard happened.Ticked h = refl
ticked_unheard (happened.Heard said) h = absurd (cc)
ticked_unheard (happened.Refused why) h = refl
ticked_unheard (happened.Opened session) h = refl
ticked_unheard (happened.Called session op request code) h = refl
ticked_unheard (happened.Detached session) h = refl
ticked_unheard (happened.Took session max) h = refl
ticked_unheard (happened.Nothing why) h = refl

-- ---- what queries are owed less doesn't move their moments

pub timed_left : (test : Query → Owed → Bool) (queries : List Query) → moments_of (map (left_by test) queries) ≡ moments_of queries
timed_left test [] = refl
timed_left test (query ∷ queries) = ap (λ l. query.due ∷ l) (timed_left test queries)

-- what is written back to where the queries stood
pub timed_written : (test : Query → Owed → Bool) (queries before after rest : List Query) (moments : List ℕ) (len : ℕ) → moments ≡ moments_of queries → len ≡ length queries → before ≡ queries →
    after ≡ map (left_by test) before → moments ≡ moments_of (take len (after ++ rest))
timed_written test queries before after rest moments len timed long is left =
    let e : after ≡ map (left_by test) queries = left ∙ ap (map (left_by test)) is in
    let same : length after ≡ length queries = ap length e ∙ length-map queries (left_by test) in
    let all : take len (after ++ rest) ≡ after = take-append-le len after rest (omega arith) ∙ take_all len after (omega arith) in
    timed ∙ sym (timed_left test queries) ∙ ap moments_of (sym e ∙ sym all)

-- what is dropped before a query comes is dropped with it
pub dropped_then_put : (queries come : List Query) → filter has_owed queries ++ filter has_owed come ≡ filter has_owed (queries ++ come)
dropped_then_put queries come = sym (filter-append has_owed queries come)

-- ---- the first moment

least_stays : (n : ℕ) (ms : List ℕ) → AllByRecursion (λ m. n ≤ m) ms → least_of n ms ≡ n
least_stays n [] h = refl
least_stays n (m ∷ ms) h = ap (λ k. min m k) (least_stays n ms h.1) ∙ less m n h.0
  where
    less : (a b : ℕ) → b ≤ a → min a b ≡ b
    less a b g = omega arith

least_kept : (first : ℕ) (xs ys : List ℕ) → Some first ≡ least xs → AllByRecursion (λ m. first ≤ m) ys → Some first ≡ least (xs ++ ys)
least_kept first [] ys e h = absurd (cc)
least_kept first (x ∷ xs) ys e h =
    let is : first ≡ least_of x xs = cc in
    ap Some (sym (least_stays first ys h) ∙ ap (λ n. least_of n ys) is ∙ sym (least_of-append x xs ys))

module _ (lasts : Rr → Option ℕ) where
  abbrev pub moments_for : Query → List ℕ
  moments_for query = map (moment_of lasts query) query.owed

  no_sooner : (first : ℕ) (query : Query) → first ≤ query.due → AllByRecursion (λ m. first ≤ m) (moments_for query)
  no_sooner first query h = each query.owed
    where
      ready : (last : Option ℕ) → first ≤ ready_at query last
      ready None = h
      ready (Some last) = omega arith

      one : (owed : Owed) (all : Bool) → first ≤ cond all (ready_at query (lasts owed.0)) query.due
      one owed true = ready (lasts owed.0)
      one owed false = h

      each : (them : List Owed) → AllByRecursion (λ m. first ≤ m) (map (moment_of lasts query) them)
      each [] = tt
      each (owed ∷ them) = (one owed (is_to_all owed), each them)

  -- one query more that is due no sooner doesn't change the first moment
  one_kept : (queries : List Query) (first : Option ℕ) (place : ℕ) → place < length queries → ((d : Query) → IsNoSooner first (get_or queries place d).due) →
      first ≡ next_reply lasts (take place queries) → first ≡ next_reply lasts (take (suc place) queries)
  one_kept queries first place within none had = of first refl had
    where
      d : Query
      d = some_of queries place within

      of : (one : Option ℕ) → first ≡ one → first ≡ next_reply lasts (take place queries) → first ≡ next_reply lasts (take (suc place) queries)
      of None e before = absurd (subst (λ (o : Option ℕ). IsNoSooner o (get_or queries place d).due) e (none d))
      of (Some at) e before =
          let sooner : at ≤ (get_or queries place d).due = subst (λ (o : Option ℕ). IsNoSooner o (get_or queries place d).due) e (none d) in
          e
          ∙ least_kept at (flat_map moments_for (take place queries)) (moments_for (get_or queries place d)) (sym e ∙ before) (no_sooner at (get_or queries place d) sooner)
          ∙ ap (λ l. least (flat_map moments_for (take place queries) ++ l)) (sym (append-nil (moments_for (get_or queries place d))))
          ∙ ap least (sym (flat_map-append moments_for (take place queries) (get_or queries place d ∷ [])))
          ∙ ap (λ l. least (flat_map moments_for l)) (sym (sym (ap (λ n. take n queries) (add-one place)) ∙ take_more queries place d within))

  -- nor do several
  first_kept : (queries : List Query) (first : Option ℕ) (from place : ℕ) → from ≤ place → place ≤ length queries → ((k : ℕ) (d : Query) → from ≤ k → k < place → IsNoSooner first (get_or queries k d).due) →
      first ≡ next_reply lasts (take from queries) → first ≡ next_reply lasts (take place queries)
  first_kept queries first from zero h within none had = let start : from ≡ 0 = omega arith in had ∙ ap (λ n. next_reply lasts (take n queries)) start
  first_kept queries first from (suc place) h within none had =
      ⊎_elim
      (λ less. one_kept queries first place (omega arith) (λ d. none place d (omega arith) (omega arith))
      (first_kept queries first from place (omega arith) (omega arith) (λ k d behind below. none k d behind (omega arith)) had))
      (λ end. let all : from ≡ suc place = omega arith in had ∙ ap (λ n. next_reply lasts (take n queries)) all)
      (cases_lt from (suc place))

  -- one more that may be sooner
  pub first_next : (queries : List Query) (moments : List ℕ) (first : Option ℕ) (from place : ℕ) → moments ≡ moments_of queries → from ≤ place → place ≤ length queries → AreNoSooner moments first from place →
      first ≡ next_reply lasts (take from queries) → first ≡ next_reply lasts (take place queries)
  first_next queries moments first from place timed past within none had =
      first_kept queries first from place past within
      (λ k d behind below. subst (IsNoSooner first) (ap (λ (ms : List ℕ). moment_at ms k) timed ∙ moment_there queries k d (omega (arith, below, within))) (none k behind below)) had

-- ---- where a place is sought that is sooner

module _ (moments : List ℕ) (first : Option ℕ) (at before from : ℕ) (is : first ≡ Some at) (less : before ≡ at - 1) where
  -- what isn't due a moment before the first one is no sooner
  no_sooner_than : (end : ℕ) → NoneDue moments before from end → AreNoSooner moments first from end
  no_sooner_than end none k behind below =
      let later : before < moment_at moments k = none k behind below in
      subst (λ (o : Option ℕ). IsNoSooner o (moment_at moments k)) (sym is) (let same : before ≡ at - 1 = less in let so : at ≤ moment_at moments k = omega arith in so)

  pub none_sooner : (place : Option ℕ) → IfNone place (NoneDue moments before from (length moments)) → IfNone place (AreNoSooner moments first from (length moments))
  none_sooner None none = no_sooner_than (length moments) none
  none_sooner (Some place) none = tt

  pub some_sooner : (place : Option ℕ) → IfSome place (IsFirstDue moments before from) → IfSome place (AreNoSooner moments first from)
  some_sooner None found = tt
  some_sooner (Some place) found = no_sooner_than place found.first

pub some_behind : (moments : List ℕ) (before from : ℕ) (place : Option ℕ) → IfSome place (IsFirstDue moments before from) → IfSome place (λ place. from ≤ place)
some_behind moments before from None found = tt
some_behind moments before from (Some place) found = found.behind
