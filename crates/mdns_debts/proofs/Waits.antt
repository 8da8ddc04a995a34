-- When a tick sends nothing for what queries are owed.
use Rattle.std.proofs.Common.{◌≡◌, ℕ, ◌+◌, ◌<◌, ◌≤◌, ◌==◌, ◌⊎◌, inl, inr, max, Bool, true, false, cond, not, ◌&&◌, ◌||◌, List, [], ◌∷◌, ◌++◌, map, Option, Some, None, refl, ap, subst, ◌∙◌, sym, arith}
use Rattle.std.specs.Prelude.{filter, nat_lt, nat_le}
use Rattle.std.specs.List.{list_any, list_all, flat_map}
use Rattle.std.specs.Option.{option_or, option_flatten}
use Rattle.std.specs.Ordering.{is_eq, is_lt}
use Rattle.mdns_base.specs.Hosts.{mdns_port}
use Rattle.lists.specs.Lists.{ordered, sorted_by, insert_by, each_once}
use Rattle.dns_name.proofs.Folding.{same_tests}
use Rattle.dns_record.specs.declared.record.Rr.{Rr}
use Rattle.dns_record.specs.Records.{same, record_cmp}
use Rattle.dns_record.proofs.Same.{same_tells}
use Rattle.dns_message.specs.Packing.{parts_from, parts_of, bare_reply, fits, pack_plain, pack_legacy}
use Rattle.mdns_history.specs.declared.entry.Entry.{Entry}
use Rattle.mdns_history.specs.History.{latest}
use Rattle.mdns_history.specs.Debts.{Owed, is_long_ago, is_multicast, is_goodbye, multicasts_in, multicast_change, last_multicast}
use Rattle.mdns_history.specs.Multicasts.{multicast_gap, defence_gap}
use Rattle.mdns_history.specs.Sending.{to_one}
use Rattle.mdns_history.specs.Due.{is_nothing}
use Rattle.mdns_debts.specs.Queries.{Query, is_to_all, gap_of, records_for, reply_unless, replies_at}
use Rattle.mdns_debts.specs.Releasing.{Wanted, wanted_of, is_let_go, released_by, ready_at}
use Rattle.mdns_debts.specs.Following.{moment_of}
use Rattle.mdns_debts.specs.Waiting.{waits, IsWaiting, AreOfSame}
use Rattle.mdns_asserts.proofs.Elements.{In, in_filter, in_map, in_flat_map, of_map, of_filter, of_flat_map, all_in, of_all, of_any, any_in, or_one, or_two, or_cases, and_both, and_first, and_second, not_true, both_no}

-- tests that agree pass the same lists
pub all_like : {X : Type 0} (p q : X → Bool) (xs : List X) → ((x : X) → p x ≡ q x) → list_all p xs ≡ list_all q xs
all_like p q [] h = refl
all_like p q (x ∷ xs) h = ap (λ b. b && list_all p xs) (h x) ∙ ap (λ b. q x && b) (all_like p q xs h)

-- empty lists
some_not_none : {X : Type 0} (x : X) (xs : List X) → In x xs → is_nothing xs ≡ false
some_not_none x [] m = absurd m
some_not_none x (y ∷ ys) m = refl

none_nothing : {X : Type 0} (xs : List X) → ((x : X) → In x xs → ⊥) → is_nothing xs ≡ true
none_nothing [] h = refl
none_nothing (x ∷ xs) h = absurd (h x (inl refl))

insert_some : (rr : Rr) (rrs : List Rr) → is_nothing (insert_by record_cmp rr rrs) ≡ false
insert_some rr [] = refl
insert_some rr (y ∷ ys) = of (is_lt (record_cmp y rr))
  where
    of : (b : Bool) → is_nothing (cond b (y ∷ insert_by record_cmp rr ys) (rr ∷ y ∷ ys)) ≡ false
    of true = refl
    of false = refl

ordered_nothing : (rrs : List Rr) → is_nothing (ordered record_cmp rrs) ≡ is_nothing rrs
ordered_nothing [] = refl
ordered_nothing (rr ∷ rrs) = insert_some rr (sorted_by record_cmp (filter (λ y. not (is_eq (record_cmp rr y))) (each_once (λ a b. is_eq (record_cmp a b)) rrs)))

-- messages of records
parts_some : (fitting later : List Rr → Bool) (part rrs : List Rr) → is_nothing (parts_from fitting later part rrs) ≡ false
parts_some fitting later part [] = refl
parts_some fitting later part (rr ∷ rrs) = of (fitting (part ++ rr ∷ [])) (parts_some fitting later (part ++ rr ∷ []) rrs)
  where
    of : (b : Bool) → is_nothing (parts_from fitting later (part ++ rr ∷ []) rrs) ≡ false → is_nothing (cond b (parts_from fitting later (part ++ rr ∷ []) rrs) (part ∷ parts_from later later (rr ∷ []) rrs)) ≡ false
    of true h = h
    of false h = refl

map_nothing : {X Y : Type 0} (f : X → Y) (xs : List X) → is_nothing (map f xs) ≡ is_nothing xs
map_nothing f [] = refl
map_nothing f (x ∷ xs) = refl

reply_some : (query : Query) (rrs : List Rr) → is_nothing (reply_unless query rrs) ≡ is_nothing rrs
unfolding pack_plain
reply_some query [] = refl
reply_some query (rr ∷ rrs) = of (query.from.port == mdns_port)
  where
    plain : is_nothing (map (to_one query.from) (map bare_reply (parts_of (λ zs. fits (bare_reply zs)) (rr ∷ rrs)))) ≡ false
    plain =
        map_nothing (to_one query.from) (map bare_reply (parts_of (λ zs. fits (bare_reply zs)) (rr ∷ rrs)))
        ∙ map_nothing bare_reply (parts_of (λ zs. fits (bare_reply zs)) (rr ∷ rrs))
        ∙ parts_some (λ zs. fits (bare_reply zs)) (λ zs. fits (bare_reply zs)) (rr ∷ []) rrs

    of : (b : Bool) → is_nothing (cond b (map (to_one query.from) (map bare_reply (parts_of (λ zs. fits (bare_reply zs)) (rr ∷ rrs)))) (to_one query.from (pack_legacy query.id query.questions (rr ∷ rrs)) ∷ [])) ≡ false
    of true = plain
    of false = refl

-- the gaps
pub gap_within : (query : Query) → gap_of query ≤ 1000
gap_within query = of query.probing
  where
    of : (b : Bool) → cond b defence_gap multicast_gap ≤ 1000
    of true = omega arith
    of false = omega arith

late_false : (gap moment last : ℕ) → moment < last + gap → nat_le (last + gap) moment ≡ false
late_false gap moment last l = grind (arith, l)

late_true : (gap moment last : ℕ) → last + gap ≤ moment → nat_le (last + gap) moment ≡ true
late_true gap moment last l = grind (arith, l)

module _ (lasts : Rr → Option ℕ) (alike : (left right : Rr) → same left right ≡ true → lasts left ≡ lasts right) (queries : List Query) (moment : ℕ) where
  abbrev due : List Wanted
  due = flat_map (wanted_of moment) queries

  -- what is wanted by a multicast, and is due
  pub record IsWanted (wanted : Wanted) : Type 0 where
    pub listed : In wanted.0 queries
    pub owed : Owed
    pub stands : In owed (wanted.0).owed
    pub record_is : wanted.1 ≡ owed.0
    pub way : is_to_all owed ≡ true
    pub come : nat_le (wanted.0).due moment ≡ true

  of_due : (wanted : Wanted) → In wanted (flat_map (wanted_of moment) queries) → IsWanted wanted
  of_due wanted m =
      let found : (query : Query) × In query queries × In wanted (wanted_of moment query) = of_flat_map (wanted_of moment) wanted queries m in
      of found.0 found.1 (nat_le (found.0).due moment) refl found.2
    where
      of : (query : Query) → In query queries → (b : Bool) → nat_le query.due moment ≡ b → In wanted (cond b (map (λ owed. (query, owed.0)) (filter is_to_all query.owed)) []) → IsWanted wanted
      of query listed true e n =
          let one : (owed : Owed) × In owed (filter is_to_all query.owed) × (wanted ≡ (query, owed.0)) = of_map (λ owed. (query, owed.0)) wanted (filter is_to_all query.owed) n in
          let kept : In one.0 query.owed × (is_to_all one.0 ≡ true) = of_filter is_to_all one.0 query.owed one.1 in
          let query_is : wanted.0 ≡ query = ap (λ (w : Wanted). w.0) one.2 in
          record {
            listed = subst (λ q. In q queries) (sym query_is) listed;
            owed = one.0;
            stands = subst (λ (q : Query). In one.0 q.owed) (sym query_is) kept.0;
            record_is = ap (λ (w : Wanted). w.1) one.2;
            way = kept.1;
            come = ap (λ (q : Query). nat_le q.due moment) query_is ∙ e;
          }
      of query listed false e n = absurd n

  in_due : (query : Query) (owed : Owed) → In query queries → In owed query.owed → is_to_all owed ≡ true → nat_le query.due moment ≡ true → In {X = Wanted} (query, owed.0) (flat_map (wanted_of moment) queries)
  in_due query owed listed stands way come = in_flat_map (wanted_of moment) query (query, owed.0) queries listed (subst (λ b. In {X = Wanted} (query, owed.0) (cond b (map (λ (o : Owed). (query, o.0)) (filter is_to_all query.owed)) [])) (sym come)
      (in_map (λ (o : Owed). (query, o.0)) owed (filter is_to_all query.owed) (in_filter is_to_all owed query.owed stands way)))

  -- from what is let go, a query whose record is ready
  abbrev IsReady : Type 0
  IsReady = (query : Query) × (owed : Owed) × In query queries × In owed query.owed × (nat_lt moment (moment_of lasts query owed) ≡ false)

  ready_all : (query : Query) (owed : Owed) → is_to_all owed ≡ true → nat_le query.due moment ≡ true → (o : Option ℕ) → lasts owed.0 ≡ o → is_long_ago (gap_of query) moment o ≡ true → nat_lt moment (moment_of lasts query owed) ≡ false
  ready_all query owed way come None e h =
      let due_by : query.due ≤ moment = grind (arith, come) in
      let is : moment_of lasts query owed ≡ query.due = ap (λ b. cond b (ready_at query (lasts owed.0)) query.due) way ∙ ap (ready_at query) e in
      ap (nat_lt moment) is ∙ grind (arith, due_by)
  ready_all query owed way come (Some last) e h =
      let due_by : query.due ≤ moment = grind (arith, come) in
      let gone_by : last + gap_of query ≤ moment = grind (arith, h) in
      let is : moment_of lasts query owed ≡ max query.due (last + gap_of query) = ap (λ b. cond b (ready_at query (lasts owed.0)) query.due) way ∙ ap (ready_at query) e in
      ap (nat_lt moment) is ∙ late (max query.due (last + gap_of query)) (omega (arith, due_by, gone_by))
    where
      late : (n : ℕ) → n ≤ moment → nat_lt moment n ≡ false
      late n l = grind (arith, l)

  -- a second is long enough for every query
  longer : (query : Query) (o : Option ℕ) → is_long_ago multicast_gap moment o ≡ true → is_long_ago (gap_of query) moment o ≡ true
  longer query None h = refl
  longer query (Some last) h = let all : last + 1000 ≤ moment = grind (arith, h) in let most : gap_of query ≤ 1000 = gap_within query in late_true (gap_of query) moment last (omega (arith, all, most))

  ready_wanted : (w : Wanted) → IsWanted w → (o : Option ℕ) → lasts w.1 ≡ o → is_long_ago (gap_of w.0) moment o ≡ true → IsReady
  ready_wanted w wanted o e h = (w.0, wanted.owed, wanted.listed, wanted.stands, ready_all w.0 wanted.owed wanted.way wanted.come o (sym (ap lasts wanted.record_is) ∙ e) h)

  let_go_ready : (rr : Rr) → In rr (map (λ (w : Wanted). w.1) (flat_map (wanted_of moment) queries)) → is_let_go lasts moment (flat_map (wanted_of moment) queries) rr ≡ true → IsReady
  let_go_ready rr m let_go =
      let found : (w : Wanted) × In w (flat_map (wanted_of moment) queries) × (rr ≡ w.1) = of_map (λ (w : Wanted). w.1) rr (flat_map (wanted_of moment) queries) m in
      of found.0 (of_due found.0 found.1) found.2
      (or_cases (is_long_ago multicast_gap moment (lasts rr)) (list_any (λ (w : Wanted). (w.0).probing && same w.1 rr) (flat_map (wanted_of moment) queries) && is_long_ago defence_gap moment (lasts rr)) let_go)
    where
      of : (w : Wanted) → IsWanted w → rr ≡ w.1 →
          (is_long_ago multicast_gap moment (lasts rr) ≡ true) ⊎ ((list_any (λ (v : Wanted). (v.0).probing && same v.1 rr) (flat_map (wanted_of moment) queries) && is_long_ago defence_gap moment (lasts rr)) ≡ true) → IsReady
      of w wanted e (inl h) = ready_wanted w wanted (lasts rr) (sym (ap lasts e)) (longer w.0 (lasts rr) h)
      of w wanted e (inr h) =
          let asks : list_any (λ (v : Wanted). (v.0).probing && same v.1 rr) (flat_map (wanted_of moment) queries) ≡ true = and_first (list_any (λ (v : Wanted). (v.0).probing && same v.1 rr) (flat_map (wanted_of moment) queries)) (is_long_ago defence_gap moment (lasts rr)) h in
          let gone : is_long_ago defence_gap moment (lasts rr) ≡ true = and_second (list_any (λ (v : Wanted). (v.0).probing && same v.1 rr) (flat_map (wanted_of moment) queries)) (is_long_ago defence_gap moment (lasts rr)) h in
          let other : (v : Wanted) × In v (flat_map (wanted_of moment) queries) × (((v.0).probing && same v.1 rr) ≡ true) = of_any (λ (v : Wanted). (v.0).probing && same v.1 rr) (flat_map (wanted_of moment) queries) asks in
          let probes : ((other.0).0).probing ≡ true = and_first ((other.0).0).probing (same (other.0).1 rr) other.2 in
          let one : same (other.0).1 rr ≡ true = and_second ((other.0).0).probing (same (other.0).1 rr) other.2 in
          ready_wanted other.0 (of_due other.0 other.1) (lasts rr) (alike (other.0).1 rr one) (ap (λ b. is_long_ago (cond b defence_gap multicast_gap) moment (lasts rr)) probes ∙ gone)

  -- what waits isn't let go
  released_none : list_all (waits lasts moment) queries ≡ true → is_nothing (released_by lasts moment queries) ≡ true
  unfolding released_by
  released_none all =
      ordered_nothing (filter (is_let_go lasts moment (flat_map (wanted_of moment) queries)) (map (λ (w : Wanted). w.1) (flat_map (wanted_of moment) queries)))
      ∙ none_nothing (filter (is_let_go lasts moment (flat_map (wanted_of moment) queries)) (map (λ (w : Wanted). w.1) (flat_map (wanted_of moment) queries)))
      (λ rr m. let kept : In rr (map (λ (w : Wanted). w.1) (flat_map (wanted_of moment) queries)) × (is_let_go lasts moment (flat_map (wanted_of moment) queries) rr ≡ true) =
      of_filter (is_let_go lasts moment (flat_map (wanted_of moment) queries)) rr (map (λ (w : Wanted). w.1) (flat_map (wanted_of moment) queries)) m in never (let_go_ready rr kept.0 kept.1))
    where
      never : IsReady → ⊥
      never r = both_no (nat_lt moment (moment_of lasts r.0 r.1)) (of_all (λ (owed : Owed). nat_lt moment (moment_of lasts r.0 owed)) (r.0).owed r.1 (of_all (waits lasts moment) queries r.0 all r.2) r.3) r.4

  -- what is ready is let go
  pub free_some : (query : Query) (owed : Owed) → In query queries → In owed query.owed → is_to_all owed ≡ true → nat_lt moment (moment_of lasts query owed) ≡ false →
      In owed.0 (filter (is_let_go lasts moment (flat_map (wanted_of moment) queries)) (map (λ (w : Wanted). w.1) (flat_map (wanted_of moment) queries)))
  free_some query owed listed stands way ready = of (lasts owed.0) refl
    where
      now_ready : nat_lt moment (ready_at query (lasts owed.0)) ≡ false
      now_ready = sym (ap (λ b. nat_lt moment (cond b (ready_at query (lasts owed.0)) query.due)) way) ∙ ready

      kept : nat_le query.due moment ≡ true → is_let_go lasts moment (flat_map (wanted_of moment) queries) owed.0 ≡ true →
          In owed.0 (filter (is_let_go lasts moment (flat_map (wanted_of moment) queries)) (map (λ (w : Wanted). w.1) (flat_map (wanted_of moment) queries)))
      kept come let_go =
          in_filter (is_let_go lasts moment (flat_map (wanted_of moment) queries)) owed.0 (map (λ (w : Wanted). w.1) (flat_map (wanted_of moment) queries))
          (in_map (λ (w : Wanted). w.1) (query, owed.0) (flat_map (wanted_of moment) queries) (in_due query owed listed stands way come)) let_go

      go_after : nat_le query.due moment ≡ true → (last : ℕ) → lasts owed.0 ≡ Some last → last + gap_of query ≤ moment → (b : Bool) → query.probing ≡ b → is_let_go lasts moment (flat_map (wanted_of moment) queries) owed.0 ≡ true
      go_after come last e l false f =
          let gap : gap_of query ≡ 1000 = ap (λ c. cond c defence_gap multicast_gap) f in
          or_one (is_long_ago multicast_gap moment (lasts owed.0)) (list_any (λ (w : Wanted). (w.0).probing && same w.1 owed.0) (flat_map (wanted_of moment) queries) && is_long_ago defence_gap moment (lasts owed.0))
          (ap (is_long_ago multicast_gap moment) e ∙ late_true 1000 moment last (omega (arith, gap, l)))
      go_after come last e l true f =
          let gap : gap_of query ≡ 250 = ap (λ c. cond c defence_gap multicast_gap) f in
          or_two (is_long_ago multicast_gap moment (lasts owed.0)) (list_any (λ (w : Wanted). (w.0).probing && same w.1 owed.0) (flat_map (wanted_of moment) queries) && is_long_ago defence_gap moment (lasts owed.0))
          (and_both (list_any (λ (w : Wanted). (w.0).probing && same w.1 owed.0) (flat_map (wanted_of moment) queries)) (is_long_ago defence_gap moment (lasts owed.0))
          (any_in (λ (w : Wanted). (w.0).probing && same w.1 owed.0) (flat_map (wanted_of moment) queries) (query, owed.0) (in_due query owed listed stands way come) (and_both query.probing (same owed.0 owed.0) f ((same_tells owed.0 owed.0).1 refl)))
          (ap (is_long_ago defence_gap moment) e ∙ late_true 250 moment last (omega (arith, gap, l))))

      of : (o : Option ℕ) → lasts owed.0 ≡ o → In owed.0 (filter (is_let_go lasts moment (flat_map (wanted_of moment) queries)) (map (λ (w : Wanted). w.1) (flat_map (wanted_of moment) queries)))
      of None e =
          let not_late : nat_lt moment query.due ≡ false = sym (ap (λ o. nat_lt moment (ready_at query o)) e) ∙ now_ready in
          kept (grind (arith, not_late)) (or_one (is_long_ago multicast_gap moment (lasts owed.0)) _ (ap (is_long_ago multicast_gap moment) e))
      of (Some last) e =
          let not_late : nat_lt moment (max query.due (last + gap_of query)) ≡ false = sym (ap (λ o. nat_lt moment (ready_at query o)) e) ∙ now_ready in
          let most : max query.due (last + gap_of query) ≤ moment = grind (arith, not_late) in
          let due_by : query.due ≤ moment = omega (arith, most) in
          let gone_by : last + gap_of query ≤ moment = omega (arith, most) in
          kept (grind (arith, due_by)) (go_after (grind (arith, due_by)) last e gone_by query.probing refl)

  released_some : (query : Query) (owed : Owed) → In query queries → In owed query.owed → is_to_all owed ≡ true → nat_lt moment (moment_of lasts query owed) ≡ false → is_nothing (released_by lasts moment queries) ≡ false
  unfolding released_by
  released_some query owed listed stands way ready =
      ordered_nothing (filter (is_let_go lasts moment (flat_map (wanted_of moment) queries)) (map (λ (w : Wanted). w.1) (flat_map (wanted_of moment) queries)))
      ∙ some_not_none owed.0 (filter (is_let_go lasts moment (flat_map (wanted_of moment) queries)) (map (λ (w : Wanted). w.1) (flat_map (wanted_of moment) queries))) (free_some query owed listed stands way ready)

-- replies to askers
flat_nothing : {X Y : Type 0} (f : X → List Y) (xs : List X) → is_nothing (flat_map f xs) ≡ list_all (λ x. is_nothing (f x)) xs
flat_nothing f [] = refl
flat_nothing {Y = Y} f (x ∷ xs) = of (f x) (flat_nothing f xs)
  where
    of : (ys : List Y) → is_nothing (flat_map f xs) ≡ list_all (λ z. is_nothing (f z)) xs → is_nothing (ys ++ flat_map f xs) ≡ (is_nothing ys && list_all (λ z. is_nothing (f z)) xs)
    of [] e = e
    of (y ∷ ys) e = refl

replies_nothing : (moment : ℕ) (query : Query) → is_nothing (replies_at moment query) ≡ cond (nat_le query.due moment) (is_nothing (filter (λ owed. not (is_to_all owed)) query.owed)) true
replies_nothing moment query = of (nat_le query.due moment)
  where
    of : (b : Bool) → is_nothing (cond b (reply_unless query (records_for query)) []) ≡ cond b (is_nothing (filter (λ owed. not (is_to_all owed)) query.owed)) true
    of true =
        reply_some query (records_for query)
        ∙ ordered_nothing (map (λ (owed : Owed). owed.0) (filter (λ owed. not (is_to_all owed)) query.owed))
        ∙ map_nothing (λ (owed : Owed). owed.0) (filter (λ owed. not (is_to_all owed)) query.owed)
    of false = refl

-- an element that fails a test that not all pass
one_fails : {X : Type 0} (p : X → Bool) (xs : List X) → list_all p xs ≡ false → (x : X) × In x xs × (p x ≡ false)
one_fails p [] h = cc
one_fails {X = X} p (x ∷ xs) h = of (p x) refl h (one_fails p xs)
  where
    of : (b : Bool) → p x ≡ b → (b && list_all p xs) ≡ false → (list_all p xs ≡ false → (y : X) × In y xs × (p y ≡ false)) → (y : X) × In y (x ∷ xs) × (p y ≡ false)
    of false e g rest = (x, inl refl, e)
    of true e g rest = let found : (y : X) × In y xs × (p y ≡ false) = rest g in (found.0, inr found.1, found.2)

fails_all : {X : Type 0} (p : X → Bool) (xs : List X) (x : X) → In x xs → p x ≡ false → list_all p xs ≡ false
fails_all p xs x m h = of (list_all p xs) refl
  where
    of : (b : Bool) → list_all p xs ≡ b → b ≡ false
    of true e = absurd (both_no (p x) (of_all p xs x e m) h)
    of false e = refl

module _ (lasts : Rr → Option ℕ) (queries : List Query) (moment : ℕ) where
  replies_none : list_all (waits lasts moment) queries ≡ true → is_nothing (flat_map (replies_at moment) queries) ≡ true
  replies_none all =
      flat_nothing (replies_at moment) queries
      ∙ all_in (λ query. is_nothing (replies_at moment query)) queries (λ query m. replies_nothing moment query ∙ of query (of_all (waits lasts moment) queries query all m) (nat_le query.due moment) refl)
    where
      of : (query : Query) → waits lasts moment query ≡ true → (b : Bool) → nat_le query.due moment ≡ b → cond b (is_nothing (filter (λ owed. not (is_to_all owed)) query.owed)) true ≡ true
      of query w false e = refl
      of query w true e = none_nothing (filter (λ owed. not (is_to_all owed)) query.owed) (λ owed m.
          let kept : In owed query.owed × (not (is_to_all owed) ≡ true) = of_filter (λ o. not (is_to_all o)) owed query.owed m in
          let waiting : nat_lt moment (moment_of lasts query owed) ≡ true = of_all (λ (o : Owed). nat_lt moment (moment_of lasts query o)) query.owed owed w kept.0 in
          let later : nat_lt moment query.due ≡ true = sym (ap (λ b. nat_lt moment (cond b (ready_at query (lasts owed.0)) query.due)) (not_true (is_to_all owed) kept.1)) ∙ waiting in
          no query.due e later)
        where
          no : (n : ℕ) → nat_le n moment ≡ true → nat_lt moment n ≡ true → ⊥
          no n h g = let a : n ≤ moment = grind (arith, h) in let b : moment < n = grind (arith, g) in omega (arith, a, b)

  replies_some : (query : Query) (owed : Owed) → In query queries → In owed query.owed → is_to_all owed ≡ false → nat_lt moment (moment_of lasts query owed) ≡ false → is_nothing (flat_map (replies_at moment) queries) ≡ false
  replies_some query owed listed stands way ready =
      let not_late : nat_lt moment query.due ≡ false = sym (ap (λ b. nat_lt moment (cond b (ready_at query (lasts owed.0)) query.due)) way) ∙ ready in
      let come : nat_le query.due moment ≡ true = grind (arith, not_late) in
      flat_nothing (replies_at moment) queries
      ∙ fails_all (λ q. is_nothing (replies_at moment q)) queries query listed
      (replies_nothing moment query ∙ ap (λ b. cond b (is_nothing (filter (λ o. not (is_to_all o)) query.owed)) true) come
      ∙ some_not_none owed (filter (λ o. not (is_to_all o)) query.owed) (in_filter (λ o. not (is_to_all o)) owed query.owed stands (ap not way)))

-- A tick sends nothing for what queries are owed exactly where all of it has to wait.
pub is_waiting : IsWaiting
is_waiting lasts alike queries moment = of (list_all (waits lasts moment) queries) refl
  where
    no_second : (b : Bool) → (b && false) ≡ false
    no_second true = refl
    no_second false = refl

    of : (b : Bool) → list_all (waits lasts moment) queries ≡ b → (is_nothing (released_by lasts moment queries) && is_nothing (flat_map (replies_at moment) queries)) ≡ b
    of true e = and_both (is_nothing (released_by lasts moment queries)) (is_nothing (flat_map (replies_at moment) queries)) (released_none lasts alike queries moment e) (replies_none lasts queries moment e)
    of false e =
        let query : (q : Query) × In q queries × (waits lasts moment q ≡ false) = one_fails (waits lasts moment) queries e in
        let owed : (o : Owed) × In o (query.0).owed × (nat_lt moment (moment_of lasts query.0 o) ≡ false) = one_fails (λ (o : Owed). nat_lt moment (moment_of lasts query.0 o)) (query.0).owed query.2 in
        by query.0 query.1 owed.0 owed.1 owed.2 (is_to_all owed.0) refl
      where
        by : (q : Query) → In q queries → (o : Owed) → In o q.owed → nat_lt moment (moment_of lasts q o) ≡ false → (b : Bool) → is_to_all o ≡ b → (is_nothing (released_by lasts moment queries) && is_nothing (flat_map (replies_at moment) queries)) ≡ false
        by q m o n ready true f = ap (λ b. b && is_nothing (flat_map (replies_at moment) queries)) (released_some lasts alike queries moment q o m n f ready)
        by q m o n ready false f = ap (λ b. is_nothing (released_by lasts moment queries) && b) (replies_some lasts queries moment q o m n f ready) ∙ no_second (is_nothing (released_by lasts moment queries))

-- the last multicasts of records that are the same
pub same_left : (left right other : Rr) → same left right ≡ true → same left other ≡ same right other
same_left left right other e =
    same_tests (same left other) (same right other)
    (λ h. (same_tells right other).1 (sym ((same_tells left right).0 e) ∙ (same_tells left other).0 h))
    (λ h. (same_tells left other).1 ((same_tells left right).0 e ∙ (same_tells right other).0 h))

any_like : {X : Type 0} (p q : X → Bool) (xs : List X) → ((x : X) → p x ≡ q x) → list_any p xs ≡ list_any q xs
any_like p q [] h = refl
any_like p q (x ∷ xs) h = ap (λ b. b || list_any p xs) (h x) ∙ ap (λ b. q x || b) (any_like p q xs h)

pub are_of_same : AreOfSame
unfolding last_multicast
are_of_same history left right e = ap option_flatten (all history)
  where
    one : (entry : Entry) → multicast_change left entry ≡ multicast_change right entry
    one entry =
        ap (λ b. cond b (Some (Some entry.moment)) (cond (is_goodbye left (multicasts_in entry)) (Some None) None))
        (any_like (λ r. same left r && nat_lt 0 r.ttl) (λ r. same right r && nat_lt 0 r.ttl) (multicasts_in entry) (λ r. ap (λ b. b && nat_lt 0 r.ttl) (same_left left right r e)))
        ∙ ap (λ b. cond (is_multicast right (multicasts_in entry)) (Some (Some entry.moment)) (cond b (Some None) None))
        (any_like (λ r. same left r && (r.ttl == 0)) (λ r. same right r && (r.ttl == 0)) (multicasts_in entry) (λ r. ap (λ b. b && (r.ttl == 0)) (same_left left right r e)))

    all : (h : List Entry) → latest (multicast_change left) h ≡ latest (multicast_change right) h
    all [] = refl
    all (entry ∷ past) = ap (λ o. option_or o (latest (multicast_change left) past)) (one entry) ∙ ap (option_or (multicast_change right entry)) (all past)
