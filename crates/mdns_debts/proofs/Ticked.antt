-- After a tick of a daemon that replies, all that is owed has to wait.
use Rattle.std.proofs.Common.{◌≡◌, ℕ, ◌<◌, ◌==◌, ◌⊎◌, inl, inr, Bool, true, false, cond, not, ◌&&◌, ◌||◌, List, [], ◌∷◌, ◌++◌, map, zip, Option, Some, None, refl, ap, subst, ◌∙◌, sym, arith, append_assoc, append-nil}
use Rattle.std.specs.Prelude.{filter, nat_lt, nat_le}
use Rattle.std.specs.List.{list_any, list_all, flat_map}
use Rattle.std.specs.Option.{option_or, option_flatten}
use Rattle.std.specs.Ordering.{is_eq, is_lt}
use Rattle.std.specs.declared.cmp.Ordering.{Ordering}
use Rattle.std.specs.declared.cmp.Ordering.TheVariants.{Less, Equal, Greater}
use Rattle.mdns_base.specs.declared.host.Dest.TheVariants.{All}
use Rattle.mdns_base.specs.Hosts.{dest_eq}
use Rattle.lists.specs.Lists.{ordered, sorted_by, insert_by, each_once, without}
use Rattle.dns_record.specs.declared.record.Rr.{Rr}
use Rattle.dns_record.specs.Records.{same, record_cmp}
use Rattle.dns_record.proofs.Same.{same_tells, record_cmp_equal}
use Rattle.dns_message.specs.declared.message.Message.{Message}
use Rattle.dns_message.specs.Packing.{fits, parts_from, parts_of, bare_reply, reply_with, pack_reply, Wanting, answers_in, wanted_in, replies_of, fitting_additional}
use Rattle.mdns_history.specs.declared.event.Event.TheVariants as event
use Rattle.mdns_history.specs.declared.entry.Sent.{Sent}
use Rattle.mdns_history.specs.declared.entry.Entry.{Entry}
use Rattle.mdns_history.specs.History.{latest, has_mark, is_tick}
use Rattle.mdns_history.specs.InForce.{Duties, only_if}
use Rattle.mdns_history.specs.Hearings.{Heard, heard_in, brought, is_refusal, query_of, counted_records}
use Rattle.mdns_history.specs.Sureness.{own_records}
use Rattle.mdns_history.specs.Asking.{tick_askings}
use Rattle.mdns_history.specs.Debts.{Owed, sections, multicasts_in, is_multicast, is_goodbye, multicast_change, last_multicast}
use Rattle.mdns_history.specs.Multicasts.{released_records}
use Rattle.mdns_history.specs.Sending.{to_all, sent_probes, sent_queries, wanted_by, is_free, announced_records, multicast_answers, sent_multicasts, tick_sends}
use Rattle.mdns_history.specs.Fitting.{bare_entry, event_sends, Fits}
use Rattle.mdns_debts.specs.Queries.{Query, is_to_all}
use Rattle.mdns_debts.specs.Releasing.{Wanted, wanted_of, is_let_go, released_by, ready_at}
use Rattle.mdns_debts.specs.Following.{strikes, meets, leaves, is_among, left_by, has_owed, queries_from, queries_after, own_in, news_of, queries_in, moment_of}
use Rattle.mdns_debts.specs.Waiting.{waits}
use Rattle.mdns_debts.specs.Ticked.{IsLaterBehindTicks}
use Rattle.mdns_asserts.proofs.Elements.{In, in_left, in_right, in_map, in_flat_map, in_filter, of_append, of_map, of_flat_map, of_filter, of_any, any_in, all_in, none_in, and_both, and_second, not_true, both_no}
use Rattle.mdns_asserts.proofs.Packed.{reply_responds}
use Rattle.mdns_asserts.proofs.Followed.{sent-next}
use Rattle.mdns_asserts.proofs.Told.{tick_told}
use Rattle.mdns_debts.proofs.Debts.{are_released_by}
use Rattle.mdns_debts.proofs.Followed.{are_followed}
use Rattle.mdns_debts.proofs.Waits.{free_some, are_of_same, same_left}

-- what is put into parts is in one of them
in_parts_from : {X : Type 0} (first later : List X → Bool) (part xs : List X) (x : X) → In x (part ++ xs) → (p : List X) × In p (parts_from first later part xs) × In x p
in_parts_from first later part [] x m = (part, inl refl, subst (λ zs. In x zs) (append-nil part) m)
in_parts_from {X = X} first later part (y ∷ ys) x m =
    of (first (part ++ y ∷ []))
    (in_parts_from first later (part ++ y ∷ []) ys x (subst (λ zs. In x zs) (sym (append_assoc part (y ∷ []) ys)) m))
    (of_append x part (y ∷ ys) m) (in_parts_from later later (y ∷ []) ys x)
  where
    cut : In x part ⊎ In x (y ∷ ys) → (In x (y ∷ ys) → (p : List X) × In p (parts_from later later (y ∷ []) ys) × In x p) → (p : List X) × In p (part ∷ parts_from later later (y ∷ []) ys) × In x p
    cut (inl n) rest = (part, inl refl, n)
    cut (inr n) rest = let found : (p : List X) × In p (parts_from later later (y ∷ []) ys) × In x p = rest n in (found.0, inr found.1, found.2)

    of : (b : Bool) → (p : List X) × In p (parts_from first later (part ++ y ∷ []) ys) × In x p → In x part ⊎ In x (y ∷ ys) → (In x (y ∷ ys) → (p : List X) × In p (parts_from later later (y ∷ []) ys) × In x p) →
        (p : List X) × In p (cond b (parts_from first later (part ++ y ∷ []) ys) (part ∷ parts_from later later (y ∷ []) ys)) × In x p
    of true grown n rest = grown
    of false grown n rest = cut n rest

in_parts : {X : Type 0} (fitting : List X → Bool) (xs : List X) (x : X) → In x xs → (p : List X) × In p (parts_of fitting xs) × In x p
in_parts fitting [] x m = absurd m
in_parts fitting (y ∷ ys) x m = in_parts_from fitting fitting (y ∷ []) ys x m

-- so each answer is in one of the replies
in_replies : (all before : List Rr) (parts : List (List Wanting)) (part : List Wanting) → In part parts → (message : Message) × In message (replies_of all before parts) × (message.answers ≡ answers_in part)
in_replies all before [] part m = absurd m
in_replies all before (p ∷ parts) part (inl e) =
    let added : List Rr = fitting_additional (answers_in p) [] (without same (wanted_in p) (all ++ before)) in
    (reply_with (answers_in p) added, inl refl, ap answers_in (sym e))
in_replies all before (p ∷ parts) part (inr m) =
    let added : List Rr = fitting_additional (answers_in p) [] (without same (wanted_in p) (all ++ before)) in
    let found : (message : Message) × In message (replies_of all (before ++ added) parts) × (message.answers ≡ answers_in part) = in_replies all (before ++ added) parts part m in
    (found.0, inr found.1, found.2)

in_zip : (wants : Rr → List Rr) (rrs : List Rr) (rr : Rr) → In rr rrs → In {X = Wanting} (rr, wants rr) (zip rrs (map wants rrs))
in_zip wants [] rr m = absurd m
in_zip wants (r ∷ rrs) rr (inl e) = inl (ap (λ (x : Rr). let w : Wanting = (x, wants x) in w) e)
in_zip wants (r ∷ rrs) rr (inr m) = inr (in_zip wants rrs rr m)

pub in_reply : (wants : Rr → List Rr) (answers : List Rr) (rr : Rr) → In rr answers → (message : Message) × In message (pack_reply answers (map wants answers)) × In rr message.answers
unfolding pack_reply
in_reply wants answers rr m =
    let fitting : List Wanting → Bool = λ part. fits (bare_reply (answers_in part)) in
    let wanting : Wanting = (rr, wants rr) in
    let part : (p : List Wanting) × In p (parts_of fitting (zip answers (map wants answers))) × In wanting p = in_parts fitting (zip answers (map wants answers)) wanting (in_zip wants answers rr m) in
    let found : (message : Message) × In message (replies_of answers [] (parts_of fitting (zip answers (map wants answers)))) × (message.answers ≡ answers_in part.0) = in_replies answers [] (parts_of fitting (zip answers (map wants answers))) part.0 part.1 in
    (found.0, found.1, subst (λ zs. In rr zs) (sym found.2) (in_map (λ (w : Wanting). w.0) wanting part.0 part.2))

-- of records in order one that is the same is there
cmp_same : (left right : Rr) → is_eq (record_cmp left right) ≡ true → same left right ≡ true
cmp_same left right h = (same_tells left right).1 ((record_cmp_equal left right).0 (of (record_cmp left right) h))
  where
    of : (o : Ordering) → is_eq o ≡ true → o ≡ Equal
    of Less e = cc
    of Equal e = refl
    of Greater e = cc

same_refl : (rr : Rr) → same rr rr ≡ true
same_refl rr = (same_tells rr rr).1 refl

abbrev IsThere : Rr → List Rr → Type 0
IsThere rr rrs = (other : Rr) × In other rrs × (same rr other ≡ true)

there_trans : (rr other : Rr) (rrs : List Rr) → same rr other ≡ true → IsThere other rrs → IsThere rr rrs
there_trans rr other rrs e t = (t.0, t.1, (same_tells rr t.0).1 ((same_tells rr other).0 e ∙ (same_tells other t.0).0 t.2))

there_once : (rrs : List Rr) (rr : Rr) → In rr rrs → IsThere rr (each_once (λ a b. is_eq (record_cmp a b)) rrs)
there_once [] rr m = absurd m
there_once (r ∷ rrs) rr (inl e) = (r, inl refl, ap (same rr) (sym e) ∙ same_refl rr)
there_once (r ∷ rrs) rr (inr m) = of (there_once rrs rr m)
  where
    of : IsThere rr (each_once (λ a b. is_eq (record_cmp a b)) rrs) → IsThere rr (r ∷ filter (λ y. not (is_eq (record_cmp r y))) (each_once (λ a b. is_eq (record_cmp a b)) rrs))
    of t = by (is_eq (record_cmp r t.0)) refl
      where
        by : (b : Bool) → is_eq (record_cmp r t.0) ≡ b → IsThere rr (r ∷ filter (λ y. not (is_eq (record_cmp r y))) (each_once (λ a b. is_eq (record_cmp a b)) rrs))
        by true e = (r, inl refl, (same_tells rr r).1 ((same_tells rr t.0).0 t.2 ∙ sym ((same_tells r t.0).0 (cmp_same r t.0 e))))
        by false e = (t.0, inr (in_filter (λ y. not (is_eq (record_cmp r y))) t.0 (each_once (λ a b. is_eq (record_cmp a b)) rrs) t.1 (ap not e)), t.2)

in_insert : (rr other : Rr) (rrs : List Rr) → (rr ≡ other) ⊎ In rr rrs → In rr (insert_by record_cmp other rrs)
in_insert rr other [] m = m
in_insert rr other (r ∷ rrs) m = of (is_lt (record_cmp r other)) m (in_insert rr other rrs)
  where
    of : (b : Bool) → (rr ≡ other) ⊎ In rr (r ∷ rrs) → ((rr ≡ other) ⊎ In rr rrs → In rr (insert_by record_cmp other rrs)) → In rr (cond b (r ∷ insert_by record_cmp other rrs) (other ∷ r ∷ rrs))
    of true (inl e) rest = inr (rest (inl e))
    of true (inr (inl e)) rest = inl e
    of true (inr (inr n)) rest = inr (rest (inr n))
    of false n rest = n

in_sorted : (rr : Rr) (rrs : List Rr) → In rr rrs → In rr (sorted_by record_cmp rrs)
in_sorted rr [] m = m
in_sorted rr (r ∷ rrs) (inl e) = in_insert rr r (sorted_by record_cmp rrs) (inl e)
in_sorted rr (r ∷ rrs) (inr m) = in_insert rr r (sorted_by record_cmp rrs) (inr (in_sorted rr rrs m))

pub there_ordered : (rrs : List Rr) (rr : Rr) → In rr rrs → IsThere rr (ordered record_cmp rrs)
there_ordered rrs rr m = let t : IsThere rr (each_once (λ a b. is_eq (record_cmp a b)) rrs) = there_once rrs rr m in (t.0, in_sorted t.0 (each_once (λ a b. is_eq (record_cmp a b)) rrs) t.1, t.2)

-- the answers of a tick's multicasts
module _ (duties : Duties) (tick : Entry) (past : List Entry) where
  -- a record that is released is multicast
  answer_sent : (rr : Rr) → In rr (multicast_answers duties tick past) → (sent : Sent) × In sent (tick_sends duties tick past) × (sent.message.response ≡ true) × (dest_eq sent.to All ≡ true) × In rr sent.message.answers
  unfolding tick_sends
  answer_sent rr m =
      let answers : List Rr = multicast_answers duties tick past in
      let found : (message : Message) × In message (pack_reply answers (map (λ r. filter (is_free past tick.moment) (wanted_by (own_records (tick ∷ past)) r.rdata)) answers)) × In rr message.answers =
      in_reply (λ r. filter (is_free past tick.moment) (wanted_by (own_records (tick ∷ past)) r.rdata)) answers rr m in (
        to_all found.0,
        in_right (to_all found.0) (only_if duties.claiming (sent_probes past tick.moment)) _
            (in_right (to_all found.0) (only_if duties.asking (sent_queries (tick_askings past tick.moment) past tick.moment)) _
            (in_left (to_all found.0) (sent_multicasts duties tick past) _ (in_map to_all found.0 (pack_reply answers (map (λ r. filter (is_free past tick.moment) (wanted_by (own_records (tick ∷ past)) r.rdata)) answers)) found.1))),
        reply_responds answers (map (λ r. filter (is_free past tick.moment) (wanted_by (own_records (tick ∷ past)) r.rdata)) answers) found.0 found.1,
        refl,
        found.2,
      )

  released_answer : duties.replying ≡ true → (rr : Rr) → In rr (released_records past tick.moment) → IsThere rr (multicast_answers duties tick past)
  released_answer replying rr m =
      there_ordered (only_if duties.announcing (announced_records tick past) ++ only_if duties.replying (released_records past tick.moment)) rr
      (in_right rr (only_if duties.announcing (announced_records tick past)) (only_if duties.replying (released_records past tick.moment))
      (subst (λ b. In rr (only_if b (released_records past tick.moment))) (sym replying) m))

-- an answer stands in a message's sections
of_answers : (sent : Sent) (rr : Rr) → In rr sent.message.answers → In rr (sections sent.message)
of_answers sent rr m = in_left rr (sent.message.answers ++ sent.message.authority) sent.message.additional (in_left rr sent.message.answers sent.message.authority m)

-- what an entry multicasts
in_multicasts : (entry : Entry) (sent : Sent) (rr : Rr) → In sent entry.sent → sent.message.response ≡ true → dest_eq sent.to All ≡ true → In rr sent.message.answers → In rr (multicasts_in entry)
unfolding multicasts_in
in_multicasts entry sent rr n response to m =
    in_flat_map (λ s. cond (s.message.response && dest_eq s.to All) (sections s.message) []) sent rr entry.sent n
    (subst (λ b. In rr (cond b (sections sent.message) [])) (sym (ap (λ b. b && dest_eq sent.to All) response ∙ to))
    (of_answers sent rr m))

of_multicasts : (entry : Entry) (rr : Rr) → In rr (multicasts_in entry) → (sent : Sent) × In sent entry.sent × (sent.message.response ≡ true) × (dest_eq sent.to All ≡ true) × In rr (sections sent.message)
unfolding multicasts_in
of_multicasts entry rr m =
    let found : (sent : Sent) × In sent entry.sent × In rr (cond (sent.message.response && dest_eq sent.to All) (sections sent.message) []) =
    of_flat_map (λ s. cond (s.message.response && dest_eq s.to All) (sections s.message) []) rr entry.sent m in
    of found.0 found.1 (found.0).message.response refl (dest_eq (found.0).to All) refl found.2
  where
    of : (sent : Sent) → In sent entry.sent → (a : Bool) → sent.message.response ≡ a → (b : Bool) → dest_eq sent.to All ≡ b → In rr (cond (a && b) (sections sent.message) []) →
        (s : Sent) × In s entry.sent × (s.message.response ≡ true) × (dest_eq s.to All ≡ true) × In rr (sections s.message)
    of sent n true e true f k = (sent, n, e, f, k)
    of sent n true e false f k = absurd k
    of sent n false e b f k = absurd k

-- an entry that neither multicasts a record nor takes it back leaves its last multicast
last_left : (rr : Rr) (entry : Entry) (past : List Entry) → is_multicast rr (multicasts_in entry) ≡ false → is_goodbye rr (multicasts_in entry) ≡ false → last_multicast rr (entry ∷ past) ≡ last_multicast rr past
unfolding last_multicast
last_left rr entry past silent stays =
    ap (λ b. option_flatten (option_or (cond b (Some (Some entry.moment)) (cond (is_goodbye rr (multicasts_in entry)) (Some None) None)) (latest (multicast_change rr) past))) silent
    ∙ ap (λ b. option_flatten (option_or (cond b (Some None) None) (latest (multicast_change rr) past))) stays

module _ (duties : Duties) (entry : Entry) (past : List Entry) (fits_past : Fits duties entry past) (replying : duties.replying ≡ true) (ticks : entry.event ≡ event.Tick) where
  bare : Entry
  bare = bare_entry entry.moment entry.word event.Tick past

  sends_are : entry.sent ≡ tick_sends duties (bare_entry entry.moment entry.word event.Tick past) past
  sends_are =
      ap (λ e. e.sent) fits_past.determined ∙ sent-next duties past entry.moment entry.word entry.event
      ∙ ap (λ ev. event_sends duties (bare_entry entry.moment entry.word ev past) past ev) ticks

  no_goodbye : (rr : Rr) → is_goodbye rr (multicasts_in entry) ≡ false
  no_goodbye rr = none_in (λ r. same rr r && (r.ttl == 0)) (multicasts_in entry) (λ r m. of r (of_multicasts entry r m))
    where
      lasting : (r : Rr) → nat_lt 0 r.ttl ≡ true → (same rr r && (r.ttl == 0)) ≡ false
      lasting r h = let above : 0 < r.ttl = grind (arith, h) in let never : (r.ttl == 0) ≡ false = grind (arith, above) in ap (λ b. same rr r && b) never ∙ no (same rr r)
        where
          no : (b : Bool) → (b && false) ≡ false
          no true = refl
          no false = refl

      of : (r : Rr) → (sent : Sent) × In sent entry.sent × (sent.message.response ≡ true) × (dest_eq sent.to All ≡ true) × In r (sections sent.message) → (same rr r && (r.ttl == 0)) ≡ false
      of r s =
          let b : Entry = bare_entry entry.moment entry.word event.Tick past in
          let listed : In s.0 (tick_sends duties b past) = subst (λ ss. In s.0 ss) sends_are s.1 in
          lasting r (tick_told duties b past s.0 r listed s.2 s.4).published.lasts

  met_released : (rr : Rr) → In rr (released_records past entry.moment) → is_multicast rr (multicasts_in entry) ≡ true
  met_released rr m =
      let b : Entry = bare_entry entry.moment entry.word event.Tick past in
      let t : IsThere rr (multicast_answers duties b past) = released_answer duties b past replying rr m in
      let s : (sent : Sent) × In sent (tick_sends duties b past) × (sent.message.response ≡ true) × (dest_eq sent.to All ≡ true) × In t.0 sent.message.answers = answer_sent duties b past t.0 t.1 in
      any_in (λ r. same rr r && nat_lt 0 r.ttl) (multicasts_in entry) t.0 (in_multicasts entry s.0 t.0 (subst (λ ss. In s.0 ss) (sym sends_are) s.1) s.2 s.3 s.4)
      (and_both (same rr t.0) (nat_lt 0 (t.0).ttl) t.2 (tick_told duties b past s.0 t.0 s.1 s.2 (of_answers s.0 t.0 s.4)).published.lasts)

  unheard : heard_in entry ≡ None
  unfolding heard_in
  unheard = ap (λ ev. cond (has_mark is_refusal entry) None (brought ev)) ticks ∙ of (has_mark is_refusal entry)
    where
      of : (b : Bool) → ◌≡◌ {A = Option Heard} (cond b None None) None
      of true = refl
      of false = refl

  -- what a tick leaves has a later moment
  left_later : (query : Query) (owed : Owed) → In query (queries_in past) → In owed query.owed → leaves (news_of entry) query owed ≡ true → nat_lt entry.moment (moment_of (λ rr. last_multicast rr (entry ∷ past)) query owed) ≡ true
  unfolding released_by
  left_later query owed listed stands left = of (is_to_all owed) refl
    where
      unmet : meets (news_of entry) query owed ≡ false
      unmet = not_true (meets (news_of entry) query owed) (and_second (not (strikes query owed (query_of (news_of entry).heard))) (not (meets (news_of entry) query owed)) left)

      lasts_kept : is_multicast owed.0 (multicasts_in entry) ≡ false → last_multicast owed.0 (entry ∷ past) ≡ last_multicast owed.0 past
      lasts_kept none = last_left owed.0 entry past none (no_goodbye owed.0)

      first_of : (a b : Bool) → (a || b) ≡ false → a ≡ false
      first_of true b h = cc
      first_of false b h = refl

      asker : is_to_all owed ≡ false → nat_le query.due entry.moment ≡ false
      asker way = sym (ap (λ ev. is_tick ev && nat_le query.due entry.moment) ticks) ∙ sym (ap (λ b. cond b (is_multicast owed.0 (multicasts_in entry) || list_any (λ rr. same owed.0 rr && nat_le (owed.0).ttl rr.ttl) (counted_records (heard_in entry))) (is_tick entry.event && nat_le query.due entry.moment)) way) ∙ unmet

      silent : is_to_all owed ≡ true → is_multicast owed.0 (multicasts_in entry) ≡ false
      silent way = first_of (is_multicast owed.0 (multicasts_in entry)) (list_any (λ rr. same owed.0 rr && nat_le (owed.0).ttl rr.ttl) (counted_records (heard_in entry)))
          (sym (ap (λ b. cond b (is_multicast owed.0 (multicasts_in entry) || list_any (λ rr. same owed.0 rr && nat_le (owed.0).ttl rr.ttl) (counted_records (heard_in entry))) (is_tick entry.event && nat_le query.due entry.moment)) way) ∙ unmet)

      waiting : is_to_all owed ≡ true → (b : Bool) → nat_lt entry.moment (moment_of (λ rr. last_multicast rr past) query owed) ≡ b → b ≡ true
      waiting way true e = refl
      waiting way false e =
          let free : In owed.0 (filter (is_let_go (λ rr. last_multicast rr past) entry.moment (flat_map (wanted_of entry.moment) (queries_in past))) (map (λ (w : Wanted). w.1) (flat_map (wanted_of entry.moment) (queries_in past)))) =
          free_some (λ rr. last_multicast rr past) (are_of_same past) (queries_in past) entry.moment query owed listed stands way e in
          let t : IsThere owed.0 (released_by (λ rr. last_multicast rr past) entry.moment (queries_in past)) =
          there_ordered (filter (is_let_go (λ rr. last_multicast rr past) entry.moment (flat_map (wanted_of entry.moment) (queries_in past))) (map (λ (w : Wanted). w.1) (flat_map (wanted_of entry.moment) (queries_in past)))) owed.0 free in
          let met : is_multicast t.0 (multicasts_in entry) ≡ true = met_released t.0 (subst (λ rrs. In t.0 rrs) (sym (are_released_by past entry.moment)) t.1) in
          absurd (both_no (is_multicast owed.0 (multicasts_in entry)) (like owed.0 t.0 t.2 met) (silent way))
        where
          like : (rr other : Rr) → same rr other ≡ true → is_multicast other (multicasts_in entry) ≡ true → is_multicast rr (multicasts_in entry) ≡ true
          like rr other s h =
              let found : (r : Rr) × In r (multicasts_in entry) × ((same other r && nat_lt 0 r.ttl) ≡ true) = of_any (λ r. same other r && nat_lt 0 r.ttl) (multicasts_in entry) h in
              any_in (λ r. same rr r && nat_lt 0 r.ttl) (multicasts_in entry) found.0 found.1 (ap (λ b. b && nat_lt 0 (found.0).ttl) (same_left rr other found.0 s) ∙ found.2)

      of : (b : Bool) → is_to_all owed ≡ b → nat_lt entry.moment (moment_of (λ rr. last_multicast rr (entry ∷ past)) query owed) ≡ true
      of false way = ap (λ b. nat_lt entry.moment (cond b (ready_at query (last_multicast owed.0 (entry ∷ past))) query.due)) way ∙ later query.due (asker way)
        where
          later : (n : ℕ) → nat_le n entry.moment ≡ false → nat_lt entry.moment n ≡ true
          later n h = grind (arith, h)
      of true way =
          ap (λ o. nat_lt entry.moment (cond (is_to_all owed) (ready_at query o) query.due)) (lasts_kept (silent way))
          ∙ waiting way (nat_lt entry.moment (moment_of (λ rr. last_multicast rr past) query owed)) refl

  -- so it is of all that is owed behind the tick
  all_later : list_all (waits (λ rr. last_multicast rr (entry ∷ past)) entry.moment) (queries_in (entry ∷ past)) ≡ true
  unfolding queries_after
  all_later =
      all_in (waits (λ rr. last_multicast rr (entry ∷ past)) entry.moment) (queries_in (entry ∷ past)) (λ query m. of query (subst (λ qs. In query qs) (are_followed entry past) m))
    where
      before_of : Query → Type 0
      before_of query = (old : Query) × In old (queries_in past) × (query ≡ left_by (leaves (news_of entry)) old)

      old_of : (query : Query) → In query (map (left_by (leaves (news_of entry))) (queries_in past) ++ queries_from (own_in past) (λ rr. last_multicast rr past) (news_of entry) (query_of (heard_in entry))) →
          (old : Query) × In old (queries_in past) × (query ≡ left_by (leaves (news_of entry)) old)
      old_of query m = cases (of_append query (map (left_by (leaves (news_of entry))) (queries_in past)) _ (subst (λ (o : Option Heard). In query (map (left_by (leaves (news_of entry))) (queries_in past) ++ queries_from (own_in past) (λ rr. last_multicast rr past) (news_of entry) (query_of o))) unheard m))
        where
          cases : In query (map (left_by (leaves (news_of entry))) (queries_in past)) ⊎ In query [] → (old : Query) × In old (queries_in past) × (query ≡ left_by (leaves (news_of entry)) old)
          cases (inl n) = of_map (left_by (leaves (news_of entry))) query (queries_in past) n
          cases (inr n) = absurd n

      of : (query : Query) → In query (queries_after (own_in past) (own_in (entry ∷ past)) (λ rr. last_multicast rr past) (news_of entry) (queries_in past)) → waits (λ rr. last_multicast rr (entry ∷ past)) entry.moment query ≡ true
      of query m =
          let ours : Query → Owed → Bool = λ q owed. is_among (own_in (entry ∷ past)) owed.0 in
          let middle : List Query = map (left_by (leaves (news_of entry))) (queries_in past) ++ queries_from (own_in past) (λ rr. last_multicast rr past) (news_of entry) (query_of (heard_in entry)) in
          let kept : (q : Query) × In q middle × (query ≡ left_by ours q) = of_map (left_by ours) query middle (of_filter has_owed query (map (left_by ours) middle) m).0 in
          let old : (q : Query) × In q (queries_in past) × (kept.0 ≡ left_by (leaves (news_of entry)) q) = old_of kept.0 kept.1 in
          let is : query ≡ left_by ours (left_by (leaves (news_of entry)) old.0) = kept.2 ∙ ap (left_by ours) old.2 in
          ap (waits (λ rr. last_multicast rr (entry ∷ past)) entry.moment) is
          ∙ all_in (λ owed. nat_lt entry.moment (moment_of (λ rr. last_multicast rr (entry ∷ past)) old.0 owed)) (filter (ours old.0) (filter (leaves (news_of entry) old.0) (old.0).owed))
          (λ owed n. let outer : In owed (filter (leaves (news_of entry) old.0) (old.0).owed) × (ours old.0 owed ≡ true) = of_filter (ours old.0) owed (filter (leaves (news_of entry) old.0) (old.0).owed) n in
          let inner : In owed (old.0).owed × (leaves (news_of entry) old.0 owed ≡ true) = of_filter (leaves (news_of entry) old.0) owed (old.0).owed outer.0 in
          left_later old.0 owed old.1 inner.0 inner.1)

-- After a tick of a daemon that replies, all that is owed has to wait.
pub is_later_behind_ticks : IsLaterBehindTicks
is_later_behind_ticks duties entry past fits_past replying ticks = all_later duties entry past fits_past replying ticks
