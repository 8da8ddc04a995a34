-- Each unique record that a legal history asserts has the name of a group that is sure by then.
use Rattle.std.proofs.Common.{◌≡◌, ℕ, ◌+◌, ◌==◌, ◌⊎◌, inl, inr, Bool, true, false, cond, not, ◌&&◌, ◌||◌, List, [], ◌∷◌, map, length, Option, Some, None, refl, ap, subst, ◌∙◌, sym, arith}
use Rattle.std.specs.Prelude.{filter, nat_lt, nat_le}
use Rattle.std.specs.List.{list_any, list_all, flat_map, cons_option}
use Rattle.std.specs.Option.{is_some, option_or, option_map, option_and_then}
use Rattle.dns_name.specs.Names.{folded_eq}
use Rattle.lists.specs.Lists.{ordered, without}
use Rattle.dns_record.specs.declared.record.Rr.{Rr}
use Rattle.dns_record.specs.Records.{same, kind_of, record_cmp}
use Rattle.dns_message.specs.declared.message.Message.{Message}
use Rattle.dns_message.specs.Packing.{pack_plain}
use Rattle.mdns_history.specs.declared.event.Event.{Event}
use Rattle.mdns_history.specs.declared.event.Event.TheVariants as event
use Rattle.mdns_history.specs.declared.mark.Mark.{Mark}
use Rattle.mdns_history.specs.declared.mark.Mark.TheVariants as mark
use Rattle.mdns_history.specs.declared.entry.Sent.{Sent}
use Rattle.mdns_history.specs.declared.entry.Entry.{Entry}
use Rattle.mdns_history.specs.InForce.{Duties, only_if}
use Rattle.mdns_history.specs.History.{since, moment_if, has_mark, is_tick, booted}
use Rattle.mdns_history.specs.Hearings.{Heard, brought}
use Rattle.mdns_history.specs.Sessions.{accepted_call, accepted_in, detached, is_number, stops}
use Rattle.mdns_history.specs.Groups.{Group, groups, group_name, group_of, renaming, group_records, is_group, is_failure_of, ends_group, begun_in, registration_from, registration_in, registered_count, names_of}
use Rattle.mdns_history.specs.Sureness.{registers, sets_back, is_setback_of, probes, probe_moments, tick_moments, probe_gap, are_settled, is_sure, sure_groups, own_records}
use Rattle.mdns_history.specs.Probing.{is_probed_at, probed_groups, probe_due}
use Rattle.mdns_history.specs.Claims.{claim_marks}
use Rattle.mdns_history.specs.Sending.{to_all, taken_back, ended_groups, sent_goodbyes}
use Rattle.mdns_history.specs.Fitting.{bare_entry, admitted, disturbed_marks, event_sends, next_entry, IsLegalFrom}
use Rattle.mdns_history.specs.Debts.{sections}
use Rattle.mdns_asserts.specs.Earned.{is_asserted, has_sure_name, asserts_sure}
use Rattle.mdns_asserts.proofs.Elements.{In, all_in, any_in, none_in, of_any, of_map, of_filter, in_filter, in_left, and_both, and_first, and_second, or_one, or_two, not_false, both_no}
use Rattle.mdns_asserts.proofs.Packed.{of_plain}
use Rattle.mdns_asserts.proofs.Told.{IsTold, tick_told}
use Rattle.mdns_asserts.proofs.Followed.{sent-next, of_only_if}
use Rattle.mdns_asserts.proofs.Probes.{IsProbing, entry_probes}
use Rattle.mdns_asserts.proofs.Unanswered.{of_groups}
use Rattle.mdns_asserts.proofs.Quiet.{is_quiet, mark_cases, renaming_stands, quiet_setback, quiet_failure}
use Rattle.mdns_asserts.proofs.Distinct.{are_distinct}
use Rattle.mdns_asserts.proofs.Numbered.{own_id, numbers_one}
use Rattle.mdns_asserts.proofs.HeldNames.{AreDistinct, name_after, name_before}

-- three probes at least stand behind what is settled
settled_three : (ps ts : List ℕ) → are_settled ps ts ≡ true → nat_lt (length ps) 3 ≡ false
settled_three [] ts h = cc
settled_three (a ∷ []) ts h = cc
settled_three (a ∷ b ∷ []) ts h = cc
settled_three (a ∷ b ∷ c ∷ more) ts h = grind arith

-- one more tick settles no less
settled_more : (ps : List ℕ) (t : ℕ) (ts : List ℕ) → are_settled ps ts ≡ true → are_settled ps (t ∷ ts) ≡ true
settled_more [] t ts h = cc
settled_more (a ∷ []) t ts h = cc
settled_more (a ∷ b ∷ []) t ts h = cc
settled_more (third ∷ second ∷ first ∷ more) t ts h =
    let spaced : Bool = nat_le (first + probe_gap) second && nat_le (second + probe_gap) third in
    and_both spaced (list_any (nat_le (third + probe_gap)) (t ∷ ts)) (and_first spaced (list_any (nat_le (third + probe_gap)) ts) h)
    (or_two (nat_le (third + probe_gap) t) (list_any (nat_le (third + probe_gap)) ts) (and_second spaced (list_any (nat_le (third + probe_gap)) ts) h))

module _ (duties : Duties) (entry : Entry) (past : List Entry) (determined : entry ≡ next_entry duties past entry.moment entry.word entry.event) (ticks : entry.event ≡ event.Tick) (distinct : AreDistinct past) where
  -- the marks of a tick are none of claims
  tick_quiet : (m : Mark) → In m entry.marks → is_quiet m ≡ true
  unfolding claim_marks
  tick_quiet m k = of (mark_cases duties entry past determined m k)
    where
      silent : admitted (bare_entry entry.moment entry.word entry.event past) past (brought entry.event) ≡ None
      silent = ap (λ ev. admitted (bare_entry entry.moment entry.word entry.event past) past (brought ev)) ticks

      of : (is_quiet m ≡ true) ⊎ ((duties.claiming ≡ true) × In m (disturbed_marks (bare_entry entry.moment entry.word entry.event past) past)) → is_quiet m ≡ true
      of (inl q) = q
      of (inr n) = absurd (subst (λ (o : Option Heard). In m (claim_marks o past)) silent n.1)

  unaccepted : (e : Entry) → e.event ≡ event.Tick → accepted_in e ≡ None
  unaccepted e t = ap (λ ev. accepted_call ev e.outcome) t

  unregistered : (e : Entry) → e.event ≡ event.Tick → registration_in e ≡ None
  unfolding registration_in
  unregistered e t = ap (option_and_then (λ call. registration_from call.session call.op call.request)) (unaccepted e t)

  -- a tick sets no group back and ends none
  registers_none : (e : Entry) → e.event ≡ event.Tick → (id : ℕ) → registers id e past ≡ false
  registers_none e t id =
      ap (λ ev. (is_some (booted ev) && (id == 0)) || (is_some (registration_in e) && (registered_count past + 1 == id))) t
      ∙ ap (λ o. is_some o && (registered_count past + 1 == id)) (unregistered e t)

  back_none : (id : ℕ) → sets_back id entry past ≡ false
  back_none id =
      ap (λ b. b || has_mark (is_setback_of id) entry) (registers_none entry ticks id)
      ∙ none_in (is_setback_of id) entry.marks (λ m k. quiet_setback id m (tick_quiet m k))

  ends_none : (e : Entry) → e.event ≡ event.Tick → ((m : Mark) → In m e.marks → is_quiet m ≡ true) → (group : Group) → ends_group e group ≡ false
  ends_none e t quiet group =
      ap (λ ev. (is_number group.session (detached ev e.outcome) || stops group.session group.op (accepted_in e)) || has_mark (is_failure_of group.id) e) t
      ∙ ap (λ o. stops group.session group.op o || has_mark (is_failure_of group.id) e) (unaccepted e t)
      ∙ none_in (is_failure_of group.id) e.marks (λ m k. quiet_failure group.id m (quiet m k))

  in_groups : (group : Group) → In group (groups past) → In group (groups (entry ∷ past))
  unfolding groups
  in_groups group m = in_left group (filter (λ g. not (ends_group entry g)) (groups past)) _ (in_filter (λ g. not (ends_group entry g)) group (groups past) m (not_false (ends_group entry group) (ends_none entry ticks tick_quiet group)))

  renames_none : (id : ℕ) → renaming id entry ≡ None
  renames_none id = of (renaming id entry) refl
    where
      of : (o : Option ℕ) → renaming id entry ≡ o → renaming id entry ≡ None
      of None e = e
      of (Some n) e = let quiet : is_quiet (mark.Renamed id n) ≡ true = tick_quiet (mark.Renamed id n) (renaming_stands id n entry e) in cc

  same_name : (group : Group) → group_name group (entry ∷ past) ≡ group_name group past
  same_name group = name_after group entry past None (renames_none group.id) ∙ sym (name_before group past)

  -- a settled group's name isn't probed
  unprobed : (group : Group) → In group (groups past) → nat_lt (length (probe_moments group past)) 3 ≡ false → probes (group_name group past) entry ≡ false
  unfolding probed_groups
  unprobed group m three = of (probes (group_name group past) entry) refl
    where
      of : (b : Bool) → probes (group_name group past) entry ≡ b → b ≡ false
      of false e = refl
      of true e =
          let found : (sent : Sent) × IsProbing duties.claiming past entry.moment (group_name group past) sent = entry_probes (group_name group past) duties entry past determined e in
          let other : Group = found.1.group in
          let due : In other (groups past) × (is_probed_at past entry.moment other ≡ true) = of_filter (is_probed_at past entry.moment) other (groups past) found.1.due in
          let same_group : other ≡ group = numbers_one (groups past) distinct.numbers other group due.0 m (distinct.names other group due.0 m found.1.named) in
          let few : nat_lt (length (probe_moments group past)) 3 ≡ true = subst (λ g. nat_lt (length (probe_moments g past)) 3 ≡ true) same_group
          (and_second (not (is_sure other past)) (nat_lt (length (probe_moments other past)) 3) (and_first (not (is_sure other past) && nat_lt (length (probe_moments other past)) 3) (nat_le (probe_due other past) entry.moment) due.1)) in
          absurd (both_no (nat_lt (length (probe_moments group past)) 3) few three)

  probes_kept : (group : Group) → In group (groups past) → nat_lt (length (probe_moments group past)) 3 ≡ false → probe_moments group (entry ∷ past) ≡ probe_moments group past
  unfolding probe_moments
  probes_kept group m three =
      ap (λ name. since (sets_back group.id) (λ e. moment_if (probes name e) e.moment) (entry ∷ past)) (same_name group)
      ∙ ap (λ b. cond b [] (cons_option (moment_if (probes (group_name group past) entry) entry.moment) (since (sets_back group.id) (λ e. moment_if (probes (group_name group past) e) e.moment) past))) (back_none group.id)
      ∙ ap (λ b. cons_option (moment_if b entry.moment) (since (sets_back group.id) (λ e. moment_if (probes (group_name group past) e) e.moment) past)) (unprobed group m three)

  ticks_more : (group : Group) → tick_moments group (entry ∷ past) ≡ entry.moment ∷ tick_moments group past
  unfolding tick_moments
  ticks_more group =
      ap (λ b. cond b [] (cons_option (moment_if (is_tick entry.event) entry.moment) (since (sets_back group.id) (λ e. moment_if (is_tick e.event) e.moment) past))) (back_none group.id)
      ∙ ap (λ ev. cons_option (moment_if (is_tick ev) entry.moment) (since (sets_back group.id) (λ e. moment_if (is_tick e.event) e.moment) past)) ticks

  -- What was settled, with the tick's own moment, is sure behind the tick.
  settled_sure : (group : Group) → In group (groups past) → are_settled (probe_moments group past) (entry.moment ∷ tick_moments group past) ≡ true → In group (sure_groups (entry ∷ past))
  unfolding sure_groups is_sure
  settled_sure group m settled =
      let there : In group (groups (entry ∷ past)) = in_groups group m in
      let three : nat_lt (length (probe_moments group past)) 3 ≡ false = settled_three (probe_moments group past) (entry.moment ∷ tick_moments group past) settled in
      in_filter (λ g. is_group g.id (entry ∷ past) && are_settled (probe_moments g (entry ∷ past)) (tick_moments g (entry ∷ past))) group (groups (entry ∷ past)) there
      (and_both (is_group group.id (entry ∷ past)) (are_settled (probe_moments group (entry ∷ past)) (tick_moments group (entry ∷ past)))
      (any_in (λ g. g.id == group.id) (groups (entry ∷ past)) group there (own_id group.id))
      (ap (λ ps. are_settled ps (tick_moments group (entry ∷ past))) (probes_kept group m three) ∙ ap (are_settled (probe_moments group past)) (ticks_more group) ∙ settled))

  named_sure : (rr : Rr) (group : Group) → In group (sure_groups (entry ∷ past)) → folded_eq (group_name group past) rr.owner ≡ true → has_sure_name (entry ∷ past) rr ≡ true
  named_sure rr group m e = any_in (λ g. folded_eq (group_name g (entry ∷ past)) rr.owner) (sure_groups (entry ∷ past)) group m (ap (λ name. folded_eq name rr.owner) (same_name group) ∙ e)

  -- a name that was sure stays so
  sure_before : (rr : Rr) → has_sure_name past rr ≡ true → has_sure_name (entry ∷ past) rr ≡ true
  unfolding sure_groups is_sure
  sure_before rr h =
      let found : (group : Group) × In group (sure_groups past) × (folded_eq (group_name group past) rr.owner ≡ true) = of_any (λ g. folded_eq (group_name g past) rr.owner) (sure_groups past) h in
      let sure : In found.0 (groups past) × ((is_group (found.0).id past && are_settled (probe_moments found.0 past) (tick_moments found.0 past)) ≡ true) =
      of_filter (λ g. is_group g.id past && are_settled (probe_moments g past) (tick_moments g past)) found.0 (groups past) found.1 in
      named_sure rr found.0
      (settled_sure found.0 sure.0 (settled_more (probe_moments found.0 past) entry.moment (tick_moments found.0 past) (and_second (is_group (found.0).id past) (are_settled (probe_moments found.0 past) (tick_moments found.0 past)) sure.1)))
      found.2

  -- a name that gets sure in the tick is so behind it
  bare : Entry
  bare = bare_entry entry.moment entry.word event.Tick past

  bare_back : (id : ℕ) → sets_back id (bare_entry entry.moment entry.word event.Tick past) past ≡ false
  bare_back id = ap (λ b. b || false) (registers_none (bare_entry entry.moment entry.word event.Tick past) refl id)

  bare_probes : (group : Group) → probe_moments group (bare_entry entry.moment entry.word event.Tick past ∷ past) ≡ probe_moments group past
  unfolding probe_moments
  bare_probes group =
      ap (λ name. since (sets_back group.id) (λ e. moment_if (probes name e) e.moment) (bare_entry entry.moment entry.word event.Tick past ∷ past)) (bare_name group)
      ∙ ap (λ b. cond b [] (since (sets_back group.id) (λ e. moment_if (probes (group_name group past) e) e.moment) past)) (bare_back group.id)
    where
      bare_name : (group : Group) → group_name group (bare_entry entry.moment entry.word event.Tick past ∷ past) ≡ group_name group past
      bare_name group = name_after group (bare_entry entry.moment entry.word event.Tick past) past None refl ∙ sym (name_before group past)

  bare_ticks : (group : Group) → tick_moments group (bare_entry entry.moment entry.word event.Tick past ∷ past) ≡ entry.moment ∷ tick_moments group past
  unfolding tick_moments
  bare_ticks group = ap (λ b. cond b [] (entry.moment ∷ since (sets_back group.id) (λ e. moment_if (is_tick e.event) e.moment) past)) (bare_back group.id)

  bare_groups : (group : Group) → In group (groups (bare_entry entry.moment entry.word event.Tick past ∷ past)) → In group (groups past)
  bare_groups group m = of (of_groups (bare_entry entry.moment entry.word event.Tick past) past group m)
    where
      none : begun_in (bare_entry entry.moment entry.word event.Tick past) (registered_count past + 1) (names_of (groups past) past) ≡ None
      none = ap (λ r. option_or None (option_map (group_of (registered_count past + 1) (names_of (groups past) past)) r)) (unregistered (bare_entry entry.moment entry.word event.Tick past) refl)

      of : (In group (groups past) × (ends_group (bare_entry entry.moment entry.word event.Tick past) group ≡ false)) ⊎ (begun_in (bare_entry entry.moment entry.word event.Tick past) (registered_count past + 1) (names_of (groups past) past) ≡ Some group) → In group (groups past)
      of (inl k) = k.0
      of (inr k) = let no : None ≡ Some group = sym none ∙ k in cc

  sure_now : (rr : Rr) → has_sure_name (bare_entry entry.moment entry.word event.Tick past ∷ past) rr ≡ true → has_sure_name (entry ∷ past) rr ≡ true
  unfolding sure_groups is_sure
  sure_now rr h =
      let b : Entry = bare_entry entry.moment entry.word event.Tick past in
      let found : (group : Group) × In group (sure_groups (b ∷ past)) × (folded_eq (group_name group (b ∷ past)) rr.owner ≡ true) = of_any (λ g. folded_eq (group_name g (b ∷ past)) rr.owner) (sure_groups (b ∷ past)) h in
      let sure : In found.0 (groups (b ∷ past)) × ((is_group (found.0).id (b ∷ past) && are_settled (probe_moments found.0 (b ∷ past)) (tick_moments found.0 (b ∷ past))) ≡ true) =
      of_filter (λ g. is_group g.id (b ∷ past) && are_settled (probe_moments g (b ∷ past)) (tick_moments g (b ∷ past))) found.0 (groups (b ∷ past)) found.1 in
      let settled : are_settled (probe_moments found.0 (b ∷ past)) (tick_moments found.0 (b ∷ past)) ≡ true = and_second (is_group (found.0).id (b ∷ past)) _ sure.1 in
      named_sure rr found.0
      (settled_sure found.0 (bare_groups found.0 sure.0)
      (sym (ap (λ ps. are_settled ps (entry.moment ∷ tick_moments found.0 past)) (bare_probes found.0)) ∙ sym (ap (are_settled (probe_moments found.0 (b ∷ past))) (bare_ticks found.0)) ∙ settled))
      (sym (ap (λ name. folded_eq name rr.owner) (name_after found.0 b past None refl ∙ sym (name_before found.0 past))) ∙ found.2)

  told_asserted : (rr : Rr) → IsTold past (bare_entry entry.moment entry.word event.Tick past ∷ past) rr → (not (is_asserted rr) || has_sure_name (entry ∷ past) rr) ≡ true
  told_asserted rr t = of t.named
    where
      shared : (lasts : Bool) → not (lasts && (false || not true)) ≡ true
      shared true = refl
      shared false = refl

      of : (kind_of rr.rdata ≡ 12) ⊎ ((has_sure_name past rr ≡ true) ⊎ (has_sure_name (bare_entry entry.moment entry.word event.Tick past ∷ past) rr ≡ true)) → (not (is_asserted rr) || has_sure_name (entry ∷ past) rr) ≡ true
      of (inl k) =
          or_one (not (is_asserted rr)) (has_sure_name (entry ∷ past) rr)
          (ap (λ n. not (nat_lt 0 rr.ttl && (rr.flush || not (n == 12)))) k ∙ ap (λ b. not (nat_lt 0 rr.ttl && (b || not true))) (t.published.shared k) ∙ shared (nat_lt 0 rr.ttl))
      of (inr (inl n)) = or_two (not (is_asserted rr)) (has_sure_name (entry ∷ past) rr) (sure_before rr n)
      of (inr (inr n)) = or_two (not (is_asserted rr)) (has_sure_name (entry ∷ past) rr) (sure_now rr n)

asserts : (h : List Entry) (message : Message) → (message.response ≡ true → (rr : Rr) → In rr (sections message) → (not (is_asserted rr) || has_sure_name h rr) ≡ true) → asserts_sure h message ≡ true
asserts h message each = of message.response refl
  where
    of : (b : Bool) → message.response ≡ b → (not b || list_all (λ rr. not (is_asserted rr) || has_sure_name h rr) (sections message)) ≡ true
    of true e = all_in (λ rr. not (is_asserted rr) || has_sure_name h rr) (sections message) (each e)
    of false e = refl

-- goodbyes assert nothing
goodbye_ends : (entry : Entry) (past : List Entry) (sent : Sent) (rr : Rr) → In sent (sent_goodbyes entry past) → In rr (sections sent.message) → is_asserted rr ≡ false
unfolding sent_goodbyes
goodbye_ends entry past sent rr n m =
    let left : List Rr = without same (ordered record_cmp (flat_map (λ group. group_records group past) (ended_groups entry past))) (own_records (entry ∷ past)) in
    let found : (message : Message) × In message (pack_plain (map taken_back left)) × (sent ≡ to_all message) = of_map to_all sent (pack_plain (map taken_back left)) n in
    let back : (r : Rr) × In r left × (rr ≡ taken_back r) = of_map taken_back rr left (of_plain (map taken_back left) found.0 rr found.1 (subst (λ s. In rr (sections s.message)) found.2 m)) in
    ap is_asserted back.2

goodbyes_assert : (duties : Duties) (h : List Entry) (entry : Entry) (past : List Entry) → list_all (λ sent. asserts_sure h sent.message) (only_if duties.announcing (sent_goodbyes entry past)) ≡ true
goodbyes_assert duties h entry past =
    all_in (λ sent. asserts_sure h sent.message) (only_if duties.announcing (sent_goodbyes entry past))
    (λ sent n. asserts h sent.message (λ response rr m. or_one (not (is_asserted rr)) (has_sure_name h rr)
    (not_false (is_asserted rr) (goodbye_ends entry past sent rr (of_only_if duties.announcing (sent_goodbyes entry past) sent n) m))))

sends_assert : (duties : Duties) (entry : Entry) (past : List Entry) → entry ≡ next_entry duties past entry.moment entry.word entry.event → AreDistinct past → (ev : Event) → entry.event ≡ ev →
    list_all (λ sent. asserts_sure (entry ∷ past) sent.message) (event_sends duties (bare_entry entry.moment entry.word ev past) past ev) ≡ true
sends_assert duties entry past determined distinct event.Tick e =
    all_in (λ sent. asserts_sure (entry ∷ past) sent.message) (event_sends duties (bare_entry entry.moment entry.word event.Tick past) past event.Tick)
    (λ sent n. asserts (entry ∷ past) sent.message
    (λ response rr m. told_asserted duties entry past determined e distinct rr (tick_told duties (bare_entry entry.moment entry.word event.Tick past) past sent rr n response m)))
sends_assert duties entry past determined distinct (event.Boot config) e = goodbyes_assert duties (entry ∷ past) (bare_entry entry.moment entry.word (event.Boot config) past) past
sends_assert duties entry past determined distinct event.Attach e = goodbyes_assert duties (entry ∷ past) (bare_entry entry.moment entry.word event.Attach past) past
sends_assert duties entry past determined distinct (event.Detach session) e = goodbyes_assert duties (entry ∷ past) (bare_entry entry.moment entry.word (event.Detach session) past) past
sends_assert duties entry past determined distinct (event.Call session op request) e = goodbyes_assert duties (entry ∷ past) (bare_entry entry.moment entry.word (event.Call session op request) past) past
sends_assert duties entry past determined distinct (event.Hear from bytes) e = goodbyes_assert duties (entry ∷ past) (bare_entry entry.moment entry.word (event.Hear from bytes) past) past
sends_assert duties entry past determined distinct (event.Take session max) e = goodbyes_assert duties (entry ∷ past) (bare_entry entry.moment entry.word (event.Take session max) past) past

-- Each unique record that an entry of a legal history asserts has the name of a group that is sure by then.
pub asserted_sure : (duties : Duties) (entry : Entry) (past : List Entry) → IsLegalFrom duties entry past → list_all (λ sent. asserts_sure (entry ∷ past) sent.message) entry.sent ≡ true
asserted_sure duties entry [] legal = ap (λ sends. list_all (λ sent. asserts_sure (entry ∷ []) sent.message) sends) (ap (λ e. e.sent) legal.3)
asserted_sure duties entry (before ∷ past) legal =
    let history : List Entry = before ∷ past in
    ap (list_all (λ sent. asserts_sure (entry ∷ before ∷ past) sent.message)) (ap (λ e. e.sent) (legal.0).determined ∙ sent-next duties (before ∷ past) entry.moment entry.word entry.event)
    ∙ sends_assert duties entry (before ∷ past) (legal.0).determined (are_distinct duties (before ∷ past) legal.1) entry.event refl
