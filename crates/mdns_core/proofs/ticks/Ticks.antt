-- When a tick does nothing: where no live record has ended by then, no group is probed or made sure, no question is asked, and nothing that is
-- owed is due, if it then leaves the answers.
use Rattle.std.proofs.Common.{◌≡◌, ℕ, ◌≤◌, Bool, true, false, not, ◌&&◌, List, [], ◌∷◌, ◌++◌, map, None, refl, ap, ◌∙◌, arith, append-nil}
use Rattle.std.proofs.Math.Bool.{and-false}
use Rattle.std.specs.Prelude.{filter, nat_lt, zip}
use Rattle.std.specs.List.{flat_map}
use Rattle.dns_message.specs.Packing.{pack_query, pack_reply, parts_from, fits, bare_reply, answers_in as part_answers, replies_of, Wanting}
use Rattle.lists.specs.Lists.{ordered}
use Rattle.dns_record.specs.declared.record.Rr.{Rr}
use Rattle.dns_record.specs.Records.{record_cmp}
use Rattle.sd_call.specs.Answers.{frames_len}
use Rattle.mdns_history.specs.declared.event.Event.TheVariants as event
use Rattle.mdns_history.specs.declared.mark.Mark.{Mark}
use Rattle.mdns_history.specs.declared.mark.Mark.TheVariants as mark
use Rattle.mdns_history.specs.declared.entry.Given.{Given}
use Rattle.mdns_history.specs.declared.entry.Sent.{Sent}
use Rattle.mdns_history.specs.declared.entry.Entry.{Entry}
use Rattle.mdns_core.specs.InForce.{in_force}
use Rattle.mdns_history.specs.declared.operation.Operation.{Operation}
use Rattle.mdns_history.specs.Sessions.{is_cut, operations_of}
use Rattle.mdns_history.specs.Asking.{tick_askings}
use Rattle.mdns_history.specs.Groups.{Group, group_records}
use Rattle.mdns_history.specs.Sureness.{own_records}
use Rattle.mdns_history.specs.Multicasts.{released_records}
use Rattle.mdns_debts.proofs.Nothing.{map_nothing, append_nothing, ordered_nothing, parts_some}
use Rattle.mdns_history.specs.Announcing.{announced_groups}
use Rattle.mdns_history.specs.Sending.{to_all, is_free, wanted_by, sent_probes, sent_queries, sent_multicasts, sent_unicasts}
use Rattle.mdns_history.specs.Items.{given_to, queue}
use Rattle.mdns_history.specs.Outcomes.{early_outcome}
use Rattle.mdns_history.specs.Fitting.{IsLegal}
use Rattle.mdns_history.specs.Due.{is_nothing, settles_none, ends_none, is_idle}
use Rattle.sd_sessions.specs.Changes.{items_between, passes}
use Rattle.sd_sessions.proofs.NumberLists.{filter-same, flat_map-same}
use Rattle.sd_sessions.proofs.EntryParts.{marked}
use Rattle.mdns_history.specs.Claims.{claim_marks}
use Rattle.mdns_core.proofs.step.Stage.{bare, noted_marks, announcing_marks, entry_after, entry_is, marks_are, sent-next}
use Rattle.sd_sessions.proofs.Brought.{change_items-marked}
use Rattle.sd_sessions.specs.Laws.{answers_in}
use Rattle.sd_sessions.proofs.Shape.{attached, brought_to, passes_now, marks-next, given-next}
use Rattle.sd_sessions.proofs.Operations.{operations-rising}
use Rattle.sd_sessions.proofs.Limits.{queue-within}
use Rattle.sd_sessions.proofs.Idle.{items_between-same}

filter-never : (ns : List ℕ) → filter (λ n. false) ns ≡ []
filter-never [] = refl
filter-never (n ∷ ns) = filter-never ns

flat_map-never : (ns : List ℕ) → ◌≡◌ {A = List Given} (flat_map (λ n. []) ns) []
flat_map-never [] = refl
flat_map-never (n ∷ ns) = flat_map-never ns

-- nothing is noted, sent or given, and two tests pass
abbrev all_quiet : List Mark → List Sent → List Given → Bool → Bool → Bool
all_quiet marks sent given b c = is_nothing marks && is_nothing sent && is_nothing given && b && c

never_quiet : (marks : List Mark) (sent : List Sent) (given : List Given) (b : Bool) → all_quiet marks sent given b false ≡ false
never_quiet marks sent given b = of (is_nothing marks) (is_nothing sent) (is_nothing given) b
  where
    of : (p q r s : Bool) → (p && q && r && s && false) ≡ false
    of true true true true = refl
    of true true true false = refl
    of true true false s = refl
    of true false r s = refl
    of false q r s = refl

never_settled : (marks : List Mark) (sent : List Sent) (given : List Given) (c : Bool) → all_quiet marks sent given false c ≡ false
never_settled marks sent given c = of (is_nothing marks) (is_nothing sent) (is_nothing given)
  where
    of : (p q r : Bool) → (p && q && r && false && c) ≡ false
    of true true true = refl
    of true true false = refl
    of true false r = refl
    of false q r = refl

replies_nothing : (all before : List Rr) (parts : List (List Wanting)) → is_nothing (replies_of all before parts) ≡ is_nothing parts
replies_nothing all before [] = refl
replies_nothing all before (part ∷ parts) = refl

-- there is a reply where there is an answer
packed_nothing : (wants : Rr → List Rr) (answers : List Rr) → is_nothing (pack_reply answers (map wants answers)) ≡ is_nothing answers
unfolding pack_reply
packed_nothing wants [] = refl
packed_nothing wants (rr ∷ rrs) =
    replies_nothing (rr ∷ rrs) [] (parts_from part_fits part_fits ((rr, wants rr) ∷ []) (zip rrs (map wants rrs)))
    ∙ parts_some part_fits part_fits ((rr, wants rr) ∷ []) (zip rrs (map wants rrs))
  where
    part_fits : List Wanting → Bool
    part_fits part = fits (bare_reply (part_answers part))

-- where no group is announced what is released alone is multicast
released_alone : (entry : Entry) (past : List Entry) → announced_groups (entry ∷ past) entry.moment ≡ [] → is_nothing (sent_multicasts in_force entry past) ≡ is_nothing (released_records past entry.moment)
unfolding in_force
released_alone entry past none =
    let own : List Rr = own_records (entry ∷ past) in
    let released : List Rr = released_records past entry.moment in
    let wants : Rr → List Rr = λ rr. filter (is_free past entry.moment) (wanted_by own rr.rdata) in
    let answers : List Group → List Rr =
    λ gs. ordered record_cmp (filter (is_free past entry.moment) (flat_map (λ group. group_records group (entry ∷ past)) gs) ++ released) in
    ap (λ (gs : List Group). is_nothing (map to_all (pack_reply (answers gs) (map wants (answers gs))))) none
    ∙ map_nothing to_all (pack_reply (answers []) (map wants (answers [])))
    ∙ packed_nothing wants (answers [])
    ∙ ordered_nothing released

-- where no question is asked and no group is announced nothing is sent but probes, what is released, and replies
quiet_askings : (askings : List Mark) (past : List Entry) (moment : ℕ) (probes unicasts : List Sent) (entry : Entry) → entry.moment ≡ moment → (gs : List Group) → announced_groups (entry ∷ past) entry.moment ≡ gs →
    all_quiet (askings ++ map (λ (group : Group). mark.Announced group.id) gs) (probes ++ sent_queries askings past moment ++ (sent_multicasts in_force entry past ++ unicasts)) [] true true
    ≡ (is_nothing askings && (is_nothing probes && (is_nothing (map (λ (group : Group). mark.Announced group.id) gs) && (is_nothing (released_records past moment) && is_nothing unicasts))))
unfolding pack_query
quiet_askings [] past moment [] unicasts entry at [] none =
    passes_through (is_nothing (sent_multicasts in_force entry past ++ unicasts))
    ∙ append_nothing (sent_multicasts in_force entry past) unicasts
    ∙ (λ i. released_alone entry past none i && is_nothing unicasts)
    ∙ ap (λ (m : ℕ). is_nothing (released_records past m) && is_nothing unicasts) at
  where
    passes_through : (b : Bool) → (b && true && true && true) ≡ b
    passes_through true = refl
    passes_through false = refl
quiet_askings [] past moment (probe ∷ probes) unicasts entry at [] none = refl
quiet_askings [] past moment [] unicasts entry at (group ∷ gs) some = refl
quiet_askings [] past moment (probe ∷ probes) unicasts entry at (group ∷ gs) some = refl
quiet_askings (m ∷ ms) past moment probes unicasts entry at gs some = refl

module _ (past : List Entry) (moment word : ℕ) (legal : IsLegal in_force past)
    (kept : ends_none past moment ≡ true → settles_none (entry_after past moment word event.Tick) past ≡ true → (o : Operation) → answers_in (entry_after past moment word event.Tick ∷ past) o ≡ answers_in past o) where
  same_operations : (n : ℕ) → operations_of n (marked in_force past moment word event.Tick ∷ past) ≡ operations_of n past
  unfolding operations_of early_outcome
  same_operations n = refl

  abbrev settled : Bool
  settled = settles_none (entry_after past moment word event.Tick) past

  -- a tick that ends no record and makes no group sure brings nothing
  brought_none : ends_none past moment ≡ true → settled ≡ true → (n : ℕ) → brought_to in_force past moment word event.Tick n ≡ []
  unfolding early_outcome
  brought_none none same n =
      change_items-marked in_force past moment word event.Tick n
      ∙ (λ i. items_between (answers_in past) (λ o. kept none same o i) None (operations_of n past) (same_operations n i))
      ∙ items_between-same (operations_of n past) (answers_in past) (operations-rising in_force past legal n)

  -- time gives no marks to claims
  noted_askings : noted_marks past moment word event.Tick ≡ tick_askings past moment ++ announcing_marks past moment word event.Tick
  unfolding claim_marks
  noted_askings = refl

  -- so its marks are those of the questions that it asks and of the groups that it announces
  marks_asked : ends_none past moment ≡ true → settled ≡ true → (entry_after past moment word event.Tick).marks ≡ tick_askings past moment ++ announcing_marks past moment word event.Tick
  marks_asked none same =
      marks-next in_force past moment word event.Tick
      ∙ ap (λ ms. ms ++ map (λ n. mark.Cut n) (filter cutting (attached in_force past moment word event.Tick))) (marks_are past moment word event.Tick ∙ noted_askings)
      ∙ ap (λ ns. (tick_askings past moment ++ announcing_marks past moment word event.Tick) ++ map (λ n. mark.Cut n) ns)
      (filter-same cutting (λ n. false) (attached in_force past moment word event.Tick) (λ n h. fits n) ∙ filter-never (attached in_force past moment word event.Tick))
      ∙ append-nil (tick_askings past moment ++ announcing_marks past moment word event.Tick)
    where
      cutting : ℕ → Bool
      cutting n = not (is_cut n past) && passes_now in_force past moment word event.Tick n

      fits : (n : ℕ) → (not (is_cut n past) && passes_now in_force past moment word event.Tick n) ≡ false
      fits n =
          let few : frames_len (queue n past) ≤ 16777216 = queue-within in_force past legal n in
          let within : nat_lt 16777216 (frames_len (queue n past)) ≡ false = grind arith in
          ap (λ items. not (is_cut n past) && passes (queue n past) items) (brought_none none same n)
          ∙ ap (λ items. not (is_cut n past) && nat_lt 16777216 (frames_len items)) (append-nil (queue n past))
          ∙ ap (λ b. not (is_cut n past) && b) within ∙ and-false (not (is_cut n past))

  given_none : ends_none past moment ≡ true → settled ≡ true → (entry_after past moment word event.Tick).given ≡ []
  given_none none same =
      let ns : List ℕ = filter (λ n. not (is_cut n past) && not (passes_now in_force past moment word event.Tick n)) (attached in_force past moment word event.Tick) in
      given-next in_force past moment word event.Tick
      ∙ flat_map-same (λ n. map (given_to n) (brought_to in_force past moment word event.Tick n)) (λ n. []) ns (λ n h. ap (map (given_to n)) (brought_none none same n))
      ∙ flat_map-never ns

  at_moment : (entry_after past moment word event.Tick).moment ≡ moment
  at_moment = ap (λ e. e.moment) (entry_is past moment word event.Tick)

  -- whether nothing is released and nobody replied to
  abbrev replies_none : Bool
  replies_none = is_nothing (released_records past moment) && is_nothing (sent_unicasts past moment)

  quiet_where : (b s : Bool) → ends_none past moment ≡ b → settled ≡ s →
      all_quiet (entry_after past moment word event.Tick).marks (entry_after past moment word event.Tick).sent (entry_after past moment word event.Tick).given
      settled (ends_none past (entry_after past moment word event.Tick).moment)
      ≡ (b && (s && (is_nothing (tick_askings past moment) && (is_nothing (sent_probes past moment) && (is_nothing (announcing_marks past moment word event.Tick) && replies_none)))))
  quiet_where true true none same =
      let e : Entry = entry_after past moment word event.Tick in
      let asked : List Mark = tick_askings past moment in
      let noted : List Mark = asked ++ announcing_marks past moment word event.Tick in
      let sent : List Sent = sent_probes past moment ++ sent_queries asked past moment ++ (sent_multicasts in_force (bare past moment word event.Tick) past ++ sent_unicasts past moment) in
      ap (λ ms. all_quiet ms e.sent e.given settled (ends_none past e.moment)) (marks_asked none same)
      ∙ ap (λ ss. all_quiet noted ss e.given settled (ends_none past e.moment)) (sent-next past moment word event.Tick)
      ∙ ap (λ gs. all_quiet noted sent gs settled (ends_none past e.moment)) (given_none none same)
      ∙ ap (λ b. all_quiet noted sent [] b (ends_none past e.moment)) same
      ∙ ap (λ k. all_quiet noted sent [] true (ends_none past k)) at_moment
      ∙ ap (all_quiet noted sent [] true) none
      ∙ quiet_askings asked past moment (sent_probes past moment) (sent_unicasts past moment) (bare past moment word event.Tick) refl (announced_groups (bare past moment word event.Tick ∷ past) moment) refl
  quiet_where true false none some =
      let e : Entry = entry_after past moment word event.Tick in
      ap (λ b. all_quiet e.marks e.sent e.given b (ends_none past e.moment)) some
      ∙ never_settled e.marks e.sent e.given (ends_none past e.moment)
  quiet_where false s some same =
      let e : Entry = entry_after past moment word event.Tick in
      ap (λ k. all_quiet e.marks e.sent e.given settled (ends_none past k)) at_moment
      ∙ ap (all_quiet e.marks e.sent e.given settled) some
      ∙ never_quiet e.marks e.sent e.given settled

-- A tick is idle where it ends no record, makes no group sure, asks no question, probes and announces no group, and releases and replies nothing, where answers stay in an entry that ends no record
-- and makes no group sure.
pub is_idle-tick : (past : List Entry) (moment : ℕ) → IsLegal in_force past
    → (ends_none past moment ≡ true → settles_none (entry_after past moment 0 event.Tick) past ≡ true → (o : Operation) → answers_in (entry_after past moment 0 event.Tick ∷ past) o ≡ answers_in past o)
    → is_idle in_force past moment
    ≡ (ends_none past moment && (settles_none (entry_after past moment 0 event.Tick) past && (is_nothing (tick_askings past moment) && (is_nothing (sent_probes past moment) && (is_nothing (announcing_marks past moment 0 event.Tick)
    && (is_nothing (released_records past moment) && is_nothing (sent_unicasts past moment)))))))
unfolding is_idle
is_idle-tick past moment legal kept = quiet_where past moment 0 legal kept (ends_none past moment) (settles_none (entry_after past moment 0 event.Tick) past) refl refl
