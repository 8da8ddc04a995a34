-- When a tick does nothing, by what is kept of claims: a group waits for each of its moments, and where none becomes sure the answers stay.
use Rattle.std.proofs.Common.{◌≡◌, ℕ, ◌≤◌, ◌==◌, Bool, true, false, cond, not, ◌&&◌, ◌||◌, List, [], ◌∷◌, ◌++◌, map, Some, None, refl, ap, ◌∙◌, sym, append-nil, arith}
use Rattle.std.proofs.Math.Bool.{and-false}
use Rattle.std.proofs.lemmas.List.Folds.{list_all-append, list_all-map}
use Rattle.std.specs.Prelude.{filter, nat_le, nat_lt}
use Rattle.std.specs.List.{list_all, list_any, flat_map, filter_map, cons_option}
use Rattle.std.specs.Option.{is_some, option_map_or}
use Rattle.sd_answer.specs.Known.{rrs_of}
use Rattle.sd_call.specs.declared.answer.Answer.{Answer}
use Rattle.sd_call.specs.declared.answer.Answer.TheVariants.{Conflict}
use Rattle.sd_call.specs.Requests.{is_register}
use Rattle.mdns_history.specs.declared.event.Event.TheVariants as event
use Rattle.mdns_history.specs.declared.entry.Entry.{Entry}
use Rattle.mdns_history.specs.declared.entry.Sent.{Sent}
use Rattle.mdns_history.specs.declared.mark.Mark.{Mark}
use Rattle.mdns_history.specs.declared.mark.Mark.TheVariants as mark
use Rattle.mdns_history.specs.declared.held.Held.{Held}
use Rattle.mdns_history.specs.declared.operation.Operation.{Operation}
use Rattle.mdns_history.specs.History.{now}
use Rattle.mdns_history.specs.Lifetimes.{is_live_at, live_records}
use Rattle.mdns_history.specs.Answers.{named_if, answers_over}
use Rattle.mdns_history.specs.Asking.{tick_askings}
use Rattle.mdns_history.specs.Sending.{to_all, sent_probes}
use Rattle.mdns_history.specs.Fitting.{IsLegal}
use Rattle.mdns_history.specs.Due.{is_nothing, settles_none, ends_none, is_idle}
use Rattle.mdns_probe.specs.declared.claim.Claim.{Claim}
use Rattle.mdns_probe.specs.declared.due.Due.{Due}
use Rattle.mdns_probe.specs.declared.due.Due.TheVariants.{Probe, Settle, Announce}
use Rattle.mdns_probe.specs.Claiming.{probed_at, settled_at, announced_at, announced_if, ticked, after_tick, is_probe_due, is_settle_due, is_announce_due, next_of}
use Rattle.mdns_probe.specs.Kept.{Kept, name_of, own_of, probe_for, probes_for, announced_for}
use Rattle.mdns_probe.specs.Answering.{registered_by}
use Rattle.mdns_probe.proofs.Ticking.{announcements_follow}
use Rattle.mdns_probe.proofs.Dues.{dues_are_awaited}
use Rattle.mdns_probe.proofs.Ticks.{ticks_leave_nothing_due}
use Rattle.mdns_probe.proofs.Quieting.{ticks_settle, quiet_ticks_keep}
use Rattle.mdns_probe.proofs.Reading.{own_records_are, probes_are}
use Rattle.mdns_claims.specs.State.{Contents, Stands}
use Rattle.mdns_claims.specs.Owned.{own_in, registered_answers}
use Rattle.mdns_claims.specs.Behind.{Occasion, next_in, ends, renewed_if, ticked_on, behind, occasion_of, contents_told}
use Rattle.mdns_claims.specs.Laws.{told_in}
use Rattle.sd_sessions.specs.Laws.{answers_in}
use Rattle.mdns_reply.specs.Lasts.{Last}
use Rattle.mdns_reply.specs.Lasts as lasts
use Rattle.mdns_debts.specs.Queries.{Query}
use Rattle.mdns_debts.specs.Following.{queries_in}
use Rattle.mdns_core.specs.InForce.{in_force}
use Rattle.mdns_core.specs.State.{reply_moments}
use Rattle.mdns_core.proofs.ticks.Replies.{replies-quiet}
use Rattle.mdns_core.proofs.records.QuietRecords.{filter-all, live_records-quiet}
use Rattle.mdns_core.proofs.step.Stage.{announcing_marks, entry_after, entry_is}
use Rattle.mdns_core.proofs.step.Answered.{live, claims-are, answers-kept}
use Rattle.mdns_core.proofs.step.Claiming.{contents_next, claims-next}
use Rattle.mdns_core.proofs.ticks.Ticks.{is_idle-tick}

-- whether a claim isn't due to be sure
abbrev is_unsettled : ℕ → Claim → Bool
is_unsettled moment claim = not (is_settle_due moment claim)

-- a tick leaves the sureness of a claim that isn't due to be sure
sure_stays : (moment : ℕ) (announces : Bool) (claim : Claim) → is_unsettled moment claim ≡ true → (after_tick moment announces claim).sure ≡ claim.sure
sure_stays moment announces claim h = announced (ticked moment claim) ∙ of (is_probe_due moment claim) (is_settle_due moment claim) h
  where
    announced : (c : Claim) → (announced_if moment announces c).sure ≡ c.sure
    announced c = when (announces && is_announce_due moment c)
      where
        when : (b : Bool) → (cond b (announced_at moment c) c).sure ≡ c.sure
        when true = refl
        when false = refl

    of : (p q : Bool) → not q ≡ true → (cond p (probed_at moment claim) (cond q (settled_at moment claim) claim)).sure ≡ claim.sure
    of true q k = refl
    of false true k = cc
    of false false k = refl

both_of : (a b : Bool) → (a && b) ≡ true → (a ≡ true) × (b ≡ true)
both_of true true h = (refl, refl)
both_of true false h = cc
both_of false b h = cc

-- the answers of a registration stay in a tick that makes no group sure
module _ (at : Occasion) (session op : ℕ) where
  abbrev answer_of : Kept → List Answer
  answer_of one = named_if one.claim.sure (name_of one)

  abbrev answer_in : List Kept → List Answer
  answer_in kept = option_map_or answer_of (registered_by session op kept) (Conflict ∷ [])

  ticked_answers : (kept : List Kept) → list_all (λ (one : Kept). is_unsettled at.moment one.claim) kept ≡ true → answer_in (map (ticked_on at) kept) ≡ answer_in kept
  ticked_answers [] h = refl
  ticked_answers (one ∷ kept) h =
      let parts = both_of (is_unsettled at.moment one.claim) (list_all (λ (other : Kept). is_unsettled at.moment other.claim) kept) h in
      of ((one.group.session == session) && (one.group.op == op)) (sure_stays at.moment at.announces one.claim parts.0) (ticked_answers kept parts.1)
    where
      of : (b : Bool) → (after_tick at.moment at.announces one.claim).sure ≡ one.claim.sure → answer_in (map (ticked_on at) kept) ≡ answer_in kept →
          option_map_or answer_of (cond b (Some (ticked_on at one)) (registered_by session op (map (ticked_on at) kept))) (Conflict ∷ [])
          ≡ option_map_or answer_of (cond b (Some one) (registered_by session op kept)) (Conflict ∷ [])
      of true same rest = ap (λ (b : Bool). named_if b (name_of one)) same
      of false same rest = rest

-- a tick leaves each group
pub all_ticked : (at : Occasion) → at.told.ticks ≡ true → (kept : List Kept) → filter_map (behind at) kept ≡ map (ticked_on at) kept
all_ticked at ticks [] = refl
all_ticked at ticks (one ∷ kept) =
    (λ i. cons_option (cond (ticks i) (Some (ticked_on at one)) (cond (ends at one.group) None (Some (renewed_if at one)))) (all_ticked at ticks kept i))

not_above : (moment n : ℕ) → not (nat_le n moment) ≡ nat_lt moment n
not_above moment n = grind arith

none_above : (moment : ℕ) (ns : List ℕ) → not (list_any (λ n. nat_le n moment) ns) ≡ list_all (nat_lt moment) ns
none_above moment [] = refl
none_above moment (n ∷ ns) = of (nat_le n moment) (list_any (λ k. nat_le k moment) ns) ∙ (λ i. not_above moment n i && none_above moment ns i)
  where
    of : (a b : Bool) → not (a || b) ≡ (not a && not b)
    of true b = refl
    of false b = refl

-- whether a tick announces a claim
abbrev is_announced : ℕ → Claim → Bool
is_announced moment claim = is_announce_due moment (ticked moment claim)

-- a claim is neither probed nor made sure nor announced exactly before its moment
one_quiet : (moment : ℕ) (claim : Claim) → (is_unsettled moment claim && (not (is_probe_due moment claim) && not (is_announced moment claim))) ≡ list_all (nat_lt moment) (next_of true claim)
one_quiet moment claim =
    of (is_probe_due moment claim) (is_settle_due moment claim) (Probe claim.group) (Settle claim.group)
    ∙ ap not (dues_are_awaited true moment claim)
    ∙ none_above moment (next_of true claim)
  where
    last : (a : Bool) → not a ≡ not (is_some {T = Due} (cond a (Some (Announce claim.group)) None))
    last true = refl
    last false = refl

    of : (p q : Bool) (x y : Due) → (not q && (not p && not (is_announce_due moment (cond p (probed_at moment claim) (cond q (settled_at moment claim) claim)))))
        ≡ not (is_some {T = Due} (cond p (Some x) (cond q (Some y) (cond (true && is_announce_due moment claim) (Some (Announce claim.group)) None))))
    of true true x y = refl
    of true false x y = refl
    of false true x y = refl
    of false false x y = last (is_announce_due moment claim)

-- no group is probed, made sure or announced exactly before the moments of all
groups_quiet : (moment : ℕ) (kept : List Kept) →
    (list_all (λ (one : Kept). is_unsettled moment one.claim) kept && (is_nothing (probes_for kept moment) && is_nothing (announced_for (map (λ (one : Kept). one.claim) kept) moment)))
    ≡ list_all (nat_lt moment) (flat_map (next_in true) kept)
groups_quiet moment [] = refl
groups_quiet moment (one ∷ kept) =
    of (is_unsettled moment one.claim) (list_all (λ (other : Kept). is_unsettled moment other.claim) kept) (is_probe_due moment one.claim) (is_announced moment one.claim)
    ∙ (λ i. one_quiet moment one.claim i && groups_quiet moment kept i)
    ∙ sym (list_all-append (nat_lt moment) (next_of true one.claim) (flat_map (next_in true) kept))
  where
    left : List Kept
    left = filter (λ other. is_probe_due moment other.claim) kept

    sent : List Kept → List Sent
    sent ones = map (λ other. to_all (probe_for other)) ones

    due : List Claim
    due = filter (is_announced moment) (map (λ (other : Kept). other.claim) kept)

    marked : List Claim → List Mark
    marked claims = map (λ (claim : Claim). mark.Announced claim.group) claims

    of : (u all p a : Bool) → ((u && all) && (is_nothing (sent (cond p (one ∷ left) left)) && is_nothing (marked (cond a (one.claim ∷ due) due))))
        ≡ ((u && (not p && not a)) && (all && (is_nothing (sent left) && is_nothing (marked due))))
    of false all p a = refl
    of true false true a = refl
    of true false false true = refl
    of true false false false = refl
    of true true true a = refl
    of true true false true = and-false (is_nothing (sent left))
    of true true false false = refl

-- Behind a tick each group waits for a later moment.
pub groups-later : (at : Occasion) (kept : List Kept) → list_all (nat_lt at.moment) (flat_map (next_in at.announces) (map (ticked_on at) kept)) ≡ true
groups-later at [] = refl
groups-later at (one ∷ kept) =
    list_all-append (nat_lt at.moment) (next_of at.announces after) (flat_map (next_in at.announces) (map (ticked_on at) kept))
    ∙ (λ i. later i && groups-later at kept i)
  where
    after : Claim
    after = after_tick at.moment at.announces one.claim

    later : list_all (nat_lt at.moment) (next_of at.announces after) ≡ true
    later =
        sym (none_above at.moment (next_of at.announces after))
        ∙ ap not (sym (dues_are_awaited at.announces at.moment after) ∙ ticks_leave_nothing_due at.announces at.moment one.claim)

module _ (past : List Entry) (moment : ℕ) (legal : IsLegal in_force past) (later : now past ≤ moment) (contents : Contents) (announces : contents.announces ≡ in_force.announcing) (stands : Stands contents past) where
  abbrev tick : Entry
  tick = entry_after past moment 0 event.Tick

  abbrev then : Contents
  then = contents_next past legal moment 0 event.Tick refl later contents announces stands

  -- whether no group that is kept is due to be sure
  abbrev unsettled : Bool
  unsettled = list_all (λ (one : Kept). is_unsettled moment one.claim) contents.kept

  settles-are : settles_none tick past ≡ unsettled
  unfolding in_force
  settles-are =
      ticks_settle in_force past moment 0 refl legal later
      ∙ ap (list_all (is_unsettled moment)) (sym (claims-are past contents stands))
      ∙ list_all-map (is_unsettled moment) (λ (one : Kept). one.claim) contents.kept

  own-same : settles_none tick past ≡ true → own_in then.kept ≡ own_in contents.kept
  unfolding in_force
  own-same none =
      ap own_of (claims-are (tick ∷ past) then (claims-next past legal moment 0 event.Tick refl later contents announces stands))
      ∙ sym (own_records_are (tick ∷ past))
      ∙ quiet_ticks_keep in_force past moment 0 refl legal later (sym (ticks_settle in_force past moment 0 refl legal later) ∙ none)
      ∙ own_records_are past
      ∙ ap own_of (sym (claims-are past contents stands))

  registered-same : unsettled ≡ true → (session op : ℕ) → registered_answers session op then.kept ≡ registered_answers session op contents.kept
  unfolding contents_told
  registered-same none session op =
      ap (registered_answers session op) (append-nil (filter_map (behind at) contents.kept) ∙ all_ticked at refl contents.kept)
      ∙ ticked_answers at session op contents.kept none
    where
      at : Occasion
      at = occasion_of contents (told_in past moment 0 event.Tick) moment 0

  records-same : ends_none past moment ≡ true → rrs_of (live (tick ∷ past)) ≡ rrs_of (live past)
  records-same none =
      ap (λ k. map (λ (held : Held). held.rr) (live_records (tick ∷ past) k)) (ap (λ e. e.moment) (entry_is past moment 0 event.Tick))
      ∙ ap (map (λ (held : Held). held.rr)) (live_records-quiet past moment 0 event.Tick refl (now past) later ∙ filter-all (is_live_at moment) (live_records past (now past)) none)

  -- the answers stay where no record ends and no group becomes sure
  answers-same : ends_none past moment ≡ true → settles_none tick past ≡ true → (o : Operation) → answers_in (tick ∷ past) o ≡ answers_in past o
  answers-same none settled o =
      (λ i. sym (answers-kept (tick ∷ past) then (claims-next past legal moment 0 event.Tick refl later contents announces stands)) i o)
      ∙ (λ i. cond (is_register o.request) (registered-same (sym settles-are ∙ settled) o.session o.op i) (answers_over o.request (records-same none i ++ own-same settled i)))
      ∙ (λ i. answers-kept past contents stands i o)

  module _ (multicasts : List Last) (lasting : lasts.Stands multicasts past) (owing : List Query) (owed : owing ≡ queries_in past) where
    -- A tick is idle where it ends no record, asks no question and comes before the moments of all groups and of all that is owed.
    pub is_idle-kept : is_idle in_force past moment
        ≡ ((ends_none past moment && is_nothing (tick_askings past moment)) && list_all (nat_lt moment) (flat_map (next_in contents.announces) contents.kept ++ reply_moments multicasts owing))
    unfolding in_force
    is_idle-kept =
        is_idle-tick past moment legal answers-same
        ∙ (λ i. ends_none past moment && (settles-are i && (is_nothing (tick_askings past moment) && (is_nothing (probes-same i) && (is_nothing (announced-same i) && replies-quiet past moment later multicasts lasting owing owed i)))))
        ∙ turned (ends_none past moment) unsettled (is_nothing (tick_askings past moment)) (is_nothing (probes_for contents.kept moment)) (is_nothing (announced_for (map (λ (one : Kept). one.claim) contents.kept) moment))
        (list_all (nat_lt moment) (reply_moments multicasts owing))
        ∙ (λ i. (ends_none past moment && is_nothing (tick_askings past moment)) && (quiet-same i && list_all (nat_lt moment) (reply_moments multicasts owing)))
        ∙ ap (λ b. (ends_none past moment && is_nothing (tick_askings past moment)) && b)
        (sym (list_all-append (nat_lt moment) (flat_map (next_in contents.announces) contents.kept) (reply_moments multicasts owing)))
      where
        probes-same : sent_probes past moment ≡ probes_for contents.kept moment
        probes-same = probes_are past moment ∙ ap (λ (ks : List Kept). probes_for ks moment) (sym stands.kept)

        announced-same : announcing_marks past moment 0 event.Tick ≡ announced_for (map (λ (one : Kept). one.claim) contents.kept) moment
        announced-same = announcements_follow in_force past moment 0 refl legal later ∙ ap (λ (cs : List Claim). announced_for cs moment) (sym (claims-are past contents stands))

        quiet-same : (unsettled && (is_nothing (probes_for contents.kept moment) && is_nothing (announced_for (map (λ (one : Kept). one.claim) contents.kept) moment)))
            ≡ list_all (nat_lt moment) (flat_map (next_in contents.announces) contents.kept)
        quiet-same = groups_quiet moment contents.kept ∙ ap (λ b. list_all (nat_lt moment) (flat_map (next_in b) contents.kept)) (sym announces)

        turned : (e s a p m r : Bool) → (e && (s && (a && (p && (m && r))))) ≡ ((e && a) && ((s && (p && m)) && r))
        turned true true true true true r = refl
        turned true true true true false r = refl
        turned true true true false m r = refl
        turned true true false p m r = refl
        turned true false true p m r = refl
        turned true false false p m r = refl
        turned false s a p m r = refl
