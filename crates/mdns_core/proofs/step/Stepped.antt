-- What is kept makes the entry that fits, and stands for the history with it.
use Rattle.std.proofs.Common.{◌≡◌, ℕ, ◌≤◌, true, false, List, ◌∷◌, ◌++◌, map, ap, subst, ◌∙◌, sym, ◌&&◌, append_assoc}
use Rattle.std.specs.List.Sorted.{IsPermutation}
use Rattle.std.specs.Option.{unwrap_or}
use Rattle.std.proofs.lemmas.List.Folds.{list_all-append}
use Rattle.dns_record.specs.declared.record.Rr.{Rr}
use Rattle.dns_message.specs.Writing.{is_spellable_data}
use Rattle.sd_answer.specs.Known.{rrs_of}
use Rattle.sd_answer.specs.Laws.{have_data}
use Rattle.dns_record.specs.declared.record.Key.{Key}
use Rattle.mdns_history.specs.declared.event.Event.{Event}
use Rattle.mdns_history.specs.declared.held.Held.{Held}
use Rattle.mdns_history.specs.declared.mark.Mark.{Mark}
use Rattle.mdns_history.specs.declared.mark.Cause.{Cause}
use Rattle.mdns_history.specs.declared.entry.Given.{Given}
use Rattle.mdns_history.specs.declared.entry.Sent.{Sent}
use Rattle.mdns_history.specs.declared.entry.Outcome.{Outcome}
use Rattle.mdns_history.specs.declared.entry.Entry.{Entry}
use Rattle.mdns_history.specs.History.{now}
use Rattle.mdns_history.specs.History as moves
use Rattle.mdns_core.specs.InForce.{in_force}
use Rattle.mdns_history.specs.Hearings.{hearings, heard_in}
use Rattle.mdns_history.specs.Lifetimes.{live_records}
use Rattle.mdns_history.specs.Sessions.{opened, opened_count}
use Rattle.mdns_history.specs.Outcomes.{early_outcome}
use Rattle.mdns_history.specs.Fitting.{is_boot, last_moment, refusal_marks, Fits, IsLegal}
use Rattle.mdns_history.proofs.Determined.{next_entry-fits}
use Rattle.mdns_question.specs.declared.tracked.Tracked.{Tracked}
use Rattle.mdns_question.specs.Standing as asking
use Rattle.mdns_question.specs.Standing.{mark_of}
use Rattle.sd_sessions.specs.declared.change.SessionChange.{SessionChange}
use Rattle.mdns_core.specs.State.{State, Stands}
use Rattle.sd_sessions.specs.Sessions.{Session, sessions_in}
use Rattle.mdns_asking.specs.Asked.{asked_for, sent_for, questions_after}
use Rattle.mdns_asking.specs.State.{asker_of}
use Rattle.mdns_asking.specs.Timed.{all_timed}
use Rattle.sd_sessions.specs.Settling.{change_for, cuts_of, gifts_of, all_settled, remaining, with_opened, outcome_then, sessions_after}
use Rattle.mdns_happened.specs.Told.{Told, told_of, heard_of, is_tick}
use Rattle.mdns_claims.specs.State.{Contents}
use Rattle.mdns_claims.specs.State as claims
use Rattle.mdns_claims.specs.Owned.{own_in}
use Rattle.mdns_claims.specs.Behind.{occasion_of, probes_told, contents_told}
use Rattle.mdns_reply.specs.Lasts.{Last, multicasts_of}
use Rattle.mdns_debts.specs.Queries.{Query}
use Rattle.mdns_debts.specs.Following.{queries_in}
use Rattle.mdns_owing.specs.Owing.{news_told, queries_told}
use Rattle.mdns_reply.specs.Lasts as lasts
use Rattle.mdns_responding.specs.Told.{responses_told, announced_told}
use Rattle.mdns_responding.specs.Laws.{responses_of}
use Rattle.mdns_core.specs.Viewed.{viewed, kept_outcome}
use Rattle.mdns_core.specs.Next.{told_for, claims_then, changes_for, sessions_then, entry_for, state_after, IsHeard}
use Rattle.mdns_core.proofs.step.Stage.{queries_by, probes_by, sent_by, bare, claim_marks, asking_marks, announcing_marks, entry_after, entry_is, marks_are, sent-next, IsLegal-next}
use Rattle.mdns_core.proofs.step.Responding.{responses-kept, announced-kept}
use Rattle.mdns_core.proofs.step.Owed.{ticks_are, queries-next}
use Rattle.mdns_core.proofs.records.Heard.{heard-next}
use Rattle.mdns_core.proofs.records.Hears.{refusal-is, records-is}
use Rattle.mdns_core.proofs.asking.AskedFor.{marks-asked, sends-asked}
use Rattle.mdns_core.proofs.asking.AskedAfter.{asking-next}
use Rattle.mdns_asking.proofs.Timed.{stands_timed}
use Rattle.mdns_core.proofs.step.Answered.{live, outcome-kept}
use Rattle.mdns_core.proofs.step.Claiming.{contents_next, claim-marks-kept, probes-kept, claims-next, changes-kept}
use Rattle.sd_sessions.specs.Answered.{answered}
use Rattle.sd_sessions.specs.Laws.{answers_in}
use Rattle.sd_sessions.proofs.KeptChanges.{marks-kept, given-kept}
use Rattle.sd_sessions.proofs.Permuted.{changes-permuted}
use Rattle.sd_sessions.proofs.Follows.{outcome-is, opened-is, sessions-is}

-- an entry of its parts
abbrev entry_of : ℕ → ℕ → Event → List Mark → List Sent → List Given → Outcome → Entry
entry_of moment word ev marks sent given outcome = record { moment = moment; word = word; event = ev; marks = marks; sent = sent; given = given; outcome = outcome }

abbrev kept_state : ℕ → ℕ → List Session → List Held → List Tracked → Contents → List Last → List Query → State
kept_state last count sessions held questions contents multicasts owing =
    record { last = last; opened = count; sessions = sessions; held = held; questions = questions; claims = contents; multicasts = multicasts; queries = owing }

appended_parts : (ks ms ns os more : List Mark) → (ks ++ (ms ++ (ns ++ os))) ++ more ≡ ks ++ ms ++ ns ++ os ++ more
appended_parts ks ms ns os more = ap (λ l. l ++ more) (sym (append_assoc ks ms (ns ++ os)) ∙ sym (append_assoc (ks ++ ms) ns os))

module _ (history : List Entry) (moment word : ℕ) (ev : Event) where
  abbrev early : Outcome
  early = early_outcome ev history

  abbrev refused : List Mark
  refused = refusal_marks (bare history moment word ev) history ev

  abbrev changes : List SessionChange
  changes = map (change_for ev early (answers_in history) (answers_in (entry_after history moment word ev ∷ history))) (sessions_in history)

  abbrev then_sessions : Outcome → List SessionChange → List Session
  then_sessions o cs = with_opened (opened o) (remaining ev o (all_settled (sessions_in history) cs))

  abbrev entry_with : Outcome → List SessionChange → List Mark → List Mark → List Mark → List Mark → List Sent → List Sent → List Sent → Entry
  entry_with o cs refusal claimed asked announced probes queries responses =
      entry_of moment word ev (refusal ++ claimed ++ asked ++ announced ++ cuts_of cs) (probes ++ queries ++ responses) (gifts_of cs) (outcome_then ev o (then_sessions o cs))

  -- the marks of claims, of questions and of announcements, and the probes, queries and responses of the entry that follows
  abbrev claims_marked : List Mark
  claims_marked = claim_marks history moment word ev

  abbrev asking_marked : List Mark
  asking_marked = asking_marks history moment word ev

  abbrev announcing_marked : List Mark
  announcing_marked = announcing_marks history moment word ev

  abbrev probes_sent : List Sent
  probes_sent = probes_by history moment ev

  abbrev queries_sent : List Sent
  queries_sent = queries_by history moment ev

  abbrev responses_sent : List Sent
  responses_sent = responses_of in_force (bare history moment word ev) history ev

  module _ (legal : IsLegal in_force history) (no_boot : is_boot ev ≡ false) where
    -- what is kept makes the entry that follows, with the marks and messages of the duties
    entry-is : entry_after history moment word ev
        ≡ entry_with early changes refused claims_marked asking_marked announcing_marked probes_sent queries_sent responses_sent
    entry-is =
        let e : Entry = entry_after history moment word ev in
        let ms : List Mark = refused ++ claims_marked ++ asking_marked ++ announcing_marked ++ cuts_of changes in
        ap (λ m. entry_of m e.word e.event e.marks e.sent e.given e.outcome) (ap (λ x. x.moment) (entry_is history moment word ev))
        ∙ ap (λ w. entry_of moment w e.event e.marks e.sent e.given e.outcome) (ap (λ x. x.word) (entry_is history moment word ev))
        ∙ ap (λ v. entry_of moment word v e.marks e.sent e.given e.outcome) (ap (λ x. x.event) (entry_is history moment word ev))
        ∙ ap (λ marks. entry_of moment word ev marks e.sent e.given e.outcome)
        (marks-kept in_force history moment word ev legal ∙ ap (λ ns. ns ++ cuts_of changes) (marks_are history moment word ev)
        ∙ appended_parts refused claims_marked asking_marked announcing_marked (cuts_of changes))
        ∙ ap (λ ss. entry_of moment word ev ms ss e.given e.outcome) (sent-next history moment word ev)
        ∙ ap (λ gs. entry_of moment word ev ms (sent_by (bare history moment word ev) history ev) gs e.outcome) (given-kept in_force history moment word ev legal)
        ∙ ap (λ o. entry_of moment word ev ms (sent_by (bare history moment word ev) history ev) (gifts_of changes) o) (outcome-is in_force history moment word ev legal no_boot)

    word-is : (entry_after history moment word ev).word ≡ word
    word-is = ap (λ x. x.word) (entry_is history moment word ev)

    event-is : (entry_after history moment word ev).event ≡ ev
    event-is = ap (λ x. x.event) (entry_is history moment word ev)

    moment-is : (entry_after history moment word ev).moment ≡ moment
    moment-is = ap (λ x. x.moment) (entry_is history moment word ev)

    module _ (since : now history ≤ moment) (contents : Contents) (announces : contents.announces ≡ in_force.announcing) (claims_stand : claims.Stands contents history)
        (questions : List Tracked) (before after : List Held) (refusal : List Mark) (questions_stand : asking.Stands (asker_of questions before) history)
        (held : IsPermutation before (live_records history (now history))) (heard : IsHeard moment word ev (hearings history) after refusal)
        (multicasts : List Last) (lasting : lasts.Stands multicasts history) (owing : List Query) (owed : owing ≡ queries_in history) where
      abbrev state : State
      state = kept_state (now history) (opened_count history) (sessions_in history) before questions contents multicasts owing

      abbrev asked : List (Key × Cause)
      asked = asked_for questions after moment refusal ev

      -- what is kept of claims, for an outcome and the mark of a refusal
      abbrev claims_by : Outcome → List Mark → Contents
      claims_by o marks = contents_told contents (occasion_of contents (told_of ev o marks) moment word)

      abbrev claimed_by : Outcome → List Mark → List Mark
      claimed_by o marks = (occasion_of contents (told_of ev o marks) moment word).marks

      abbrev contents_then : Contents
      contents_then = contents_next history legal moment word ev no_boot since contents announces claims_stand

      -- the responses and the marks of announcements, for an outcome, the mark of a refusal and what is then kept of claims
      abbrev responses_by : Outcome → List Mark → Contents → List Sent
      responses_by o marks then = responses_told (told_of ev o marks) moment multicasts owing contents.kept then.kept

      abbrev announced_by : Outcome → List Mark → List Mark
      announced_by o marks = announced_told (told_of ev o marks) moment contents.kept

      -- the changes of sessions, for an outcome and what is then kept of claims
      abbrev changes_by : Outcome → Contents → List SessionChange
      changes_by o then = map (change_for ev o (answered (viewed contents before)) (answered (viewed then after))) (sessions_in history)

      refusal-same : refusal ≡ refused
      refusal-same = heard.refused ∙ refusal-is history moment word ev

      records-after : IsPermutation after (live_records (entry_after history moment word ev ∷ history) (entry_after history moment word ev).moment)
      records-after = subst (λ m. IsPermutation after (live_records (entry_after history moment word ev ∷ history) m)) (sym moment-is)
          (subst (λ live. IsPermutation after live) (records-is history moment word ev) heard.records)

      kept-early : kept_outcome contents (opened_count history) (sessions_in history) ev ≡ early
      kept-early = sym (outcome-kept history contents claims_stand legal ev)

      claims-are : claims_by (kept_outcome contents (opened_count history) (sessions_in history) ev) refusal ≡ contents_then
      claims-are = λ i. claims_by (kept-early i) (refusal-same i)

      claimed-are : claimed_by (kept_outcome contents (opened_count history) (sessions_in history) ev) refusal ≡ claim_marks history moment word ev
      claimed-are = (λ i. claimed_by (kept-early i) (refusal-same i)) ∙ claim-marks-kept history legal moment word ev no_boot since contents announces claims_stand

      announced-are : announced_by (kept_outcome contents (opened_count history) (sessions_in history) ev) refusal ≡ announcing_marked
      announced-are = (λ i. announced_by (kept-early i) (refusal-same i)) ∙ announced-kept history legal moment word ev no_boot since contents claims_stand multicasts lasting owing owed

      responses-are : responses_by (kept_outcome contents (opened_count history) (sessions_in history) ev) refusal (claims_then state moment word ev refusal) ≡ responses_sent
      responses-are = (λ i. responses_by (kept-early i) (refusal-same i) (claims-are i)) ∙ responses-kept history legal moment word ev no_boot since contents claims_stand multicasts lasting owing owed

      module _ (data_before : have_data (rrs_of before ++ own_in contents.kept) ≡ true)
          (data_after : have_data (rrs_of after ++ own_in contents_then.kept) ≡ true) (typed_after : have_data (rrs_of after) ≡ true) where
        changes-are : changes_by early contents_then ≡ changes
        changes-are =
            changes-permuted ev early (viewed contents before) (viewed contents_then after) (live history) (live (entry_after history moment word ev ∷ history))
            data_before data_after held records-after (sessions_in history)
            ∙ changes-kept history legal moment word ev no_boot since contents announces claims_stand

        changes-then : changes_for state ev (claims_then state moment word ev refusal) after ≡ changes
        changes-then = (λ i. changes_by (kept-early i) (claims-are i)) ∙ changes-are

        pub entry_for-is : entry_for state moment word ev refusal after ≡ entry_after history moment word ev
        entry_for-is =
            let o : Outcome = kept_outcome contents (opened_count history) (sessions_in history) ev in
            let marks : List Mark = map mark_of asked in
            let queries : List Sent = sent_for after moment ev asked in
            let probes : List Sent = probes_told (is_tick ev) contents.kept moment in
            let announced : List Mark = announced_by o refusal in
            let responses : List Sent = responses_by o refusal (claims_then state moment word ev refusal) in
            ap (λ cs. entry_with o cs refusal (claimed_by o refusal) marks announced probes queries responses) changes-then
            ∙ ap (λ x. entry_with x changes refusal (claimed_by o refusal) marks announced probes queries responses) kept-early
            ∙ ap (λ cm. entry_with early changes refusal cm marks announced probes queries responses) claimed-are
            ∙ ap (λ r. entry_with early changes r claims_marked marks announced probes queries responses) refusal-same
            ∙ ap (λ ms. entry_with early changes refused claims_marked ms announced probes queries responses) (marks-asked history moment word questions before after refusal questions_stand ev heard)
            ∙ ap (λ am. entry_with early changes refused claims_marked asking_marked am probes queries responses) announced-are
            ∙ ap (λ ps. entry_with early changes refused claims_marked asking_marked announcing_marked ps queries responses)
            (probes-kept history legal moment word ev no_boot since contents announces claims_stand)
            ∙ ap (λ qs. entry_with early changes refused claims_marked asking_marked announcing_marked probes_sent qs responses)
            (sends-asked history moment word questions before after refusal questions_stand ev heard)
            ∙ ap (λ rs. entry_with early changes refused claims_marked asking_marked announcing_marked probes_sent queries_sent rs) responses-are
            ∙ sym entry-is

        sessions-are : sessions_after ev (sessions_then state ev (changes_for state ev (claims_then state moment word ev refusal) after)) ≡ sessions_in (entry_after history moment word ev ∷ history)
        sessions-are =
            (λ i. sessions_after ev (then_sessions (kept-early i) (changes-then i)))
            ∙ sym (sessions-is in_force history moment word ev legal no_boot)

        asking-after : asking.Stands (asker_of (all_timed after (questions_after (sessions_in history) moment word ev (kept_outcome contents (opened_count history) (sessions_in history) ev) asked questions)) after)
            (entry_after history moment word ev ∷ history)
        asking-after =
            let o : Outcome = kept_outcome contents (opened_count history) (sessions_in history) ev in
            stands_timed (entry_after history moment word ev ∷ history) (questions_after (sessions_in history) moment word ev o asked questions) after after after
            (subst (λ x. asking.Stands (asker_of (questions_after (sessions_in history) moment word ev x asked questions) after) (entry_after history moment word ev ∷ history)) (sym kept-early)
            (asking-next history legal moment word ev questions before after refusal questions_stand heard))

        -- what is told of the event, and what it tells the queries that are owed something
        abbrev told : Told
        told = told_for state ev refusal

        heard-same : told.heard ≡ heard_in (entry_after history moment word ev)
        heard-same = ap (λ (marks : List Mark). heard_of marks ev) refusal-same ∙ sym (heard-next history moment word ev)

        ticks-same : told.ticks ≡ moves.is_tick (entry_after history moment word ev).event
        ticks-same = ticks_are ev ∙ ap moves.is_tick (sym event-is)

        queries-after : (state_after state moment word ev refusal after multicasts).queries ≡ queries_in (entry_after history moment word ev ∷ history)
        queries-after =
            (λ i. queries_told contents.kept (claims-are i).kept multicasts (news_told told (sym moment-is i) (sym word-is i) (multicasts_of (entry_for-is i).sent)) owing)
            ∙ queries-next history (entry_after history moment word ev) contents contents_then multicasts owing told claims_stand
            (claims-next history legal moment word ev no_boot since contents announces claims_stand) lasting owed heard-same ticks-same (subst (λ m. now history ≤ m) (sym moment-is) since)

        announces-after : (claims_then state moment word ev refusal).announces ≡ in_force.announcing
        unfolding contents_told
        announces-after = announces

        pub stands-after : moment ≤ last_moment → (then_multicasts : List Last) → lasts.Stands then_multicasts (entry_after history moment word ev ∷ history)
            → Stands (state_after state moment word ev refusal after then_multicasts) (entry_after history moment word ev ∷ history)
        stands-after in_time then_multicasts then_lasting = record {
          legal = IsLegal-next history moment word ev legal since in_time no_boot;
          last = sym moment-is;
          opened = ap (λ o. unwrap_or (opened o) (opened_count history)) kept-early ∙ sym (opened-is in_force history moment word ev legal no_boot);
          sessions = sessions-are;
          asking = asking-after;
          claims = subst (λ c. claims.Stands c (entry_after history moment word ev ∷ history)) (sym claims-are)
              (claims-next history legal moment word ev no_boot since contents announces claims_stand);
          announces = announces-after;
          multicasts = then_lasting;
          queries = queries-after;
          records = records-after;
          typed = typed_after;
        }

        pub stepped-from : moment ≤ last_moment → (then_multicasts : List Last) → lasts.Stands then_multicasts (entry_for state moment word ev refusal after ∷ history) →
            Fits in_force (entry_for state moment word ev refusal after) history × Stands (state_after state moment word ev refusal after then_multicasts) (entry_for state moment word ev refusal after ∷ history)
        stepped-from in_time then_multicasts then_lasting = (
          subst (λ e. Fits in_force e history) (sym entry_for-is) (next_entry-fits in_force history moment word ev since in_time no_boot),
          subst (λ e. Stands (state_after state moment word ev refusal after then_multicasts) (e ∷ history)) (sym entry_for-is)
              (stands-after in_time then_multicasts (subst (λ e. lasts.Stands then_multicasts (e ∷ history)) entry_for-is then_lasting)),
        )

both-have : (one other : List Rr) → have_data one ≡ true → have_data other ≡ true → have_data (one ++ other) ≡ true
both-have one other a b = list_all-append (λ (rr : Rr). is_spellable_data rr.rdata) one other ∙ (λ i. a i && have_data other) ∙ b

-- What is kept makes the entry that fits each history that it stands for, and what is kept then stands for the history with it.
pub stepped : (state : State) (history : List Entry) → Stands state history → (moment word : ℕ) (ev : Event) → state.last ≤ moment → moment ≤ last_moment → is_boot ev ≡ false →
    (after : List Held) (refusal : List Mark) → IsHeard moment word ev (hearings history) after refusal → have_data (rrs_of state.held) ≡ true → have_data (rrs_of after) ≡ true →
    have_data (own_in state.claims.kept) ≡ true → have_data (own_in (claims_then state moment word ev refusal).kept) ≡ true →
    (multicasts : List Last) → lasts.Stands multicasts (entry_for state moment word ev refusal after ∷ history) →
    Fits in_force (entry_for state moment word ev refusal after) history × Stands (state_after state moment word ev refusal after multicasts) (entry_for state moment word ev refusal after ∷ history)
stepped state history stands moment word ev later in_time no_boot after refusal heard data_before data_after own_before own_after multicasts lasting =
    subst (λ (s : State). Fits in_force (entry_for s moment word ev refusal after) history × Stands (state_after s moment word ev refusal after multicasts) (entry_for s moment word ev refusal after ∷ history)) (sym same)
    (stepped-from history moment word ev stands.legal no_boot since state.claims stands.announces stands.claims state.questions state.held after refusal stands.asking stands.records heard state.multicasts stands.multicasts state.queries stands.queries
    (both-have (rrs_of state.held) (own_in state.claims.kept) data_before own_before)
    (both-have (rrs_of after) _ data_after (subst (λ (c : Contents). have_data (own_in c.kept) ≡ true) claims_same own_after))
    data_after in_time multicasts (subst (λ (s : State). lasts.Stands multicasts (entry_for s moment word ev refusal after ∷ history)) same lasting))
  where
    since : now history ≤ moment
    since = subst (λ k. k ≤ moment) stands.last later

    same : state ≡ kept_state (now history) (opened_count history) (sessions_in history) state.held state.questions state.claims state.multicasts state.queries
    same = ap (λ l. kept_state l state.opened state.sessions state.held state.questions state.claims state.multicasts state.queries) stands.last
        ∙ ap (λ o. kept_state (now history) o state.sessions state.held state.questions state.claims state.multicasts state.queries) stands.opened
        ∙ ap (λ ss. kept_state (now history) (opened_count history) ss state.held state.questions state.claims state.multicasts state.queries) stands.sessions

    claims_same : claims_then state moment word ev refusal ≡ contents_next history stands.legal moment word ev no_boot since state.claims stands.announces stands.claims
    claims_same =
        ap (λ (s : State). claims_then s moment word ev refusal) same
        ∙ claims-are history moment word ev stands.legal no_boot since state.claims stands.announces stands.claims state.questions state.held after refusal stands.asking stands.records heard state.multicasts stands.multicasts state.queries stands.queries
