-- What a plan says of an event, once it is carried out: the entry that fits, and a next due moment that is later after a tick.
use Rattle.std.proofs.Common.{◌≡◌, ℕ, ◌<◌, ◌≤◌, ◌++◌, Bool, true, false, cond, List, ◌∷◌, map, IfSome, refl, ap, subst, sym, ◌∙◌}
use Rattle.std.specs.Option.{option_to_list}
use Rattle.dns_record.specs.declared.record.Key.{Key}
use Rattle.mdns_history.specs.declared.event.Event.{Event}
use Rattle.mdns_history.specs.declared.event.Event.TheVariants as event
use Rattle.mdns_history.specs.declared.held.Held.{Held}
use Rattle.mdns_history.specs.declared.mark.Cause.{Cause}
use Rattle.mdns_history.specs.declared.entry.Outcome.{Outcome}
use Rattle.mdns_history.specs.declared.entry.Outcome.TheVariants as outcome
use Rattle.dns_record.specs.declared.record.Rr.{Rr}
use Rattle.mdns_history.specs.declared.entry.Entry.{Entry}
use Rattle.mdns_history.specs.declared.entry.Sent.{Sent}
use Rattle.mdns_history.specs.Debts.{multicasts_in}
use Rattle.mdns_history.specs.Fitting.{Fits, is_boot, last_moment}
use Rattle.mdns_happened.specs.declared.walk.Walk.{Walk}
use Rattle.mdns_happened.specs.Told.{Told, told_of}
use Rattle.mdns_happened.specs.Walks.{AreWalks}
use Rattle.mdns_cache.specs.Lifetimes.{AllLive}
use Rattle.mdns_question.specs.declared.tracked.Tracked.{Tracked}
use Rattle.mdns_question.specs.Refreshing.{AreTimed}
use Rattle.mdns_question.specs.Standing.{mark_of}
use Rattle.mdns_asking.specs.Asked.{sent_told, begun_keys, ended_told, all_begun, all_ended, all_asked, questions_told}
use Rattle.mdns_asking.specs.Timed.{all_timed}
use Rattle.mdns_asking.specs.Walked.{AreKnown, AreWalked}
use Rattle.sd_sessions.specs.Sessions.{Session}
use Rattle.sd_sessions.specs.Settling.{cuts_of}
use Rattle.mdns_core.specs.declared.plan.Plan.{Plan}
use Rattle.mdns_claims.specs.State.{Contents}
use Rattle.mdns_claims.specs.Behind.{occasion_of, probes_told, contents_told}
use Rattle.mdns_claims.specs.Planned.{IsPlan as IsClaimsPlan}
use Rattle.mdns_reply.specs.Lasts.{multicasts_of}
use Rattle.mdns_debts.specs.Queries.{Query}
use Rattle.mdns_debts.specs.Following.{all_among}
use Rattle.mdns_owing.specs.Owing.{ours_in, news_told, query_told, followed_by, kept_ours, queries_told}
use Rattle.mdns_owing.specs.Laws.{AreFollowed}
use Rattle.mdns_owing.proofs.Following.{queries_follow}
use Rattle.mdns_responding.specs.Told.{responses_told, announced_told}
use Rattle.mdns_core.specs.Viewed.{kept_outcome}
use Rattle.mdns_core.specs.InForce.{in_force}
use Rattle.mdns_core.specs.State.{State, Stands, due_of}
use Rattle.mdns_core.specs.Enough.{chosen_for, claims_told}
use Rattle.mdns_core.proofs.ticks.Ticked.{due-ticked}
use Rattle.mdns_core.proofs.ticks.Replies.{replies-later}
use Rattle.mdns_core.proofs.step.Moved.{stands-moved}
use Rattle.mdns_core.proofs.step.Carried.{IsCarriedOut, carried}
use Rattle.mdns_core.specs.declared.parts.Done.{Done}
use Rattle.mdns_core.specs.Planned.{told_in, IsPlanFor}
use Rattle.mdns_core.specs.Made.{IsMade, asked_of_plan}

-- what is kept of questions after an event, by the parts of a plan
told_parts : (told : Told) (sessions : List Session) (moment word : ℕ) (asked : List (Key × Cause)) (questions : List Tracked) →
    all_asked moment asked (all_ended (ended_told told.call told.detached sessions) (all_begun moment word (begun_keys told.call) questions))
    ≡ questions_told told.call told.detached sessions moment word asked questions
unfolding questions_told
told_parts told sessions moment word asked questions = refl

-- the entry of a plan that was carried out
abbrev pub entry_of : ℕ → ℕ → Event → Done → Entry
entry_of moment word ev done = record { moment = moment; word = word; event = ev; marks = done.marks; sent = done.sent; given = done.given; outcome = done.outcome }

module _ (state : State) (later : List Held) (moment word : ℕ) (ev : Event) (plan : Plan) (is : IsPlanFor state later moment word ev plan) where
  abbrev told : Told
  told = told_in plan

  -- What is made of the questions, where they and the walks are those of the plan.
  pub applied : (walks : List Walk) (kept_then tracked : List Tracked) → walks ≡ plan.walks.items → kept_then ≡ state.questions → AreTimed state.held state.questions →
      ((one other : List Held) → AreTimed one kept_then → AreWalks one other walks → AreKnown one other walks kept_then → AreWalked walks plan.asking.begun.items →
      AreWalked walks (map (λ asking. asking.0) plan.asking.asked.items) → tracked ≡ all_timed other (asked_of_plan moment word plan kept_then)) →
      tracked ≡ all_timed later (asked_of_plan moment word plan state.questions)
  applied walks kept_then tracked same stay timed gives =
      gives state.held later (subst (AreTimed state.held) (sym stay) timed) (subst (AreWalks state.held later) (sym same) is.walks.records)
      (subst (λ (ws : List Walk). AreKnown state.held later ws kept_then) (sym same) (subst (AreKnown state.held later plan.walks.items) (sym stay) is.walks.asking.known))
      (subst (λ (ws : List Walk). AreWalked ws plan.asking.begun.items) (sym same) (subst (AreWalked plan.walks.items) (sym is.asking.begun) is.walks.asking.begun))
      (subst (λ (ws : List Walk). AreWalked ws (map (λ asking. asking.0) plan.asking.asked.items)) (sym same) is.asking.walked)
      ∙ ap (λ (qs : List Tracked). all_timed later (asked_of_plan moment word plan qs)) stay

  -- What is then kept of claims, where those that stand are those of the plan.
  pub claimed : (kept_then claims : Contents) → kept_then ≡ state.claims →
      ((w : ℕ) → IsClaimsPlan kept_then (occasion_of kept_then told moment w) plan.claims → claims ≡ contents_told kept_then (occasion_of kept_then told moment w)) →
      claims ≡ claims_told state.claims told moment word
  claimed kept_then claims stay gives =
      subst (λ (k : Contents). IsClaimsPlan k (occasion_of k told moment word) plan.claims → claims ≡ contents_told k (occasion_of k told moment word)) stay (gives word) is.claims

  abbrev responses : List Sent
  responses = responses_told told moment state.multicasts state.queries state.claims.kept (claims_told state.claims told moment word).kept

  -- what is multicast is what the plan says
  multicasts_are : multicasts_of plan.sent ≡ plan.multicasts
  unfolding multicasts_in
  multicasts_are = is.multicasts (record { moment = moment; word = word; event = ev; marks = plan.marks; sent = plan.sent; given = plan.given; outcome = outcome.Done }) refl

  -- the queries once the event was noted, with those that come and what is multicast
  abbrev noted : List Rr → List Query → List Query
  noted multicasts come = followed_by (news_told told moment word multicasts) come state.queries

  abbrev later_claims : Contents
  later_claims = claims_told state.claims told moment word

  -- What is then kept of queries, where all that they are owed was the daemon's to send.
  owing_are : (claims : Contents) (queries : List Query) → claims ≡ later_claims
      → queries ≡ cond plan.keeps_own (noted plan.multicasts (option_to_list plan.come)) (kept_ours claims.kept (noted plan.multicasts (option_to_list plan.come)))
      → all_among (ours_in state.claims.kept) (state.queries ++ query_told state.claims.kept state.multicasts told moment word) ≡ true
      → queries ≡ queries_told state.claims.kept later_claims.kept state.multicasts (news_told told moment word (multicasts_of plan.sent)) state.queries
  owing_are claims queries same made ours =
      made
      ∙ (λ i. cond plan.keeps_own (noted plan.multicasts (is.come i)) (kept_ours (same i).kept (noted plan.multicasts (is.come i))))
      ∙ of plan.keeps_own refl
      ∙ ap (λ (rrs : List Rr). queries_told state.claims.kept later_claims.kept state.multicasts (news_told told moment word rrs) state.queries) (sym multicasts_are)
    where
      come : List Query
      come = query_told state.claims.kept state.multicasts told moment word

      law : AreFollowed state.claims.kept later_claims.kept state.multicasts told moment word plan.multicasts state.queries
      law = queries_follow state.claims.kept later_claims.kept state.multicasts told moment word plan.multicasts state.queries

      of : (b : Bool) → plan.keeps_own ≡ b → cond b (noted plan.multicasts come) (kept_ours later_claims.kept (noted plan.multicasts come))
          ≡ queries_told state.claims.kept later_claims.kept state.multicasts (news_told told moment word plan.multicasts) state.queries
      of true e = law.whole (is.keeps e) ours
      of false e = law.dropped

  -- a state at the moment of the event
  abbrev pub at_moment : State → State
  at_moment then = record then { last = moment }

  followed : (tracked : List Tracked) →
      tracked ≡ all_timed later (asked_of_plan moment word plan state.questions) →
      tracked ≡ all_timed later (questions_told told.call told.detached state.sessions moment word (chosen_for told state.questions later moment) state.questions)
  followed tracked made =
      made
      ∙ (λ i. all_timed later (all_asked moment (is.asking.asked i) (all_ended (is.asking.ended i) (all_begun moment word (is.asking.begun i) state.questions))))
      ∙ ap (all_timed later) (told_parts told state.sessions moment word (chosen_for told state.questions later moment) state.questions)

  sent_are : plan.sent ≡ probes_told told.ticks state.claims.kept moment ++ sent_told told.ticks later moment (chosen_for told state.questions later moment) ++ responses
  sent_are = is.sent ∙ ap (λ (queried : List Sent). queried ++ responses) is.asking.sent ∙ ap (λ (asked : List (Key × Cause)). probes_told told.ticks state.claims.kept moment ++ sent_told told.ticks later moment asked ++ responses) is.asking.asked

  carried_out : (done : Done) (then : State) → IsMade state later moment word plan done then → IsCarriedOut state (entry_of moment word ev done) later (record then { last = moment; held = later })
  carried_out done then made = record {
    told = told;
    changes = plan.sessions.changes.items;
    reads = is.told;
    heard = is.heard;
    parts = is.«data»;
    owned = is.owned;
    owned_then = made.owned;
    changed = is.sessions.changes;
    marked = made.marks ∙ is.marks ∙ (λ i. told.refusal ++ is.claims.marks i ++ map mark_of (is.asking.asked i) ++ announced_told told moment state.claims.kept ++ cuts_of plan.sessions.changes.items);
    sends = made.sent ∙ sent_are;
    gifts = made.given ∙ is.given;
    late = made.went;
    at = refl;
    counted = made.counted;
    remains = made.remain;
    held = refl;
    follows = followed then.questions made.follow;
    claimed = made.claimed;
    owing = λ ours.
        owing_are then.claims then.queries made.claimed made.owing ours
        ∙ ap (λ (sends : List Sent). queries_told state.claims.kept later_claims.kept state.multicasts (news_told told moment word (multicasts_of sends)) state.queries) (sym made.sent);
    lasting = λ history since stands. made.lasting (entry_of moment word ev done) history refl since (is.multicasts (entry_of moment word ev done) made.sent) stands;
  }

  -- The entry of a plan that was carried out fits, and what is then kept stands for the history with it, in whatever order the records are then held.
  pub carried-plan : (done : Done) (then : State) → IsMade state later moment word plan done then → state.last ≤ moment → moment ≤ last_moment → is_boot ev ≡ false → (history : List Entry) → Stands state history →
      Fits in_force (entry_of moment word ev done) history × Stands (at_moment then) (entry_of moment word ev done ∷ history)
  carried-plan done then made since in_time no_boot history stands =
      let entry : Entry = entry_of moment word ev done in
      let both = carried state entry later (record then { last = moment; held = later }) (carried_out done then made) since in_time no_boot history stands in
      (both.0, stands-moved then.held later made.moved (record then { last = moment; held = later }) refl (entry ∷ history) both.1)

  -- After a tick the next due moment is later.
  pub ticked-plan : (done : Done) (then : State) → IsMade state later moment word plan done then → state.last ≤ moment → moment ≤ last_moment → is_boot ev ≡ false → (history : List Entry) → Stands state history
      → AllLive moment later → ev ≡ event.Tick → IfSome (due_of (at_moment then)) (λ due. moment < due)
  ticked-plan done then made since in_time no_boot history stands live tick =
      let outcome : Outcome = kept_outcome state.claims state.opened state.sessions ev in
      let reads : told ≡ told_of event.Tick outcome told.refusal = is.told ∙ ap (λ (e : Event). told_of e outcome told.refusal) tick in
      let entry : Entry = entry_of moment word ev done in
      let both = carried-plan done then made since in_time no_boot history stands in
      due-ticked (at_moment then) later state.sessions word outcome told.refusal state.questions state.claims made.moved live is.gaps
      (followed then.questions made.follow
      ∙ ap (λ (t : Told). all_timed later (questions_told t.call t.detached state.sessions moment word (chosen_for t state.questions later moment) state.questions)) reads)
      (made.claimed ∙ ap (λ (t : Told). claims_told state.claims t moment word) reads)
      (replies-later entry history both.0 tick then.multicasts both.1.multicasts then.queries both.1.queries)
