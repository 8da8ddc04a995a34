-- What a step carries out is the entry that fits, and what is then kept stands for the history with it.
use Rattle.std.proofs.Common.{◌≡◌, ℕ, ◌≤◌, ◌++◌, true, false, List, ◌∷◌, map, ap, subst, ◌∙◌, sym}
use Rattle.std.specs.Option.{unwrap_or}
use Rattle.mdns_history.specs.declared.held.Held.{Held}
use Rattle.mdns_history.specs.declared.entry.Entry.{Entry}
use Rattle.mdns_history.specs.declared.entry.Sent.{Sent}
use Rattle.mdns_history.specs.History.{now}
use Rattle.mdns_history.specs.Hearings.{Hearing, hearings, counted_records, brought}
use Rattle.mdns_core.specs.InForce.{in_force}
use Rattle.mdns_history.specs.Fitting.{Fits, is_boot, last_moment}
use Rattle.mdns_cache.specs.Lifetimes.{Holds}
use Rattle.mdns_question.specs.Standing.{mark_of}
use Rattle.sd_answer.specs.Laws.{have_data}
use Rattle.sd_sessions.specs.declared.change.SessionChange.{SessionChange}
use Rattle.mdns_happened.specs.Told.{Told, told_of}
use Rattle.mdns_core.specs.State.{State, Stands}
use Rattle.sd_sessions.specs.Answered.{answered}
use Rattle.mdns_asking.specs.Asked.{sent_told, questions_told}
use Rattle.mdns_asking.specs.Timed.{all_timed}
use Rattle.sd_sessions.specs.Settling.{change_told, cuts_of, gifts_of, shifted_told, outcome_told, sessions_told}
use Rattle.mdns_claims.specs.State.{Contents}
use Rattle.mdns_claims.specs.Owned.{own_in}
use Rattle.mdns_claims.specs.Behind.{occasion_of, probes_told}
use Rattle.mdns_reply.specs.Lasts.{multicasts_of}
use Rattle.mdns_reply.specs.Lasts as lasts
use Rattle.mdns_debts.specs.Queries.{Query}
use Rattle.mdns_debts.specs.Following.{all_among}
use Rattle.mdns_owing.specs.Owing.{ours_in, news_told, query_told, queries_told}
use Rattle.mdns_responding.specs.Told.{responses_told, announced_told}
use Rattle.mdns_core.specs.Viewed.{viewed, kept_outcome}
use Rattle.mdns_core.specs.Next.{claims_then, entry_for, state_after, IsHeard}
use Rattle.mdns_core.specs.Enough.{chosen_for, claims_told}
use Rattle.mdns_core.proofs.step.Owed.{all_ours}
use Rattle.mdns_core.proofs.step.Stepped.{stepped}
use Rattle.mdns_core.proofs.step.Standing.{heard-stands}
use Rattle.mdns_core.proofs.records.HeldData.{data-kept}

-- what an event makes of a state, told of it; `after` are the records that are then held
module _ (state : State) (moment word : ℕ) (after : List Held) (told : Told) where
  abbrev pub claims_by : Contents
  claims_by = claims_told state.claims told moment word

  abbrev pub changes_by : List SessionChange
  changes_by = map (change_told told (answered (viewed state.claims state.held)) (answered (viewed claims_by after))) state.sessions

-- What a step made of a state: the entry, and what is then kept, told of what happened.
pub record IsCarriedOut (state : State) (entry : Entry) (after : List Held) (then : State) : Type 0 where
  pub told : Told
  pub changes : List SessionChange
  pub reads : told ≡ told_of entry.event (kept_outcome state.claims state.opened state.sessions entry.event) told.refusal
  pub heard : (past : List Hearing) (before : ℕ) → before ≤ entry.moment → Holds state.held past before → IsHeard entry.moment entry.word entry.event past after told.refusal
  pub parts : have_data (counted_records (brought entry.event)) ≡ true
  pub owned : have_data (own_in state.claims.kept) ≡ true
  pub owned_then : have_data (own_in then.claims.kept) ≡ true
  pub changed : changes ≡ changes_by state entry.moment entry.word after told
  pub marked : entry.marks ≡ told.refusal ++ (occasion_of state.claims told entry.moment entry.word).marks ++ map mark_of (chosen_for told state.questions after entry.moment)
      ++ announced_told told entry.moment state.claims.kept ++ cuts_of changes
  pub sends : entry.sent ≡ probes_told told.ticks state.claims.kept entry.moment ++ sent_told told.ticks after entry.moment (chosen_for told state.questions after entry.moment)
      ++ responses_told told entry.moment state.multicasts state.queries state.claims.kept (claims_by state entry.moment entry.word after told).kept
  pub gifts : entry.given ≡ gifts_of changes
  pub late : entry.outcome ≡ outcome_told told.taking told.outcome (shifted_told told state.sessions changes)
  pub at : then.last ≡ entry.moment
  pub counted : then.opened ≡ unwrap_or told.opened state.opened
  pub remains : then.sessions ≡ sessions_told told.taking (shifted_told told state.sessions changes)
  pub held : then.held ≡ after
  pub follows : then.questions ≡ all_timed after (questions_told told.call told.detached state.sessions entry.moment entry.word (chosen_for told state.questions after entry.moment) state.questions)
  pub claimed : then.claims ≡ claims_by state entry.moment entry.word after told
  pub lasting : (history : List Entry) → now history ≤ entry.moment → lasts.Stands state.multicasts history → lasts.Stands then.multicasts (entry ∷ history)
  pub owing : all_among (ours_in state.claims.kept) (state.queries ++ query_told state.claims.kept state.multicasts told entry.moment entry.word) ≡ true
      → then.queries ≡ queries_told state.claims.kept (claims_by state entry.moment entry.word after told).kept state.multicasts (news_told told entry.moment entry.word (multicasts_of entry.sent)) state.queries

-- the entry and what is kept, by what is told and the changes of sessions
module _ (state : State) (entry : Entry) (after : List Held) (then : State) where
  abbrev entry_by : Told → List SessionChange → Entry
  entry_by told changes =
      record {
        moment = entry.moment;
        word = entry.word;
        event = entry.event;
        marks = told.refusal ++ (occasion_of state.claims told entry.moment entry.word).marks ++ map mark_of (chosen_for told state.questions after entry.moment)
            ++ announced_told told entry.moment state.claims.kept ++ cuts_of changes;
        sent = probes_told told.ticks state.claims.kept entry.moment ++ sent_told told.ticks after entry.moment (chosen_for told state.questions after entry.moment)
            ++ responses_told told entry.moment state.multicasts state.queries state.claims.kept (claims_by state entry.moment entry.word after told).kept;
        given = gifts_of changes;
        outcome = outcome_told told.taking told.outcome (shifted_told told state.sessions changes);
      }

  abbrev state_by : Told → List SessionChange → State
  state_by told changes =
      record {
        last = entry.moment;
        opened = unwrap_or told.opened state.opened;
        sessions = sessions_told told.taking (shifted_told told state.sessions changes);
        held = after;
        questions = all_timed after (questions_told told.call told.detached state.sessions entry.moment entry.word (chosen_for told state.questions after entry.moment) state.questions);
        claims = claims_by state entry.moment entry.word after told;
        multicasts = then.multicasts;
        queries = queries_told state.claims.kept (claims_by state entry.moment entry.word after told).kept state.multicasts
            (news_told told entry.moment entry.word (multicasts_of (entry_by told changes).sent)) state.queries;
      }

-- What a step made of a state is the entry that fits each history for which the state stands, and what is then kept stands for the history with it.
pub carried : (state : State) (entry : Entry) (after : List Held) (then : State) → IsCarriedOut state entry after then
    → state.last ≤ entry.moment → entry.moment ≤ last_moment → is_boot entry.event ≡ false → (history : List Entry) → Stands state history → Fits in_force entry history × Stands then (entry ∷ history)
carried state entry after then out later in_time no_boot history stands =
    subst (λ (e : Entry). Fits in_force e history × Stands then (e ∷ history)) (sym entry_is)
    (subst (λ (s : State). Fits in_force (entry_for state entry.moment entry.word entry.event out.told.refusal after) history × Stands s (entry_for state entry.moment entry.word entry.event out.told.refusal after ∷ history)) (sym state_is)
    (stepped state history stands entry.moment entry.word entry.event later in_time no_boot after out.told.refusal heard stands.typed
    (data-kept state history stands entry.moment entry.word entry.event later after out.told.refusal heard stands.typed out.parts)
    out.owned (subst (λ (c : Contents). have_data (own_in c.kept) ≡ true) claims_are out.owned_then)
    then.multicasts (subst (λ (e : Entry). lasts.Stands then.multicasts (e ∷ history)) entry_is (out.lasting history (subst (λ (n : ℕ). n ≤ entry.moment) stands.last later) stands.multicasts))))
  where
    heard : IsHeard entry.moment entry.word entry.event (hearings history) after out.told.refusal
    heard = heard-stands state history stands entry.moment entry.word entry.event after out.told.refusal later out.heard

    claims_are : then.claims ≡ claims_then state entry.moment entry.word entry.event out.told.refusal
    claims_are = out.claimed ∙ ap (λ (told : Told). claims_told state.claims told entry.moment entry.word) out.reads

    entry_is : entry ≡ entry_for state entry.moment entry.word entry.event out.told.refusal after
    entry_is =
        (λ i. record { moment = entry.moment; word = entry.word; event = entry.event; marks = out.marked i; sent = out.sends i; given = out.gifts i; outcome = out.late i })
        ∙ ap (entry_by state entry after then out.told) out.changed
        ∙ ap (λ (told : Told). entry_by state entry after then told (changes_by state entry.moment entry.word after told)) out.reads

    -- the queries that are then owed something, told of what is sent
    owing_by : List Sent → List Query
    owing_by sent = queries_told state.claims.kept (claims_by state entry.moment entry.word after out.told).kept state.multicasts (news_told out.told entry.moment entry.word (multicasts_of sent)) state.queries

    owing_is : then.queries ≡ owing_by (entry_by state entry after then out.told out.changes).sent
    owing_is =
        out.owing (all_ours history state.claims state.multicasts state.queries out.told entry.moment entry.word stands.claims stands.queries)
        ∙ ap owing_by out.sends

    state_is : then ≡ state_after state entry.moment entry.word entry.event out.told.refusal after then.multicasts
    state_is =
        (λ i. record { last = out.at i; opened = out.counted i; sessions = out.remains i; held = out.held i; questions = out.follows i; claims = out.claimed i; multicasts = then.multicasts; queries = owing_is i })
        ∙ ap (state_by state entry after then out.told) out.changed
        ∙ ap (λ (told : Told). state_by state entry after then told (changes_by state entry.moment entry.word after told)) out.reads
