-- The entry of an event and what is kept after it, told of what is kept before it.
use Rattle.std.specs.Prelude.{◌≡◌, ℕ, Bool, true, false, List, [], ◌∷◌, ◌++◌, map, nat_lt, length, if◌then◌else◌}
use Rattle.std.specs.Option.{unwrap_or}
use Rattle.std.specs.List.Sorted.{IsPermutation}
use Rattle.dns_record.specs.declared.record.Rr.{Rr}
use Rattle.dns_record.specs.declared.record.Key.{Key}
use Rattle.mdns_history.specs.declared.event.Event.{Event}
use Rattle.mdns_history.specs.declared.event.Event.TheVariants as event
use Rattle.mdns_history.specs.declared.held.Held.{Held}
use Rattle.mdns_history.specs.declared.mark.Mark.{Mark}
use Rattle.mdns_history.specs.declared.mark.Mark.TheVariants as mark
use Rattle.mdns_history.specs.declared.mark.Cause.{Cause}
use Rattle.mdns_history.specs.declared.entry.Outcome.{Outcome}
use Rattle.mdns_history.specs.declared.entry.Entry.{Entry}
use Rattle.mdns_history.specs.Hearings.{Hearing, counted_records, brought}
use Rattle.mdns_history.specs.Lifetimes.{is_too_full, live_of, room_for_records}
use Rattle.mdns_history.specs.Sessions.{opened}
use Rattle.mdns_history.specs.Fitting.{bad_mark}
use Rattle.mdns_cache.specs.Lifetimes.{hearings_at}
use Rattle.mdns_question.specs.Standing.{mark_of}
use Rattle.sd_sessions.specs.declared.change.SessionChange.{SessionChange}
use Rattle.mdns_core.specs.Viewed.{viewed, kept_outcome}
use Rattle.mdns_core.specs.State.{State}
use Rattle.mdns_happened.specs.Told.{Told, told_of, is_tick}
use Rattle.mdns_claims.specs.State.{Contents}
use Rattle.mdns_claims.specs.Behind.{Occasion, occasion_of, probes_told, contents_told}
use Rattle.mdns_reply.specs.Lasts.{Last, multicasts_of}
use Rattle.mdns_debts.specs.Following.{News}
use Rattle.mdns_owing.specs.Owing.{news_told, queries_told}
use Rattle.mdns_responding.specs.Told.{responses_told, announced_told}
use Rattle.mdns_history.specs.declared.entry.Sent.{Sent}
use Rattle.sd_sessions.specs.Sessions.{Session}
use Rattle.sd_sessions.specs.Answered.{answered}
use Rattle.mdns_asking.specs.Asked.{asked_for, sent_for, questions_after}
use Rattle.mdns_asking.specs.Timed.{all_timed}
use Rattle.sd_sessions.specs.Settling.{change_for, cuts_of, gifts_of, all_settled, remaining, with_opened, outcome_then, sessions_after}

-- how an event goes behind what is kept, but a take, which is known last
abbrev pub early_for : State → Event → Outcome
early_for state event = kept_outcome state.claims state.opened state.sessions event

-- what is told of an event, where these marks refuse its packet
abbrev pub told_for : State → Event → List Mark → Told
told_for state event refusal = told_of event (early_for state event) refusal

-- the event as groups see it, where these marks refuse its packet
abbrev pub occasion_for : State → ℕ → ℕ → Event → List Mark → Occasion
occasion_for state moment word event refusal = occasion_of state.claims (told_for state event refusal) moment word

-- what is kept of claims after an event, where these marks refuse its packet
abbrev pub claims_then : State → ℕ → ℕ → Event → List Mark → Contents
claims_then state moment word event refusal = contents_told state.claims (occasion_for state moment word event refusal)

-- the responses that an event sends, where that is then kept of claims
abbrev pub responses_for : State → ℕ → Event → List Mark → Contents → List Sent
responses_for state moment event refusal claims = responses_told (told_for state event refusal) moment state.multicasts state.queries state.claims.kept claims.kept

-- the changes that an event brings to the sessions, where these records are live after it and that is then kept of claims
abbrev pub changes_for : State → Event → Contents → List Held → List SessionChange
changes_for state event claims later =
    map (change_for event (early_for state event) (answered (viewed state.claims state.held)) (answered (viewed claims later))) state.sessions

-- the sessions after an event, but for what a take hands over
abbrev pub sessions_then : State → Event → List SessionChange → List Session
sessions_then state event changes =
    let early = early_for state event in
    with_opened (opened early) (remaining event early (all_settled state.sessions changes))

-- the questions that an event asks, where these marks refuse its packet and these records are live after it
abbrev pub asked_then : State → ℕ → Event → List Mark → List Held → List (Key × Cause)
asked_then state moment event refusal later = asked_for state.questions later moment refusal event

-- the entry of an event with the mark of a packet that was refused, where these records are live after it
abbrev pub entry_for : State → ℕ → ℕ → Event → List Mark → List Held → Entry
entry_for state moment word event refusal later =
    let claims = claims_then state moment word event refusal in
    let changes = changes_for state event claims later in
    let asked = asked_then state moment event refusal later in
    record {
      moment = moment;
      word = word;
      event = event;
      marks = refusal ++ (occasion_for state moment word event refusal).marks ++ map mark_of asked ++ announced_told (told_for state event refusal) moment state.claims.kept ++ cuts_of changes;
      sent = probes_told (is_tick event) state.claims.kept moment ++ sent_for later moment event asked ++ responses_for state moment event refusal claims;
      given = gifts_of changes;
      outcome = outcome_then event (early_for state event) (sessions_then state event changes);
    }

-- what an event tells of itself, where these marks refuse its packet and these records are live after it
abbrev pub news_for : State → ℕ → ℕ → Event → List Mark → List Held → News
news_for state moment word event refusal later =
    news_told (told_for state event refusal) moment word (multicasts_of (entry_for state moment word event refusal later).sent)

-- what is kept after an event, where these marks refuse its packet, these records are live after it, and these last multicasts are then kept
abbrev pub state_after : State → ℕ → ℕ → Event → List Mark → List Held → List Last → State
state_after state moment word event refusal later multicasts =
    let claims = claims_then state moment word event refusal in
    record {
      last = moment;
      opened = unwrap_or (opened (early_for state event)) state.opened;
      sessions = sessions_after event (sessions_then state event (changes_for state event claims later));
      held = later;
      questions = all_timed later (questions_after state.sessions moment word event (early_for state event) (asked_then state moment event refusal later) state.questions);
      claims = claims;
      multicasts = multicasts;
      queries = queries_told state.claims.kept claims.kept state.multicasts (news_for state moment word event refusal later) state.queries;
    }

-- the mark of a packet that is refused: there would be too many records, or it spells no message
abbrev pub refusal_of : Bool → Event → List Mark
refusal_of true (event.Hear from bytes) = mark.Full ∷ []
refusal_of false (event.Hear from bytes) = bad_mark bytes
refusal_of full _ = []

-- whether too many records would be live with those of an event
abbrev pub is_full : ℕ → ℕ → Event → List Hearing → Bool
is_full moment word event past = nat_lt room_for_records (length (live_of (hearings_at moment word (counted_records (brought event)) ++ past) moment))

-- the records that an event adds to those heard before: none where there would be too many
abbrev pub heard_with : ℕ → ℕ → Event → List Hearing → List Hearing
heard_with moment word event past =
    if is_full moment word event past then past else hearings_at moment word (counted_records (brought event)) ++ past

-- whether too many records would be live with these
abbrev pub are_too_many : ℕ → ℕ → List Rr → List Hearing → Bool
are_too_many moment word rrs past = nat_lt room_for_records (length (live_of (hearings_at moment word rrs ++ past) moment))

-- What an event makes of held records and the mark that refuses a packet are what the records heard before it say.
pub record IsHeard (moment word : ℕ) (event : Event) (past : List Hearing) (later : List Held) (refusal : List Mark) : Type 0 where
  pub records : IsPermutation later (live_of (heard_with moment word event past) moment)
  pub refused : refusal ≡ refusal_of (is_full moment word event past) event

-- the records that an entry takes in: those of its packet that count, and none where that would leave too many live
abbrev pub admitted_records : Entry → List Entry → Event → List Rr
admitted_records entry past ev = if is_too_full entry past then [] else counted_records (brought ev)
