-- The entry that follows asks the questions that are chosen by what is kept, and what is kept of questions after it stands for the history with it.
use Rattle.std.proofs.Common.{◌≡◌, ℕ, Bool, true, false, cond, not, ◌&&◌, ◌||◌, List, [], ◌∷◌, ◌++◌, map, Option, Some, None, refl, ap, ◌∙◌, sym}
use Rattle.std.specs.Prelude.{filter}
use Rattle.std.specs.List.{list_any, filter_map, cons_option}
use Rattle.std.specs.Option.{option_map, option_map_or}
use Rattle.std.proofs.lemmas.List.Folds.{list_any-append}
use Rattle.dns_record.specs.declared.record.Key.{Key}
use Rattle.dns_message.specs.Reading.{spelled, fault_of}
use Rattle.mdns_history.specs.declared.event.Event.{Event}
use Rattle.mdns_history.specs.declared.event.Event.TheVariants as event
use Rattle.mdns_history.specs.declared.held.Held.{Held}
use Rattle.mdns_history.specs.declared.mark.Cause.{Cause}
use Rattle.mdns_history.specs.declared.mark.Cause.TheVariants as cause
use Rattle.mdns_history.specs.declared.mark.Mark.{Mark}
use Rattle.mdns_history.specs.declared.mark.Mark.TheVariants as mark
use Rattle.mdns_history.specs.declared.entry.Entry.{Entry}
use Rattle.mdns_history.specs.Hearings.{Heard, hearings, brought}
use Rattle.mdns_history.specs.History.{has_mark}
use Rattle.mdns_history.specs.Lifetimes.{is_too_full}
use Rattle.mdns_history.specs.Sessions.{is_cut}
use Rattle.mdns_history.specs.Asking.{is_asking, is_series_asking}
use Rattle.mdns_history.specs.Outcomes.{early_outcome}
use Rattle.mdns_history.specs.Fitting.{refusal_marks, IsLegal}
use Rattle.mdns_question.specs.declared.tracked.Tracked.{Tracked}
use Rattle.mdns_question.specs.Tracking.{due_cause}
use Rattle.mdns_question.specs.Standing.{Stands, mark_of}
use Rattle.mdns_core.specs.InForce.{in_force}
use Rattle.mdns_asking.specs.State.{asker_of}
use Rattle.sd_sessions.specs.Sessions.{sessions_in}
use Rattle.mdns_asking.specs.Asked.{is_asked_by, heard_for, asked_told, asked_for, questions_after}
use Rattle.mdns_happened.specs.Told.{unless}
use Rattle.mdns_core.specs.Next.{IsHeard}
use Rattle.mdns_claims.proofs.Marks.{is_claimed}
use Rattle.mdns_core.proofs.step.Stage.{bare, claim_marks, asking_marks, announcing_marks, noted_marks, entry_after, entry_is, marks_are}
use Rattle.mdns_core.proofs.step.ClaimMarks.{claims_pass_none, announced_pass_none}
use Rattle.sd_sessions.proofs.Shape.{attached, passes_now, marks-next}
use Rattle.mdns_core.proofs.asking.AskedFor.{marks-asked}
use Rattle.mdns_asking.proofs.ActiveKeys.{move-next}
use Rattle.mdns_asking.proofs.Askings.{may_ask, Asks, chosen, IsChosen, askings-next}

-- a test that no mark of a refusal passes
refusal_passes_none : (test : Mark → Bool) → test mark.Full ≡ false → ((number : ℕ) → test (mark.Bad number) ≡ false) →
    (entry : Entry) (past : List Entry) (ev : Event) → list_any test (refusal_marks entry past ev) ≡ false
refusal_passes_none test full bad entry past (event.Boot config) = refl
refusal_passes_none test full bad entry past event.Attach = refl
refusal_passes_none test full bad entry past (event.Detach session) = refl
refusal_passes_none test full bad entry past (event.Call session op request) = refl
refusal_passes_none test full bad entry past (event.Hear from bytes) = of (is_too_full entry past) (fault_of (spelled bytes))
  where
    of : (b : Bool) (o : Option ℕ) → list_any test (cond b (mark.Full ∷ []) (option_map_or (λ number. mark.Bad number ∷ []) o [])) ≡ false
    of true o = ap (λ b. b || false) full
    of false None = refl
    of false (Some number) = ap (λ b. b || false) (bad number)
refusal_passes_none test full bad entry past event.Tick = refl
refusal_passes_none test full bad entry past (event.Take session max) = refl

cuts_pass_none : (test : Mark → Bool) → ((n : ℕ) → test (mark.Cut n) ≡ false) → (ns : List ℕ) → list_any test (map (λ n. mark.Cut n) ns) ≡ false
cuts_pass_none test cut [] = refl
cuts_pass_none test cut (n ∷ ns) = ap (λ b. b || list_any test (map (λ m. mark.Cut m) ns)) (cut n) ∙ cuts_pass_none test cut ns

any_of_marks : (test : Mark → Bool) (asked : List (Key × Cause)) → list_any test (map mark_of asked) ≡ list_any (λ due. test (mark_of due)) asked
any_of_marks test [] = refl
any_of_marks test (due ∷ asked) = ap (λ b. test (mark_of due) || b) (any_of_marks test asked)

-- marks of claims ask nothing
claims_ask_not : (key : Key) (m : Mark) → is_claimed m ≡ true → is_asking key m ≡ false
claims_ask_not key (mark.Renamed group number) h = refl
claims_ask_not key (mark.Contested group) h = refl
claims_ask_not key (mark.TieLost group) h = refl
claims_ask_not key (mark.Failed group) h = refl
claims_ask_not key (mark.Bad number) h = cc
claims_ask_not key mark.Full h = cc
claims_ask_not key (mark.Asked other why) h = cc
claims_ask_not key (mark.Announced group) h = cc
claims_ask_not key (mark.Cut session) h = cc

claims_ask_no_series : (key : Key) (m : Mark) → is_claimed m ≡ true → is_series_asking key m ≡ false
claims_ask_no_series key (mark.Renamed group number) h = refl
claims_ask_no_series key (mark.Contested group) h = refl
claims_ask_no_series key (mark.TieLost group) h = refl
claims_ask_no_series key (mark.Failed group) h = refl
claims_ask_no_series key (mark.Bad number) h = cc
claims_ask_no_series key mark.Full h = cc
claims_ask_no_series key (mark.Asked other why) h = cc
claims_ask_no_series key (mark.Announced group) h = cc
claims_ask_no_series key (mark.Cut session) h = cc

-- the marks of the entry that follows which a test of questions passes are those of the questions that are asked
module _ (past : List Entry) (moment word : ℕ) (ev : Event) where
  asking_passes : (test : Mark → Bool) → test mark.Full ≡ false → ((number : ℕ) → test (mark.Bad number) ≡ false) → ((n : ℕ) → test (mark.Cut n) ≡ false) → ((m : Mark) → is_claimed m ≡ true → test m ≡ false) →
      ((group : ℕ) → test (mark.Announced group) ≡ false) → has_mark test (entry_after past moment word ev) ≡ list_any test (asking_marks past moment word ev)
  asking_passes test full bad cut claimed announced =
      let cut_now : List ℕ = filter (λ n. not (is_cut n past) && passes_now in_force past moment word ev n) (attached in_force past moment word ev) in
      let refusal : List Mark = refusal_marks (bare past moment word ev) past ev in
      let claims : List Mark = claim_marks past moment word ev in
      let asked : List Mark = asking_marks past moment word ev in
      let announcing : List Mark = announcing_marks past moment word ev in
      ap (list_any test) (marks-next in_force past moment word ev ∙ ap (λ ms. ms ++ map (λ n. mark.Cut n) cut_now) (marks_are past moment word ev))
      ∙ list_any-append test (noted_marks past moment word ev) (map (λ n. mark.Cut n) cut_now)
      ∙ ap (λ b. list_any test (noted_marks past moment word ev) || b) (cuts_pass_none test cut cut_now)
      ∙ or_false (list_any test (noted_marks past moment word ev))
      ∙ list_any-append test refusal (claims ++ (asked ++ announcing))
      ∙ ap (λ b. b || list_any test (claims ++ (asked ++ announcing))) (refusal_passes_none test full bad (bare past moment word ev) past ev)
      ∙ list_any-append test claims (asked ++ announcing)
      ∙ ap (λ b. b || list_any test (asked ++ announcing)) (claims_pass_none test claimed past moment word ev)
      ∙ list_any-append test asked announcing
      ∙ ap (λ b. list_any test asked || b) (announced_pass_none test announced (bare past moment word ev) past ev)
      ∙ or_false (list_any test asked)
    where
      or_false : (b : Bool) → (b || false) ≡ b
      or_false true = refl
      or_false false = refl

  pub asks-next : (asked : List (Key × Cause)) → map mark_of asked ≡ asking_marks past moment word ev → Asks past moment word ev asked (entry_after past moment word ev)
  asks-next asked same = record {
    move = move-next in_force past moment word ev;
    time = ap (λ e. e.moment) (entry_is past moment word ev);
    drawn = ap (λ e. e.word) (entry_is past moment word ev);
    marks = λ key. asking_passes (is_asking key) refl (λ number. refl) (λ n. refl) (claims_ask_not key) (λ group. refl) ∙ ap (list_any (is_asking key)) (sym same) ∙ any_of_marks (is_asking key) asked;
    series = λ key. asking_passes (is_series_asking key) refl (λ number. refl) (λ n. refl) (claims_ask_no_series key) (λ group. refl) ∙ ap (list_any (is_series_asking key)) (sym same) ∙ any_of_marks (is_series_asking key) asked;
  }

-- the questions that an event asks are chosen among those that are kept
module _ (moment : ℕ) (after : List Held) where
  abbrev heard_cause : Heard → Tracked → Option Cause
  heard_cause heard one = cond (is_asked_by after moment heard one) (Some cause.Heard) None

  heard_among : (heard : Heard) (questions : List Tracked) → map (λ one. (one.key, cause.Heard)) (filter (is_asked_by after moment heard) questions) ≡ filter_map (chosen (heard_cause heard)) questions
  heard_among heard [] = refl
  heard_among heard (one ∷ questions) = of (is_asked_by after moment heard one) (heard_among heard questions)
    where
      of : (b : Bool) → map (λ other. (other.key, cause.Heard)) (filter (is_asked_by after moment heard) questions) ≡ filter_map (chosen (heard_cause heard)) questions →
          map (λ other. (other.key, cause.Heard)) (cond b (one ∷ filter (is_asked_by after moment heard) questions) (filter (is_asked_by after moment heard) questions))
          ≡ cons_option (option_map (λ why. (one.key, why)) (cond b (Some cause.Heard) None)) (filter_map (chosen (heard_cause heard)) questions)
      of true rest = ap (λ dues. (one.key, cause.Heard) ∷ dues) rest
      of false rest = rest

  none_chosen : (questions : List Tracked) → ◌≡◌ {A = List (Key × Cause)} [] (filter_map (chosen (λ one. None)) questions)
  none_chosen [] = refl
  none_chosen (one ∷ questions) = none_chosen questions

  chosen_none : (questions : List Tracked) (ev : Event) (asked : List (Key × Cause)) → asked ≡ [] → IsChosen questions ev asked
  chosen_none questions ev asked none = record { choose = λ one. None; among = none ∙ none_chosen questions; quiet = λ h. none }

  chosen_unless : (questions : List Tracked) (ev : Event) → may_ask ev ≡ true → (refusal : List Mark) (o : Option Heard) → IsChosen questions ev (heard_for questions after moment (unless refusal o))
  chosen_unless questions ev may [] None = chosen_none questions ev [] refl
  chosen_unless questions ev may [] (Some heard) = record { choose = heard_cause heard; among = heard_among heard questions; quiet = λ h. cc }
  chosen_unless questions ev may (m ∷ refusal) o = chosen_none questions ev [] refl

  pub is_chosen : (questions : List Tracked) (refusal : List Mark) (ev : Event) → IsChosen questions ev (asked_for questions after moment refusal ev)
  unfolding asked_told
  is_chosen questions refusal event.Tick = record { choose = due_cause after moment; among = refl; quiet = λ h. cc }
  is_chosen questions refusal (event.Hear from bytes) = chosen_unless questions (event.Hear from bytes) refl refusal (brought (event.Hear from bytes))
  is_chosen questions refusal (event.Boot config) = chosen_none questions (event.Boot config) [] refl
  is_chosen questions refusal event.Attach = chosen_none questions event.Attach [] refl
  is_chosen questions refusal (event.Detach session) = chosen_none questions (event.Detach session) [] refl
  is_chosen questions refusal (event.Call session op request) = chosen_none questions (event.Call session op request) [] refl
  is_chosen questions refusal (event.Take session max) = chosen_none questions (event.Take session max) [] refl

-- What is kept of questions after an event stands for the history with the entry that follows.
pub asking-next : (past : List Entry) → IsLegal in_force past → (moment word : ℕ) (ev : Event) (questions : List Tracked) (before after : List Held) (refusal : List Mark) → Stands (asker_of questions before) past →
    IsHeard moment word ev (hearings past) after refusal →
    Stands (asker_of (questions_after (sessions_in past) moment word ev (early_outcome ev past) (asked_for questions after moment refusal ev) questions) after) (entry_after past moment word ev ∷ past)
asking-next past legal moment word ev questions before after refusal asking heard =
    let asked : List (Key × Cause) = asked_for questions after moment refusal ev in
    askings-next in_force past legal questions before after asking moment word ev asked (entry_after past moment word ev)
    (is_chosen moment after questions refusal ev) (asks-next past moment word ev asked (marks-asked past moment word questions before after refusal asking ev heard))
