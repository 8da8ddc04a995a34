-- The visits for an event are few: eight for all that the entry touches, and for one more.
use Rattle.std.proofs.Common.{◌≡◌, ℕ, ◌+◌, ◌*◌, ◌≤◌, Bool, true, false, true≢false, cond, not, ◌||◌, ◌&&◌, List, [], ◌∷◌, ◌++◌, map, length, refl, ap, sym, subst, ◌∙◌, Option, Some, None, inl, inr, ⊎_elim, arith}
use Rattle.std.specs.Prelude.{filter, nat_le}
use Rattle.std.specs.List.{list_any, filter_map, cons_option, AllByRecursion}
use Rattle.std.specs.List.Sorted.{IsPermutation}
use Rattle.std.specs.Option.{is_some, option_map}
use Rattle.std.proofs.lemmas.Bool.{or_left, or_right}
use Rattle.std.proofs.lemmas.List.{length-append, map-append}
use Rattle.std.proofs.lemmas.List.Folds.{list_any-append}
use Rattle.std.proofs.lemmas.List.Sorted.{length_permutation, list_any-IsPermutation}
use Rattle.lists.proofs.Permutations.{IsPermutation-filter}
use Rattle.dns_name.specs.Names.{folded_eq}
use Rattle.lists.specs.Lists.{each_once}
use Rattle.dns_name.proofs.Folding.{folded_eq-equivalence}
use Rattle.dns_record.specs.declared.record.Key.{Key}
use Rattle.dns_record.specs.declared.record.Rr.{Rr}
use Rattle.dns_record.specs.Records.{same}
use Rattle.mdns_history.specs.declared.event.Event.{Event}
use Rattle.mdns_history.specs.declared.event.Event.TheVariants as event
use Rattle.mdns_history.specs.declared.held.Held.{Held}
use Rattle.mdns_history.specs.declared.mark.Mark.{Mark}
use Rattle.mdns_history.specs.declared.mark.Cause.{Cause}
use Rattle.mdns_history.specs.declared.entry.Entry.{Entry}
use Rattle.mdns_history.specs.History.{now}
use Rattle.mdns_history.specs.Hearings.{Heard, hearings, heard_in, counted_records}
use Rattle.mdns_history.specs.Lifetimes.{is_live_at, live_records}
use Rattle.mdns_history.specs.Questions.{keys_of}
use Rattle.mdns_history.specs.Sessions.{Accepted, accepted_in}
use Rattle.mdns_history.specs.Sureness.{own_records, is_own}
use Rattle.mdns_history.specs.Fitting.{is_boot, refusal_marks, asked_marks, bare_entry, next_entry, with_outcome, FitsAt}
use Rattle.mdns_history.specs.Outcomes.{early_outcome}
use Rattle.mdns_history.specs.Items.{cut_marks}
use Rattle.mdns_history.proofs.LifetimeSteps.{live_of-later}
use Rattle.mdns_asserts.proofs.Registered.{accepted-next}
use Rattle.mdns_cache.specs.Ended.{is_among, is_of_ended}
use Rattle.mdns_happened.specs.Told.{Told, told_of, is_tick}
use Rattle.mdns_records.specs.After.{is_named, is_of_event}
use Rattle.mdns_records.specs.Visits.{ended_in}
use Rattle.mdns_question.specs.declared.tracked.Tracked.{Tracked}
use Rattle.mdns_question.specs.Refreshing.{cause_of, AreTimed}
use Rattle.mdns_question.specs.Standing as asking
use Rattle.mdns_question.specs.Tracking.{due_at, due_cause, due_with}
use Rattle.mdns_question.proofs.Following.{due_follows}
use Rattle.mdns_asking.specs.State.{asker_of}
use Rattle.mdns_cache.specs.Lifetimes.{Holds}
use Rattle.mdns_history.specs.Asking.{tick_askings}
use Rattle.mdns_core.specs.Next.{is_full, refusal_of}
use Rattle.mdns_claims.specs.Laws.{told_in}
use Rattle.mdns_claims.specs.Moved.{is_moved}
use Rattle.mdns_claims.specs.Owned.{own_in}
use Rattle.mdns_claims.proofs.Known.{own_known}
use Rattle.sd_sessions.specs.Put.{is_called, is_name_in}
use Rattle.mdns_asking.specs.Walked.{is_maybe_asked, may_be_heard}
use Rattle.mdns_core.specs.InForce.{in_force}
use Rattle.mdns_core.specs.Enough.{claims_told}
use Rattle.mdns_core.specs.Looked.{is_near, is_looked_at, AreBounded}
use Rattle.mdns_core.specs.State.{State, Stands}
use Rattle.mdns_core.specs.Touched.{is_held_in, message_names, started_names, asked_name, ended_records, moved_records, all_touched, touched_names, is_touched, touched_records, touched}
use Rattle.mdns_core.specs.Viewed.{kept_outcome}
use Rattle.mdns_core.proofs.records.Heard.{heard-next}
use Rattle.mdns_core.proofs.records.Hears.{refusal-is}
use Rattle.mdns_core.proofs.records.MaybeAsked.{due-or-ended, asked-heard}
use Rattle.mdns_core.proofs.records.Touching.{among-left, among-right, either, ended_is, ended-owners, heard-named, owners-but, moved-owners}
use Rattle.mdns_core.proofs.records.Visits.{once-among, visits-few}
use Rattle.mdns_core.proofs.step.Answered.{outcome-kept}
use Rattle.mdns_core.proofs.step.Claiming.{contents_next, claims-next}
use Rattle.mdns_core.proofs.step.Stage.{bare, claim_marks, asking_marks, announcing_marks, noted_marks, marked, giving, entry_after, entry_is}

abbrev Name : Type 0
Name = List (List ℕ)

-- fewer pass a stricter test
fewer : {X : Type 0} (p q : X → Bool) (xs : List X) → AllByRecursion (λ x. p x ≡ true → q x ≡ true) xs → length (filter p xs) ≤ length (filter q xs)
fewer p q [] h = omega arith
fewer {X} p q (x ∷ xs) h = of (p x) (q x) h.0 (fewer p q xs h.1)
  where
    of : (a b : Bool) → (a ≡ true → b ≡ true) → length (filter p xs) ≤ length (filter q xs) → length (cond a (x ∷ filter p xs) (filter p xs)) ≤ length (cond b (x ∷ filter q xs) (filter q xs))
    of true true k rest = omega (arith, rest)
    of true false k rest = absurd (true≢false (sym (k refl)))
    of false true k rest = omega (arith, rest)
    of false false k rest = rest

always : {X : Type 0} (P : X → Type 0) → ((x : X) → P x) → (xs : List X) → AllByRecursion P xs
always P all [] = tt
always P all (x ∷ xs) = (all x, always P all xs)

also : {X : Type 0} (P Q : X → Type 0) → ((x : X) → P x → Q x) → (xs : List X) → AllByRecursion P xs → AllByRecursion Q xs
also P Q gives [] all = tt
also P Q gives (x ∷ xs) all = (gives x all.0, also P Q gives xs all.1)

-- the owner of each record that ended is one of those
each-ended : (moment : ℕ) (held : List Held) → AllByRecursion (λ (one : Held). nat_le one.end moment ≡ true → is_of_ended held moment one.rr.owner ≡ true) held
each-ended moment [] = tt
each-ended moment (one ∷ held) = (
  λ e. or_left (nat_le one.end moment && folded_eq one.rr.owner one.rr.owner) (is_of_ended held moment one.rr.owner) (λ i. e i && folded_eq-equivalence.refl one.rr.owner i),
  also _ _ (λ other h e. or_right (nat_le one.end moment && folded_eq other.rr.owner one.rr.owner) (is_of_ended held moment other.rr.owner) (h e)) held (each-ended moment held),
)

-- ---- the names of marks

abbrev named_by : Name → Option Name → Bool
named_by name None = false
named_by name (Some other) = folded_eq name other

-- a name is that of a question that a mark asks
abbrev marks_it : Name → Mark → Bool
marks_it name mark = named_by name (asked_name mark)

marked-names : (name : Name) (marks : List Mark) → is_among (filter_map asked_name marks) name ≡ list_any (marks_it name) marks
marked-names name [] = refl
marked-names name (mark ∷ marks) = of (asked_name mark) (marked-names name marks)
  where
    of : (o : Option Name) → is_among (filter_map asked_name marks) name ≡ list_any (marks_it name) marks →
        is_among (cons_option o (filter_map asked_name marks)) name ≡ (named_by name o || list_any (marks_it name) marks)
    of None h = h
    of (Some other) h = ap (λ b. folded_eq name other || b) h

keys-named : (name : Name) (keys : List Key) → is_name_in keys name ≡ is_among (map (λ (key : Key). key.name) keys) name
keys-named name [] = refl
keys-named name (key ∷ keys) = ap (λ b. folded_eq name key.name || b) (keys-named name keys)

called-named : (name : Name) (call : Option Accepted) → is_called call name ≡ is_among (started_names call) name
called-named name None = refl
called-named name (Some call) = keys-named name (keys_of call.request)

-- the marks of the questions that are due name them
due-named : (name : Name) (held : List Held) (moment : ℕ) (questions : List Tracked) →
    list_any (marks_it name) (map asking.mark_of (filter_map (due_with held moment) questions)) ≡ list_any (λ (one : Tracked). is_some (due_cause held moment one) && folded_eq name one.key.name) questions
due-named name held moment [] = refl
due-named name held moment (one ∷ questions) = of (due_cause held moment one) (due-named name held moment questions)
  where
    of : (o : Option Cause) → list_any (marks_it name) (map asking.mark_of (filter_map (due_with held moment) questions)) ≡ list_any (λ (one : Tracked). is_some (due_cause held moment one) && folded_eq name one.key.name) questions →
        list_any (marks_it name) (map asking.mark_of (cons_option (option_map (λ cause. (one.key, cause)) o) (filter_map (due_with held moment) questions)))
        ≡ ((is_some o && folded_eq name one.key.name) || list_any (λ (one : Tracked). is_some (due_cause held moment one) && folded_eq name one.key.name) questions)
    of None h = h
    of (Some why) h = ap (λ b. folded_eq name one.key.name || b) h

tick-is : (ev : Event) → is_tick ev ≡ true → ev ≡ event.Tick
tick-is event.Tick e = refl
tick-is (event.Boot config) e = absurd (cc)
tick-is event.Attach e = absurd (cc)
tick-is (event.Detach session) e = absurd (cc)
tick-is (event.Call session op request) e = absurd (cc)
tick-is (event.Hear from bytes) e = absurd (cc)
tick-is (event.Take session max) e = absurd (cc)

module _ (state : State) (history : List Entry) (stands : Stands state history) (moment word : ℕ) (ev : Event) (later : now history ≤ moment) (no_boot : is_boot ev ≡ false)
    (timed : AreTimed state.held state.questions) where
  abbrev fit : Entry
  fit = entry_after history moment word ev

  abbrev known : Told
  known = told_in history moment word ev

  abbrev live : List Held
  live = live_records history (now history)

  abbrev own : List Rr
  own = own_in state.claims.kept

  abbrev own_then : Told → List Rr
  own_then told = own_in (claims_told state.claims told moment word).kept

  moment-is : fit.moment ≡ moment
  moment-is = ap (λ (e : Entry). e.moment) (entry_is history moment word ev)

  -- what is told of the event is what the history says of it
  told-known : (told : Told) → told ≡ told_of ev (kept_outcome state.claims state.opened state.sessions ev) told.refusal → told.refusal ≡ refusal_of (is_full moment word ev (hearings history)) ev → told ≡ known
  told-known told is refused =
      is ∙ (λ i. told_of ev (early i) ((refused ∙ refusal-is history moment word ev) i))
    where
      early : kept_outcome state.claims state.opened state.sessions ev ≡ early_outcome ev history
      early = (λ i. kept_outcome state.claims (stands.opened i) (stands.sessions i) ev) ∙ sym (outcome-kept history state.claims stands.claims stands.legal ev)

  -- ---- the parts of what is touched

  abbrev messages : List Name
  messages = message_names (heard_in fit)

  abbrev started : List Name
  started = started_names (accepted_in fit)

  abbrev asked : List Name
  asked = filter_map asked_name fit.marks

  abbrev ended : List Name
  ended = map (λ (one : Held). one.rr.owner) (ended_records fit history)

  abbrev moved : List Name
  moved = map (λ (rr : Rr). rr.owner) (moved_records fit history)

  of-message : (name : Name) → is_among messages name ≡ true → is_among (all_touched fit history) name ≡ true
  of-message name e =
      among-left (messages ++ started ++ asked ++ ended) moved name
      (among-left (messages ++ started ++ asked) ended name (among-left (messages ++ started) asked name (among-left messages started name e)))

  of-started : (name : Name) → is_among started name ≡ true → is_among (all_touched fit history) name ≡ true
  of-started name e =
      among-left (messages ++ started ++ asked ++ ended) moved name
      (among-left (messages ++ started ++ asked) ended name (among-left (messages ++ started) asked name (among-right messages started name e)))

  of-asked : (name : Name) → is_among asked name ≡ true → is_among (all_touched fit history) name ≡ true
  of-asked name e =
      among-left (messages ++ started ++ asked ++ ended) moved name (among-left (messages ++ started ++ asked) ended name (among-right (messages ++ started) asked name e))

  of-ended : (name : Name) → is_among ended name ≡ true → is_among (all_touched fit history) name ≡ true
  of-ended name e = among-left (messages ++ started ++ asked ++ ended) moved name (among-right (messages ++ started ++ asked) ended name e)

  of-moved : (name : Name) → is_among moved name ≡ true → is_among (all_touched fit history) name ≡ true
  of-moved name e = among-right (messages ++ started ++ asked ++ ended) moved name e

  -- ---- why a name is looked at

  heard-is : known.heard ≡ heard_in fit
  heard-is = sym (heard-next history moment word ev)

  by-ended : (name : Name) → is_of_ended state.held moment name ≡ true → is_among (all_touched fit history) name ≡ true
  by-ended name e =
      of-ended name (
      ap (λ (m : ℕ). is_among (map (λ (one : Held). one.rr.owner) (filter (λ one. not (is_live_at m one)) live)) name) moment-is
      ∙ sym (ended-owners moment name live)
      ∙ sym (list_any-IsPermutation (λ (one : Held). nat_le one.end moment && folded_eq name one.rr.owner) state.held live stands.records)
      ∙ e)

  by-heard : (name : Name) → list_any (is_named name) (counted_records known.heard) ≡ true → is_among (all_touched fit history) name ≡ true
  by-heard name e = of-message name (ap (λ (o : Option Heard). is_among (message_names o) name) (sym heard-is) ∙ heard-named name known.heard e)

  own-is : own ≡ own_records history
  own-is = own_known state.claims history stands.claims

  own-then-is : own_then known ≡ own_records (fit ∷ history)
  own-then-is =
      own_known (contents_next history stands.legal moment word ev no_boot later state.claims stands.announces stands.claims) (fit ∷ history)
      (claims-next history stands.legal moment word ev no_boot later state.claims stands.announces stands.claims)

  moved-is : moved ≡ owners-but (own_then known) own ++ owners-but own (own_then known)
  unfolding is_own
  moved-is =
      map-append (λ (rr : Rr). rr.owner) (filter (λ rr. not (list_any (same rr) (own_records history))) (own_records (fit ∷ history)))
      (filter (λ rr. not (list_any (same rr) (own_records (fit ∷ history)))) (own_records history))
      ∙ sym (λ i. owners-but (own-then-is i) (own-is i) ++ owners-but (own-is i) (own-then-is i))

  by-moved : (name : Name) → is_moved name own (own_then known) ≡ true → is_among (all_touched fit history) name ≡ true
  by-moved name e = of-moved name (ap (λ (l : List Name). is_among l name) moved-is ∙ moved-owners name own (own_then known) e)

  by-called : (name : Name) → is_called known.call name ≡ true → is_among (all_touched fit history) name ≡ true
  by-called name e =
      of-started name (ap (λ (o : Option Accepted). is_among (started_names o) name) (accepted-next in_force history moment word ev) ∙ sym (called-named name known.call) ∙ e)

  -- the marks of the entry have those of the questions that are asked
  of-marks : (name : Name) → list_any (marks_it name) (asking_marks history moment word ev) ≡ true → is_among (all_touched fit history) name ≡ true
  of-marks name e =
      of-asked name (marked-names name fit.marks ∙ ap (λ (e : Entry). list_any (marks_it name) e.marks) (entry_is history moment word ev) ∙ inside)
    where
      refusal : List Mark
      refusal = refusal_marks (bare history moment word ev) history ev

      claimed : List Mark
      claimed = claim_marks history moment word ev

      announcing : List Mark
      announcing = announcing_marks history moment word ev

      any-left : (a b : List Mark) → list_any (marks_it name) a ≡ true → list_any (marks_it name) (a ++ b) ≡ true
      any-left a b h = list_any-append (marks_it name) a b ∙ or_left (list_any (marks_it name) a) (list_any (marks_it name) b) h

      any-right : (a b : List Mark) → list_any (marks_it name) b ≡ true → list_any (marks_it name) (a ++ b) ≡ true
      any-right a b h = list_any-append (marks_it name) a b ∙ or_right (list_any (marks_it name) a) (list_any (marks_it name) b) h

      inside : list_any (marks_it name) (with_outcome (giving history moment word ev) history).marks ≡ true
      inside =
          any-left (noted_marks history moment word ev) (cut_marks (marked history moment word ev) history)
          (any-right refusal (claimed ++ (asking_marks history moment word ev ++ announcing))
          (any-right claimed (asking_marks history moment word ev ++ announcing) (any-left (asking_marks history moment word ev) announcing e)))

  still : IsPermutation (filter (is_live_at moment) state.held) (live_records history moment)
  unfolding live_records
  still =
      subst (λ (l : List Held). IsPermutation (filter (is_live_at moment) state.held) l) (sym (live_of-later (hearings history) (now history) moment later))
      (IsPermutation-filter (is_live_at moment) state.held live stands.records)

  by-tick : (name : Name) → is_tick ev ≡ true → list_any (λ (one : Tracked). is_some (cause_of moment one) && folded_eq name one.key.name) state.questions ≡ true → is_among (all_touched fit history) name ≡ true
  by-tick name ticks e =
      ⊎_elim (λ due. of-marks name (marks-are ∙ sym due-are ∙ due-named name state.held moment state.questions ∙ due)) (by-ended name) (due-or-ended name moment state.held state.questions timed e)
    where
      due-are : list_any (marks_it name) (map asking.mark_of (due_at (asker_of state.questions state.held) moment)) ≡ list_any (marks_it name) (tick_askings history moment)
      due-are = ap (list_any (marks_it name)) (due_follows (asker_of state.questions state.held) history moment stands.asking still)

      marks-are : list_any (marks_it name) (asking_marks history moment word ev) ≡ list_any (marks_it name) (tick_askings history moment)
      marks-are = ap (λ (e : Event). list_any (marks_it name) (asked_marks (bare_entry moment word e history) history e)) (tick-is ev ticks)

  by-asked : (name : Name) → is_maybe_asked known moment state.questions name ≡ true → is_among (all_touched fit history) name ≡ true
  by-asked name e = of (is_tick ev) refl e
    where
      of : (b : Bool) → is_tick ev ≡ b → list_any (λ (one : Tracked). cond b (is_some (cause_of moment one)) (may_be_heard known.heard moment one) && folded_eq name one.key.name) state.questions ≡ true →
          is_among (all_touched fit history) name ≡ true
      of true ticks h = by-tick name ticks h
      of false ticks h = of-message name (ap (λ (o : Option Heard). is_among (message_names o) name) (sym heard-is) ∙ asked-heard name moment known.heard state.questions h)

  abbrev looked : Told → Name → Bool
  looked told name = is_looked_at told moment (counted_records told.heard) state.held own (own_then told) state.questions name

  -- What is looked at is touched.
  looked-known : (name : Name) → looked known name ≡ true → is_among (all_touched fit history) name ≡ true
  looked-known name e =
      either (is_near moment (counted_records known.heard) state.held own (own_then known) name) (is_maybe_asked known moment state.questions name || is_called known.call name) e
      (λ near. either (is_of_event moment (counted_records known.heard) state.held name) (is_moved name own (own_then known)) near
      (λ h. either (is_of_ended state.held moment name) (list_any (is_named name) (counted_records known.heard)) h (by-ended name) (by-heard name)) (by-moved name))
      (λ rest. either (is_maybe_asked known moment state.questions name) (is_called known.call name) rest (by-asked name) (by-called name))

  -- ---- how much that is

  abbrev is_named_so : Held → Bool
  is_named_so one = is_touched fit history one

  touched-here : (one : Held) → is_among (all_touched fit history) one.rr.owner ≡ true → is_named_so one ≡ true
  unfolding touched_names
  touched-here one e = once-among (all_touched fit history) one.rr.owner e

  records-few : length (filter is_named_so state.held) ≤ length (touched_records fit history)
  unfolding touched_records
  records-few =
      let same_many : length (filter is_named_so live) ≡ length (filter is_named_so state.held) = length_permutation _ _ (IsPermutation-filter is_named_so state.held live stands.records) in
      let parts = length-append (filter is_named_so live) (filter (λ one. is_touched fit history one && not (is_held_in live one)) (live_records (fit ∷ history) fit.moment)) in
      omega (arith, same_many, parts)

  ended-few : length (ended_in moment state.held) ≤ length (touched_records fit history)
  ended-few =
      let few = fewer (λ one. not (is_live_at moment one)) is_named_so state.held
      (also _ _ (λ one h gone. touched-here one (by-ended one.rr.owner (h (ended_is moment one.end ∙ gone)))) state.held (each-ended moment state.held)) in
      omega (arith, few, records-few)

  names-few : length (each_once folded_eq (all_touched fit history)) ≡ length (touched_names fit history)
  unfolding touched_names
  names-few = refl

  holds : Holds state.held (hearings history) (now history)
  unfolding live_records
  holds = stands.records

  -- The visits of a step are few: what is looked at, what has ended, and once more.
  pub bounded : (before after : ℕ) → AreBounded state moment word ev before after → after + length (ended_in moment state.held) + 1 ≤ before + 8 * (touched fit history + 1)
  unfolding touched
  bounded before after (inl still) = omega (arith, still, ended-few)
  bounded before after (inr for) =
      let told_is : for.told ≡ known = told-known for.told for.is_told (for.refused (hearings history) (now history) later holds) in
      let walked = visits-few for.few.names (all_touched fit history) state.held for.few.once
      (λ name there. looked-known name (sym (ap (λ (t : Told). looked t name) told_is) ∙ for.few.only name there)) in
      let held = fewer (λ (one : Held). is_among (all_touched fit history) one.rr.owner) is_named_so state.held (always _ touched-here state.held) in
      omega (arith, for.few.most, walked, held, records-few, ended-few, names-few)

-- The same, told of any entry that fits.
pub few-visits : (state : State) (history : List Entry) → Stands state history → (moment word : ℕ) (ev : Event) → state.last ≤ moment → is_boot ev ≡ false → AreTimed state.held state.questions →
    (entry : Entry) → FitsAt in_force history moment word ev entry → (before after : ℕ) → AreBounded state moment word ev before after →
    after + length (ended_in moment state.held) + 1 ≤ before + 8 * (touched entry history + 1)
few-visits state history stands moment word ev later no_boot timed entry fits before after few =
    subst (λ (e : Entry). after + length (ended_in moment state.held) + 1 ≤ before + 8 * (touched e history + 1)) (sym is)
    (bounded state history stands moment word ev (subst (λ (n : ℕ). n ≤ moment) stands.last later) no_boot timed before after few)
  where
    is : entry ≡ entry_after history moment word ev
    is = fits.fits.determined ∙ (λ i. next_entry in_force history (fits.at_moment i) (fits.with_word i) (fits.for_event i))
