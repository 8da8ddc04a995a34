-- Which marks and registrations an entry has: marks that set back, rename or end a group come of packets alone, registrations of calls alone.
use Rattle.std.proofs.Common.{◌≡◌, ℕ, ◌==◌, ◌⊎◌, inl, inr, Bool, true, false, cond, List, [], ◌∷◌, ◌++◌, Option, Some, None, refl, ap, subst, ◌∙◌, sym, arith}
use Rattle.std.specs.Prelude.{filter, slice_get}
use Rattle.std.specs.List.{filter_map, cons_option}
use Rattle.std.specs.Option.{option_map_or}
use Rattle.dns_message.specs.Reading.{fault}
use Rattle.mdns_history.specs.declared.event.Event.{Event}
use Rattle.mdns_history.specs.declared.event.Event.TheVariants as event
use Rattle.mdns_history.specs.declared.mark.Cause.{Cause}
use Rattle.mdns_history.specs.declared.mark.Cause.TheVariants as cause
use Rattle.mdns_history.specs.declared.mark.Mark.{Mark}
use Rattle.mdns_history.specs.declared.mark.Mark.TheVariants as mark
use Rattle.mdns_history.specs.declared.entry.Entry.{Entry}
use Rattle.mdns_history.specs.InForce.{Duties, only_if}
use Rattle.mdns_history.specs.Hearings.{Heard, brought}
use Rattle.mdns_history.specs.Lifetimes.{is_too_full}
use Rattle.mdns_history.specs.Groups.{Group, number_in_mark, renaming, is_failure_of}
use Rattle.mdns_history.specs.Sureness.{is_setback_of}
use Rattle.mdns_history.specs.Questions.{Active, active_questions}
use Rattle.mdns_history.specs.Asking.{tick_cause, asked_mark, tick_askings, is_asked_by, heard_askings}
use Rattle.mdns_history.specs.Announcing.{announced_groups}
use Rattle.mdns_history.specs.Items.{cut_marks, would_pass, served_sessions}
use Rattle.mdns_history.specs.Fitting.{bare_entry, refusal_marks, admitted, disturbed_marks, asked_marks, announced_marks, event_marks, noted, next_entry}
use Rattle.mdns_asserts.proofs.Elements.{In, of_append, of_map, of_filter_map}
use Rattle.mdns_asserts.proofs.Followed.{marks-next}

-- whether a mark is none of claims
abbrev pub is_quiet : Mark → Bool
is_quiet (mark.Renamed group number) = false
is_quiet (mark.Contested group) = false
is_quiet (mark.TieLost group) = false
is_quiet (mark.Failed group) = false
is_quiet _ = true

refusal_quiet : (entry : Entry) (past : List Entry) (ev : Event) (m : Mark) → In m (refusal_marks entry past ev) → is_quiet m ≡ true
refusal_quiet entry past (event.Hear from bytes) m k = of (is_too_full entry past) (fault bytes) k
  where
    of : (b : Bool) (o : Option ℕ) → In m (cond b (mark.Full ∷ []) (option_map_or (λ number. mark.Bad number ∷ []) o [])) → is_quiet m ≡ true
    of true o (inl e) = ap is_quiet e
    of true o (inr n) = absurd n
    of false None n = absurd n
    of false (Some number) (inl e) = ap is_quiet e
    of false (Some number) (inr n) = absurd n
refusal_quiet entry past (event.Boot config) m k = absurd k
refusal_quiet entry past event.Attach m k = absurd k
refusal_quiet entry past (event.Detach session) m k = absurd k
refusal_quiet entry past (event.Call session op request) m k = absurd k
refusal_quiet entry past event.Tick m k = absurd k
refusal_quiet entry past (event.Take session max) m k = absurd k

tick_quiet : (past : List Entry) (moment : ℕ) (m : Mark) → In m (tick_askings past moment) → is_quiet m ≡ true
unfolding tick_askings
tick_quiet past moment m k =
    let found : (active : Active) × In active (active_questions past) × (asked_mark active (tick_cause past moment active) ≡ Some m) = of_filter_map (λ active. asked_mark active (tick_cause past moment active)) m (active_questions past) k in
    of found.0 (tick_cause past moment found.0) found.2
  where
    of : (active : Active) (o : Option Cause) → asked_mark active o ≡ Some m → is_quiet m ≡ true
    of active None e = cc
    of active (Some why) e = sym (ap (λ (x : Option Mark). option_map_or is_quiet x true) e)

heard_quiet : (past : List Entry) (moment : ℕ) (heard : Option Heard) (m : Mark) → In m (heard_askings past moment heard) → is_quiet m ≡ true
unfolding heard_askings
heard_quiet past moment None m k = absurd k
heard_quiet past moment (Some heard) m k =
    let found : (active : Active) × In active (filter (is_asked_by past moment heard) (active_questions past)) × (m ≡ mark.Asked active.key cause.Heard) =
    of_map (λ active. mark.Asked active.key cause.Heard) m (filter (is_asked_by past moment heard) (active_questions past)) k in
    ap is_quiet found.2

asked_quiet : (entry : Entry) (past : List Entry) (ev : Event) (m : Mark) → In m (asked_marks entry past ev) → is_quiet m ≡ true
asked_quiet entry past event.Tick m k = tick_quiet past entry.moment m k
asked_quiet entry past (event.Boot config) m k = heard_quiet past entry.moment None m k
asked_quiet entry past event.Attach m k = heard_quiet past entry.moment None m k
asked_quiet entry past (event.Detach session) m k = heard_quiet past entry.moment None m k
asked_quiet entry past (event.Call session op request) m k = heard_quiet past entry.moment None m k
asked_quiet entry past (event.Hear from bytes) m k = heard_quiet past entry.moment (admitted entry past (brought (event.Hear from bytes))) m k
asked_quiet entry past (event.Take session max) m k = heard_quiet past entry.moment None m k

announced_quiet : (entry : Entry) (past : List Entry) (ev : Event) (m : Mark) → In m (announced_marks entry past ev) → is_quiet m ≡ true
announced_quiet entry past event.Tick m k =
    let found : (group : Group) × In group (announced_groups (entry ∷ past) entry.moment) × (m ≡ mark.Announced group.id) = of_map (λ group. mark.Announced group.id) m (announced_groups (entry ∷ past) entry.moment) k in
    ap is_quiet found.2
announced_quiet entry past (event.Boot config) m k = absurd k
announced_quiet entry past event.Attach m k = absurd k
announced_quiet entry past (event.Detach session) m k = absurd k
announced_quiet entry past (event.Call session op request) m k = absurd k
announced_quiet entry past (event.Hear from bytes) m k = absurd k
announced_quiet entry past (event.Take session max) m k = absurd k

cut_quiet : (entry : Entry) (past : List Entry) (m : Mark) → In m (cut_marks entry past) → is_quiet m ≡ true
unfolding cut_marks
cut_quiet entry past m k =
    let found : (session : ℕ) × In session (filter (would_pass entry past) (served_sessions entry past)) × (m ≡ mark.Cut session) = of_map (λ session. mark.Cut session) m (filter (would_pass entry past) (served_sessions entry past)) k in
    ap is_quiet found.2

dutiful : (b : Bool) (xs : List Mark) (m : Mark) → In m (only_if b xs) → (b ≡ true) × In m xs
dutiful true xs m k = (refl, k)
dutiful false xs m k = absurd k

-- A mark of an entry is one that a packet gave to a claim, or none of claims.
pub mark_cases : (duties : Duties) (entry : Entry) (past : List Entry) → entry ≡ next_entry duties past entry.moment entry.word entry.event → (m : Mark) → In m entry.marks →
    (is_quiet m ≡ true) ⊎ ((duties.claiming ≡ true) × In m (disturbed_marks (bare_entry entry.moment entry.word entry.event past) past))
mark_cases duties entry past determined m k =
    let b : Entry = bare_entry entry.moment entry.word entry.event past in
    first (of_append m (event_marks duties b past) (cut_marks (noted duties b past) past)
    (subst (λ ms. In m ms) (ap (λ e. e.marks) determined ∙ marks-next duties past entry.moment entry.word entry.event) k))
  where
    fourth : In m (only_if duties.asking (asked_marks (bare_entry entry.moment entry.word entry.event past) past entry.event)) ⊎ In m (only_if duties.announcing (announced_marks (bare_entry entry.moment entry.word entry.event past) past entry.event)) →
        (is_quiet m ≡ true) ⊎ ((duties.claiming ≡ true) × In m (disturbed_marks (bare_entry entry.moment entry.word entry.event past) past))
    fourth (inl n) = inl (asked_quiet (bare_entry entry.moment entry.word entry.event past) past entry.event m (dutiful duties.asking _ m n).1)
    fourth (inr n) = inl (announced_quiet (bare_entry entry.moment entry.word entry.event past) past entry.event m (dutiful duties.announcing _ m n).1)

    third : In m (only_if duties.claiming (disturbed_marks (bare_entry entry.moment entry.word entry.event past) past)) ⊎ In m (only_if duties.asking (asked_marks (bare_entry entry.moment entry.word entry.event past) past entry.event) ++ only_if duties.announcing (announced_marks (bare_entry entry.moment entry.word entry.event past) past entry.event)) →
        (is_quiet m ≡ true) ⊎ ((duties.claiming ≡ true) × In m (disturbed_marks (bare_entry entry.moment entry.word entry.event past) past))
    third (inl n) = inr (dutiful duties.claiming (disturbed_marks (bare_entry entry.moment entry.word entry.event past) past) m n)
    third (inr n) = fourth (of_append m (only_if duties.asking (asked_marks (bare_entry entry.moment entry.word entry.event past) past entry.event)) _ n)

    second : In m (refusal_marks (bare_entry entry.moment entry.word entry.event past) past entry.event) ⊎ In m (only_if duties.claiming (disturbed_marks (bare_entry entry.moment entry.word entry.event past) past) ++ (only_if duties.asking (asked_marks (bare_entry entry.moment entry.word entry.event past) past entry.event) ++ only_if duties.announcing (announced_marks (bare_entry entry.moment entry.word entry.event past) past entry.event))) →
        (is_quiet m ≡ true) ⊎ ((duties.claiming ≡ true) × In m (disturbed_marks (bare_entry entry.moment entry.word entry.event past) past))
    second (inl n) = inl (refusal_quiet (bare_entry entry.moment entry.word entry.event past) past entry.event m n)
    second (inr n) = third (of_append m (only_if duties.claiming (disturbed_marks (bare_entry entry.moment entry.word entry.event past) past)) _ n)

    first : In m (event_marks duties (bare_entry entry.moment entry.word entry.event past) past) ⊎ In m (cut_marks (noted duties (bare_entry entry.moment entry.word entry.event past) past) past) →
        (is_quiet m ≡ true) ⊎ ((duties.claiming ≡ true) × In m (disturbed_marks (bare_entry entry.moment entry.word entry.event past) past))
    first (inl n) = second (of_append m (refusal_marks (bare_entry entry.moment entry.word entry.event past) past entry.event) _ n)
    first (inr n) = inl (cut_quiet (noted duties (bare_entry entry.moment entry.word entry.event past) past) past m n)

-- what a quiet mark isn't
pub quiet_renames : (id : ℕ) (m : Mark) → is_quiet m ≡ true → number_in_mark id m ≡ None
quiet_renames id (mark.Renamed group number) h = cc
quiet_renames id (mark.Contested group) h = cc
quiet_renames id (mark.TieLost group) h = cc
quiet_renames id (mark.Failed group) h = cc
quiet_renames id (mark.Bad number) h = refl
quiet_renames id mark.Full h = refl
quiet_renames id (mark.Asked key why) h = refl
quiet_renames id (mark.Announced group) h = refl
quiet_renames id (mark.Cut session) h = refl

pub quiet_setback : (id : ℕ) (m : Mark) → is_quiet m ≡ true → is_setback_of id m ≡ false
quiet_setback id (mark.Renamed group number) h = cc
quiet_setback id (mark.Contested group) h = cc
quiet_setback id (mark.TieLost group) h = cc
quiet_setback id (mark.Failed group) h = cc
quiet_setback id (mark.Bad number) h = refl
quiet_setback id mark.Full h = refl
quiet_setback id (mark.Asked key why) h = refl
quiet_setback id (mark.Announced group) h = refl
quiet_setback id (mark.Cut session) h = refl

pub quiet_failure : (id : ℕ) (m : Mark) → is_quiet m ≡ true → is_failure_of id m ≡ false
quiet_failure id (mark.Renamed group number) h = cc
quiet_failure id (mark.Contested group) h = cc
quiet_failure id (mark.TieLost group) h = cc
quiet_failure id (mark.Failed group) h = cc
quiet_failure id (mark.Bad number) h = refl
quiet_failure id mark.Full h = refl
quiet_failure id (mark.Asked key why) h = refl
quiet_failure id (mark.Announced group) h = refl
quiet_failure id (mark.Cut session) h = refl

-- the number that an entry gives to a group stands in one of its marks
number_stands : (id n : ℕ) (m : Mark) → number_in_mark id m ≡ Some n → m ≡ mark.Renamed id n
number_stands id n (mark.Renamed group number) e = of (group == id) refl e
  where
    of : (b : Bool) → (group == id) ≡ b → cond b (Some number) None ≡ Some n → mark.Renamed group number ≡ mark.Renamed id n
    of true f g = let same : group ≡ id = grind (arith, f) in let number_same : number ≡ n = ap (λ (o : Option ℕ). option_map_or (λ x. x) o 0) g in ap (λ i. mark.Renamed i number) same ∙ ap (mark.Renamed id) number_same
    of false f g = cc
number_stands id n (mark.Contested group) e = cc
number_stands id n (mark.TieLost group) e = cc
number_stands id n (mark.Failed group) e = cc
number_stands id n (mark.Bad number) e = cc
number_stands id n mark.Full e = cc
number_stands id n (mark.Asked key why) e = cc
number_stands id n (mark.Announced group) e = cc
number_stands id n (mark.Cut session) e = cc

pub renaming_stands : (id n : ℕ) (entry : Entry) → renaming id entry ≡ Some n → In (mark.Renamed id n) entry.marks
renaming_stands id n entry e = of entry.marks e
  where
    of : (ms : List Mark) → slice_get (filter_map (number_in_mark id) ms) 0 ≡ Some n → In (mark.Renamed id n) ms
    of [] f = cc
    of (m ∷ ms) f = one (number_in_mark id m) refl f (of_rest ms)
      where
        of_rest : (rest : List Mark) → slice_get (filter_map (number_in_mark id) rest) 0 ≡ Some n → In (mark.Renamed id n) rest
        of_rest [] g = cc
        of_rest (r ∷ rest) g = again (number_in_mark id r) refl g (of_rest rest)
          where
            again : (o : Option ℕ) → number_in_mark id r ≡ o → slice_get (cons_option o (filter_map (number_in_mark id) rest)) 0 ≡ Some n →
                (slice_get (filter_map (number_in_mark id) rest) 0 ≡ Some n → In (mark.Renamed id n) rest) → In (mark.Renamed id n) (r ∷ rest)
            again None h k more = inr (more k)
            again (Some x) h k more = inl (sym (number_stands id n r (h ∙ k)))

        one : (o : Option ℕ) → number_in_mark id m ≡ o → slice_get (cons_option o (filter_map (number_in_mark id) ms)) 0 ≡ Some n →
            (slice_get (filter_map (number_in_mark id) ms) 0 ≡ Some n → In (mark.Renamed id n) ms) → In (mark.Renamed id n) (m ∷ ms)
        one None h k more = inr (more k)
        one (Some x) h k more = inl (sym (number_stands id n m (h ∙ k)))

-- where an entry gives a group no number, no mark does
pub renaming_none : (id n : ℕ) (entry : Entry) → renaming id entry ≡ None → In (mark.Renamed id n) entry.marks → ⊥
renaming_none id n entry e m = absurd (of entry.marks e m)
  where
    of : (ms : List Mark) → slice_get (filter_map (number_in_mark id) ms) 0 ≡ None → In (mark.Renamed id n) ms → ⊥
    of [] f k = k
    of (x ∷ xs) f k = one (number_in_mark id x) refl f k
      where
        later : (ys : List Mark) → slice_get (filter_map (number_in_mark id) ys) 0 ≡ None → In (mark.Renamed id n) ys → ⊥
        later [] g j = j
        later (y ∷ ys) g j = each (number_in_mark id y) refl g j (later ys)
          where
            each : (o : Option ℕ) → number_in_mark id y ≡ o → slice_get (cons_option o (filter_map (number_in_mark id) ys)) 0 ≡ None → In (mark.Renamed id n) (y ∷ ys) →
                (slice_get (filter_map (number_in_mark id) ys) 0 ≡ None → In (mark.Renamed id n) ys → ⊥) → ⊥
            each (Some number) h i j more = cc
            each None h i (inr j) more = more i j
            each None h i (inl same) more = clash (sym h ∙ sym (ap (number_in_mark id) same))
              where
                clash : None ≡ cond (id == id) (Some n) None → ⊥
                clash c = let own : (id == id) ≡ true = grind arith in let no : None ≡ Some n = c ∙ ap (λ b. cond b (Some n) None) own in cc

        one : (o : Option ℕ) → number_in_mark id x ≡ o → slice_get (cons_option o (filter_map (number_in_mark id) xs)) 0 ≡ None → In (mark.Renamed id n) (x ∷ xs) → ⊥
        one (Some number) h i j = cc
        one None h i (inr j) = later xs i j
        one None h i (inl same) = clash (sym h ∙ sym (ap (number_in_mark id) same))
          where
            clash : None ≡ cond (id == id) (Some n) None → ⊥
            clash c = let own : (id == id) ≡ true = grind arith in let no : None ≡ Some n = c ∙ ap (λ b. cond b (Some n) None) own in cc
