-- After a tick no question is due by then: each that was due has been asked.
use Rattle.std.proofs.Common.{◌≡◌, ℕ, ◌+◌, ◌*◌, ◌<◌, ◌==◌, min, max, Bool, true, false, cond, not, ◌&&◌, ◌||◌, ◌⊎◌, inl, inr, List, [], ◌∷◌, ◌++◌, map, nat_le, Some, None, IfSome, refl, ap, ◌∙◌, sym, arith}
use Rattle.std.specs.Prelude.{nat_lt}
use Rattle.std.proofs.lemmas.List.Folds.{list_all-append}
use Rattle.std.specs.List.{list_any, list_all, flat_map, filter_map, cons_option, AllByRecursion}
use Rattle.std.specs.Option.{option_map}
use Rattle.std.proofs.lemmas.Slice.Eq.{bytes_eq-Decides}
use Rattle.lists.specs.Lists.{least, least_of}
use Rattle.dns_name.specs.Names.{folded, wire_of, folded_eq}
use Rattle.dns_record.specs.declared.record.Key.{Key}
use Rattle.dns_record.specs.Records.{key_eq}
use Rattle.mdns_history.specs.declared.mark.Cause.{Cause}
use Rattle.mdns_history.specs.declared.mark.Cause.TheVariants as cause
use Rattle.mdns_history.specs.declared.held.Held.{Held}
use Rattle.mdns_history.specs.Lifetimes.{is_live_at}
use Rattle.mdns_history.specs.Questions.{Active}
use Rattle.mdns_history.specs.Asking.{is_counted, refresh_points, calls_at}
use Rattle.mdns_history.specs.Due.{is_nothing}
use Rattle.mdns_cache.specs.Lifetimes.{AllLive}
use Rattle.mdns_question.specs.declared.tracked.Tracked.{Tracked}
use Rattle.mdns_question.specs.Tracking.{active_of, is_for, longest_gap, asked_at, noted, with_asking, fresh_of, is_refreshed, due_with, due_at}
use Rattle.mdns_question.specs.Next.{next_of}
use Rattle.mdns_asking.specs.State.{asker_of}
use Rattle.mdns_asking.specs.Asked.{all_asked}
use Rattle.mdns_asking.specs.Timed.{all_timed}
use Rattle.mdns_asking.specs.Kept.{HaveGaps}
use Rattle.mdns_asking.proofs.Gaps.{asked_gap}
use Rattle.mdns_asking.proofs.Waiting.{below_least, quiet_before}

noted_gap : (moment : ℕ) (question : Key) (why : Cause) (one : Tracked) → 0 < one.gap → 0 < (noted moment question why one).gap
noted_gap moment question why one h = of (is_for question one)
  where
    of : (b : Bool) → 0 < (cond b (asked_at moment why one) one).gap
    of true = asked_gap moment why one h
    of false = h

-- a question is this one itself
is_for_itself : (one : Tracked) → is_for one.key one ≡ true
unfolding key_eq folded_eq
is_for_itself one =
    let same_name : folded_eq one.key.name one.key.name ≡ true = (bytes_eq-Decides (wire_of (folded one.key.name)) (wire_of (folded one.key.name))).1 refl in
    let same_kind : (one.key.kind == one.key.kind) ≡ true = grind arith in
    rw (same_name, same_kind) refl

-- no refresh point that has come is later than now
none_call : (active : Active) (t : ℕ) (ps : List ℕ) → list_any (calls_at active (t ∷ []) t) ps ≡ false
none_call active t [] = refl
none_call active t (p ∷ ps) = of (nat_le p t) (nat_lt active.start p) (nat_lt t p) refl refl (none_call active t ps)
  where
    of : (a s b : Bool) → nat_le p t ≡ a → nat_lt t p ≡ b → list_any (calls_at active (t ∷ []) t) ps ≡ false → ((a && s && b) || list_any (calls_at active (t ∷ []) t) ps) ≡ false
    of false s b e f rest = rest
    of true false b e f rest = rest
    of true true false e f rest = rest
    of true true true e f rest = let no : nat_lt t p ≡ false = grind arith in let never : true ≡ false = sym f ∙ no in cc

module _ (held : List Held) (t : ℕ) where
  -- a question that isn't due now
  record IsSettled (one : Tracked) : Type 0 where
    pub later : nat_le one.next t ≡ false
    pub calm : is_refreshed held t one ≡ false

  calm_asked : (why : Cause) (one : Tracked) → is_refreshed held t (asked_at t why one) ≡ false
  calm_asked why one = of (is_counted why)
    where
      of : (b : Bool) → is_refreshed held t (cond b (record one { next = t + min one.gap longest_gap; gap = 2 * min one.gap longest_gap; last = Some t }) (record one { last = Some t })) ≡ false
      of true = none_call (active_of one) t (flat_map refresh_points (fresh_of one.key held t))
      of false = none_call (active_of one) t (flat_map refresh_points (fresh_of one.key held t))

  -- whether an asking settles a question
  abbrev settles : Tracked → Key × Cause → Bool
  settles one asking = is_for asking.0 one && (not (nat_le one.next t) || is_counted asking.1)

  -- a question isn't due, or is settled by one of these askings
  record IsAwaited (asked : List (Key × Cause)) (one : Tracked) : Type 0 where
    pub gap : 0 < one.gap
    pub settled : IsSettled one ⊎ (list_any (settles one) asked ≡ true)

  counted_later : (one : Tracked) → 0 < one.gap → nat_le (t + min one.gap longest_gap) t ≡ false
  counted_later one h = let above : t < t + min one.gap longest_gap = omega (arith, h) in grind arith

  step_settled : (asking : Key × Cause) (more : List (Key × Cause)) (one : Tracked) → 0 < one.gap → IsSettled one ⊎ (list_any (settles one) (asking ∷ more) ≡ true) →
      (b : Bool) → is_for asking.0 one ≡ b → IsSettled (cond b (asked_at t asking.1 one) one) ⊎ (list_any (settles (cond b (asked_at t asking.1 one) one)) more ≡ true)
  step_settled asking more one h (inl s) false e = inl s
  step_settled asking more one h (inr k) false e = inr (sym (ap (λ b. (b && (not (nat_le one.next t) || is_counted asking.1)) || list_any (settles one) more) e) ∙ k)
  step_settled asking more one h before true e = of (is_counted asking.1) refl before (nat_le one.next t) refl
    where
      calm : is_refreshed held t (asked_at t asking.1 one) ≡ false
      calm = calm_asked asking.1 one

      of : (c : Bool) → is_counted asking.1 ≡ c → IsSettled one ⊎ (list_any (settles one) (asking ∷ more) ≡ true) → (n : Bool) → nat_le one.next t ≡ n →
          IsSettled (cond c (record one { next = t + min one.gap longest_gap; gap = 2 * min one.gap longest_gap; last = Some t }) (record one { last = Some t }))
          ⊎ (list_any (settles (cond c (record one { next = t + min one.gap longest_gap; gap = 2 * min one.gap longest_gap; last = Some t }) (record one { last = Some t }))) more ≡ true)
      of true f k n g = inl (record { later = counted_later one h; calm = none_call (active_of one) t (flat_map refresh_points (fresh_of one.key held t)) })
      of false f k false g = inl (record { later = g; calm = none_call (active_of one) t (flat_map refresh_points (fresh_of one.key held t)) })
      of false f (inl s) true g = let no : true ≡ false = sym g ∙ s.later in absurd (cc)
      of false f (inr k) true g =
          inr (sym (ap (λ x. (x && (not (nat_le one.next t) || is_counted asking.1)) || list_any (settles one) more) e
          ∙ ap (λ x. (not x || is_counted asking.1) || list_any (settles one) more) g
          ∙ ap (λ x. x || list_any (settles one) more) f) ∙ k)

  step_one : (asking : Key × Cause) (more : List (Key × Cause)) (one : Tracked) → IsAwaited (asking ∷ more) one → IsAwaited more (noted t asking.0 asking.1 one)
  step_one asking more one is = record {
    gap = noted_gap t asking.0 asking.1 one is.gap;
    settled = step_settled asking more one is.gap is.settled (is_for asking.0 one) refl;
  }

  step_all : (asking : Key × Cause) (more : List (Key × Cause)) (questions : List Tracked) → AllByRecursion (IsAwaited (asking ∷ more)) questions →
      AllByRecursion (IsAwaited more) (with_asking t asking.0 asking.1 questions)
  step_all asking more [] all = tt
  step_all asking more (one ∷ questions) all = (step_one asking more one all.0, step_all asking more questions all.1)

  none_due : (questions : List Tracked) → AllByRecursion (IsAwaited []) questions → filter_map (due_with held t) questions ≡ []
  none_due [] all = refl
  none_due (one ∷ questions) all = of all.0.settled ∙ none_due questions all.1
    where
      of : IsSettled one ⊎ (false ≡ true) → cons_option (due_with held t one) (filter_map (due_with held t) questions) ≡ filter_map (due_with held t) questions
      of (inl s) =
          ap (λ n. cons_option (option_map (λ why. (one.key, why)) (cond n (Some cause.Series) (cond (is_refreshed held t one) (Some cause.Refresh) None))) (filter_map (due_with held t) questions)) s.later
          ∙ ap (λ r. cons_option (option_map (λ why. (one.key, why)) (cond r (Some cause.Refresh) None)) (filter_map (due_with held t) questions)) s.calm
      of (inr k) = absurd (cc)

  all_settled : (asked : List (Key × Cause)) (questions : List Tracked) → AllByRecursion (IsAwaited asked) questions → filter_map (due_with held t) (all_asked t asked questions) ≡ []
  all_settled [] questions all = none_due questions all
  all_settled (asking ∷ more) questions all = all_settled more (with_asking t asking.0 asking.1 questions) (step_all asking more questions all)

  -- more askings settle no less
  weaker : (asking : Key × Cause) (more : List (Key × Cause)) (one : Tracked) → IsAwaited more one → IsAwaited (asking ∷ more) one
  weaker asking more one is = record { gap = is.gap; settled = of is.settled (settles one asking) }
    where
      of : IsSettled one ⊎ (list_any (settles one) more ≡ true) → (b : Bool) → IsSettled one ⊎ ((b || list_any (settles one) more) ≡ true)
      of (inl s) b = inl s
      of (inr k) true = inr refl
      of (inr k) false = inr k

  all_weaker : (asking : Key × Cause) (more : List (Key × Cause)) (questions : List Tracked) → AllByRecursion (IsAwaited more) questions → AllByRecursion (IsAwaited (asking ∷ more)) questions
  all_weaker asking more [] all = tt
  all_weaker asking more (one ∷ questions) all = (weaker asking more one all.0, all_weaker asking more questions all.1)

  -- each question that is due is settled by its own asking
  all_awaited : (questions : List Tracked) → HaveGaps questions → AllByRecursion (IsAwaited (filter_map (due_with held t) questions)) questions
  all_awaited [] gaps = tt
  all_awaited (one ∷ questions) gaps = of (nat_le one.next t) refl (is_refreshed held t one) refl (all_awaited questions gaps.1)
    where
      rest : List (Key × Cause)
      rest = filter_map (due_with held t) questions

      its : (why : Cause) → (not (nat_le one.next t) || is_counted why) ≡ true → list_any (settles one) ((one.key, why) ∷ rest) ≡ true
      its why h = ap (λ b. (b && (not (nat_le one.next t) || is_counted why)) || list_any (settles one) rest) (is_for_itself one) ∙ ap (λ b. b || list_any (settles one) rest) h

      of : (n : Bool) → nat_le one.next t ≡ n → (r : Bool) → is_refreshed held t one ≡ r → AllByRecursion (IsAwaited rest) questions →
          AllByRecursion (IsAwaited (cons_option (option_map (λ why. (one.key, why)) (cond n (Some cause.Series) (cond r (Some cause.Refresh) None))) rest)) (one ∷ questions)
      of true e r f more = (record { gap = gaps.0; settled = inr (its cause.Series (ap (λ n. not n || true) e)) }, all_weaker (one.key, cause.Series) rest questions more)
      of false e true f more = (record { gap = gaps.0; settled = inr (its cause.Refresh (ap (λ n. not n || false) e)) }, all_weaker (one.key, cause.Refresh) rest questions more)
      of false e false f more = (record { gap = gaps.0; settled = inl (record { later = e; calm = f }) }, more)

  -- Once all that is due is asked, no question is due.
  pub none_due_asked : (questions : List Tracked) → HaveGaps questions → due_at (asker_of (all_asked t (due_at (asker_of questions held) t) questions) held) t ≡ []
  none_due_asked questions gaps = all_settled (filter_map (due_with held t) questions) questions (all_awaited questions gaps)

  -- Told refresh points change nothing of that.
  due_timed : (later : List Held) (questions : List Tracked) → filter_map (due_with held t) (all_timed later questions) ≡ filter_map (due_with held t) questions
  due_timed later [] = refl
  due_timed later (one ∷ questions) = ap (cons_option (due_with held t one)) (due_timed later questions)

  pub none_due_timed : (later : List Held) (questions : List Tracked) → HaveGaps questions →
      due_at (asker_of (all_timed later (all_asked t (due_at (asker_of questions held) t) questions)) held) t ≡ []
  none_due_timed later questions gaps = due_timed later (all_asked t (due_at (asker_of questions held) t) questions) ∙ none_due_asked questions gaps

-- what is below all of several numbers is below the least, and below that or itself
above_all : (t : ℕ) (ns : List ℕ) → list_all (nat_lt t) ns ≡ true → IfSome (option_map (max t) (least ns)) (λ due. t < due)
above_all t [] h = tt
above_all t (n ∷ ns) h = let below : nat_lt t (least_of n ns) ≡ true = sym (below_least t n ns) ∙ h in let less : t < least_of n ns = grind arith in omega arith

live_all : (t : ℕ) (held : List Held) → AllLive t held → list_all (is_live_at t) held ≡ true
live_all t [] live = refl
live_all t (one ∷ held) live = let here : t < one.end = live.0 in let lives : nat_lt t one.end ≡ true = grind arith in ap (λ b. b && list_all (is_live_at t) held) lives ∙ live_all t held live.1

-- Where each held record is live, no question is due and all else that is awaited is later, the next due moment is later.
pub due-later : (questions : List Tracked) (held : List Held) (t : ℕ) (others : List ℕ) → AllLive t held → due_at (asker_of questions held) t ≡ [] → list_all (nat_lt t) others ≡ true →
    IfSome (option_map (max t) (least (map (λ one. one.end) held ++ map (next_of held) questions ++ others))) (λ due. t < due)
due-later questions held t others live none beyond =
    above_all t (ends ++ nexts ++ others)
    (list_all-append (nat_lt t) (ends ++ nexts) others
    ∙ (λ i. (sym (quiet_before questions held t) ∙ ap (λ b. b && is_nothing (due_at (asker_of questions held) t)) (live_all t held live) ∙ ap is_nothing none) i && beyond i))
  where
    ends : List ℕ
    ends = map (λ one. one.end) held

    nexts : List ℕ
    nexts = map (next_of held) questions
