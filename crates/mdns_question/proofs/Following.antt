-- What is kept of a question follows the history, entry by entry, and what is due is what a tick asks.
use Rattle.std.proofs.Common.{◌≡◌, ℕ, suc, ◌+◌, ◌-◌, ◌*◌, ◌^◌, Bool, true, false, cond, ◌&&◌, ◌||◌, List, [], ◌∷◌, map, take, length, min, nat_le, nat_lt, refl, ap, sym, ◌∙◌, arith, Option, Some, None, IsPermutation}
use Rattle.std.specs.Prelude.{filter}
use Rattle.std.specs.List.{list_any, flat_map, filter_map, cons_option, AllByRecursion}
use Rattle.std.specs.Option.{option_map, option_to_list}
use Rattle.std.proofs.Math.Nat.{pow-suc}
use Rattle.std.proofs.lemmas.List.Folds.{list_any-append}
use Rattle.std.proofs.lemmas.List.Sorted.{list_any-IsPermutation}
use Rattle.dns_record.specs.declared.record.Key.{Key}
use Rattle.dns_record.specs.Records.{matches}
use Rattle.mdns_history.specs.declared.mark.Cause.{Cause}
use Rattle.mdns_history.specs.declared.mark.Cause.TheVariants as cause
use Rattle.mdns_history.specs.declared.mark.Mark.{Mark}
use Rattle.mdns_history.specs.declared.mark.Mark.TheVariants as mark
use Rattle.mdns_history.specs.declared.held.Held.{Held}
use Rattle.mdns_history.specs.declared.entry.Entry.{Entry}
use Rattle.mdns_history.specs.History.{has_mark, moment_if}
use Rattle.mdns_history.specs.Lifetimes.{is_live_at, is_uncut, live_records}
use Rattle.mdns_history.specs.Questions.{Active, begins_asking}
use Rattle.mdns_history.specs.Asking.{is_counted, is_asking, is_series_asking, series_moments, asking_moments, series_gap, series_due, next_in_series, refresh_points, fresh_matches, is_behind, calls_at, is_refresh_due, tick_cause, asked_mark, tick_askings}
use Rattle.mdns_question.specs.declared.tracked.Tracked.{Tracked}
use Rattle.mdns_question.specs.Contents.{Contents}
use Rattle.mdns_question.specs.Tracking.{active_of, longest_gap, begun, asked_at, fresh_of, is_refreshed, due_cause, due_with, due_at}
use Rattle.mdns_question.specs.Standing.{uses, IsTracked, Stands, mark_of}

-- the moments of a question behind an entry

series_step : (question : Key) (entry : Entry) (past : List Entry) (b c : Bool) → begins_asking question entry past ≡ b → has_mark (is_series_asking question) entry ≡ c →
    series_moments question (entry ∷ past) ≡ cond b [] (cons_option (moment_if c entry.moment) (series_moments question past))
unfolding series_moments
series_step question entry past b c e f = ap (λ x. cond x [] (cons_option (moment_if (has_mark (is_series_asking question) entry) entry.moment) (series_moments question past))) e
    ∙ ap (λ x. cond b [] (cons_option (moment_if x entry.moment) (series_moments question past))) f

asking_step : (question : Key) (entry : Entry) (past : List Entry) (b c : Bool) → begins_asking question entry past ≡ b → has_mark (is_asking question) entry ≡ c →
    asking_moments question (entry ∷ past) ≡ cond b [] (cons_option (moment_if c entry.moment) (asking_moments question past))
unfolding asking_moments
asking_step question entry past b c e f = ap (λ x. cond x [] (cons_option (moment_if (has_mark (is_asking question) entry) entry.moment) (asking_moments question past))) e
    ∙ ap (λ x. cond b [] (cons_option (moment_if x entry.moment) (asking_moments question past))) f

due_of : (active : Active) (history : List Entry) (moments : List ℕ) → series_moments active.key history ≡ moments → series_due active history ≡ next_in_series active moments
unfolding series_due
due_of active history moments e = ap (next_in_series active) e

-- an asking that counts is one
counts_not : (question : Key) (m : Mark) → is_asking question m ≡ false → is_series_asking question m ≡ false
counts_not question (mark.Asked key cause) h = ap (λ b. b && is_counted cause) h
counts_not question _ h = refl

none_counts : (question : Key) (marks : List Mark) → list_any (is_asking question) marks ≡ false → list_any (is_series_asking question) marks ≡ false
none_counts question [] h = refl
none_counts question (m ∷ marks) h = of (is_asking question m) refl h (none_counts question marks)
  where
    of : (b : Bool) → is_asking question m ≡ b → (b || list_any (is_asking question) marks) ≡ false → (list_any (is_asking question) marks ≡ false → list_any (is_series_asking question) marks ≡ false) →
        list_any (is_series_asking question) (m ∷ marks) ≡ false
    of true e k rest = absurd (cc)
    of false e k rest = ap (λ b. b || list_any (is_series_asking question) marks) (counts_not question m e) ∙ rest k

-- the gap doubles, up to an hour
gap_doubles : (k : ℕ) → min (2 * series_gap (suc k)) longest_gap ≡ series_gap (suc (suc k))
gap_doubles k = at (suc k - 1) (suc (suc k) - 1) (omega arith)
  where
    doubled : (x : ℕ) → min (2 * min (1000 * x) 3600000) 3600000 ≡ min (1000 * (x * 2)) 3600000
    doubled x = omega arith

    at : (m n : ℕ) → n ≡ suc m → min (2 * min (1000 * 2 ^ m) 3600000) 3600000 ≡ min (1000 * 2 ^ n) 3600000
    at m n e = doubled (2 ^ m) ∙ ap (λ x. min (1000 * x) 3600000) (sym (pow-suc 2 m)) ∙ ap (λ x. min (1000 * 2 ^ x) 3600000) (sym e)

pub begun_follows : (question : Key) (entry : Entry) (past : List Entry) → begins_asking question entry past ≡ true → uses question (entry ∷ past) ≡ 1 →
    IsTracked (entry ∷ past) (begun entry.moment entry.word question)
begun_follows question entry past begins once =
    let series : series_moments question (entry ∷ past) ≡ [] = series_step question entry past true _ begins refl in
    record {
      users = sym once;
      next = sym (due_of (active_of (begun entry.moment entry.word question)) (entry ∷ past) [] series);
      gap = sym (ap (λ l. series_gap (suc (length l))) series);
      last = sym (ap (take 1) (asking_step question entry past true _ begins refl));
    }

pub kept_follows : (one : Tracked) (entry : Entry) (past : List Entry) → IsTracked past one → begins_asking one.key entry past ≡ false → uses one.key (entry ∷ past) ≡ uses one.key past →
    has_mark (is_asking one.key) entry ≡ false → IsTracked (entry ∷ past) one
kept_follows one entry past is goes same none =
    let series : series_moments one.key (entry ∷ past) ≡ series_moments one.key past = series_step one.key entry past false false goes (none_counts one.key entry.marks none) in
    let askings : asking_moments one.key (entry ∷ past) ≡ asking_moments one.key past = asking_step one.key entry past false false goes none in
    record {
      users = is.users ∙ sym same;
      next = is.next ∙ due_of (active_of one) past (series_moments one.key past) refl ∙ sym (due_of (active_of one) (entry ∷ past) (series_moments one.key past) series);
      gap = is.gap ∙ sym (ap (λ l. series_gap (suc (length l))) series);
      last = is.last ∙ sym (ap (take 1) askings);
    }

pub asked_follows : (one : Tracked) (entry : Entry) (past : List Entry) (cause : Cause) → IsTracked past one → begins_asking one.key entry past ≡ false → uses one.key (entry ∷ past) ≡ uses one.key past →
    has_mark (is_asking one.key) entry ≡ true → has_mark (is_series_asking one.key) entry ≡ is_counted cause → IsTracked (entry ∷ past) (asked_at entry.moment cause one)
asked_follows one entry past why is goes same some counted = of (is_counted why) (series_step one.key entry past false (is_counted why) goes counted)
  where
    askings : asking_moments one.key (entry ∷ past) ≡ entry.moment ∷ asking_moments one.key past
    askings = asking_step one.key entry past false true goes some

    moments : List ℕ
    moments = series_moments one.key past

    of : (b : Bool) → series_moments one.key (entry ∷ past) ≡ cons_option (moment_if b entry.moment) moments →
        IsTracked (entry ∷ past) (cond b (record one { next = entry.moment + min one.gap longest_gap; gap = 2 * min one.gap longest_gap; last = Some entry.moment }) (record one { last = Some entry.moment }))
    of true series = record {
      users = is.users ∙ sym same;
      next = ap (λ n. entry.moment + n) is.gap ∙ sym (due_of (active_of one) (entry ∷ past) (entry.moment ∷ moments) series);
      gap = ap (λ n. min (2 * n) longest_gap) is.gap ∙ gap_doubles (length moments) ∙ sym (ap (λ l. series_gap (suc (length l))) series);
      last = sym (ap (take 1) askings);
    }
    of false series = record {
      users = is.users ∙ sym same;
      next = is.next ∙ due_of (active_of one) past moments refl ∙ sym (due_of (active_of one) (entry ∷ past) moments series);
      gap = is.gap ∙ sym (ap (λ l. series_gap (suc (length l))) series);
      last = sym (ap (take 1) askings);
    }

-- what is due is what a tick asks

any_given : {X Y : Type 0} (test : Y → Bool) (f : X → List Y) (p : X → Bool) (xs : List X) → list_any test (flat_map f (filter p xs)) ≡ list_any (λ x. p x && list_any test (f x)) xs
any_given test f p [] = refl
any_given {X = X} test f p (x ∷ xs) = of (p x) (any_given test f p xs)
  where
    of : (b : Bool) → list_any test (flat_map f (filter p xs)) ≡ list_any (λ y. p y && list_any test (f y)) xs →
        list_any test (flat_map f (cond b (x ∷ filter p xs) (filter p xs))) ≡ ((b && list_any test (f x)) || list_any (λ y. p y && list_any test (f y)) xs)
    of true ih = list_any-append test (f x) (flat_map f (filter p xs)) ∙ ap (λ r. list_any test (f x) || r) ih
    of false ih = ih

behind_first : (point : ℕ) (moments : List ℕ) → is_behind point (take 1 moments) ≡ is_behind point moments
behind_first point [] = refl
behind_first point (last ∷ earlier) = refl

calls_alike : (active : Active) (last moments : List ℕ) (moment : ℕ) → last ≡ take 1 moments → (point : ℕ) → calls_at active last moment point ≡ calls_at active moments moment point
calls_alike active last moments moment e point = ap (λ l. calls_at active l moment point) e ∙ ap (λ b. nat_le point moment && nat_lt active.start point && b) (behind_first point moments)

module _ (history : List Entry) (held : List Held) (moment : ℕ) (live : IsPermutation (filter (is_live_at moment) held) (live_records history moment)) where
  refreshed_alike : (one : Tracked) → IsTracked history one → is_refreshed held moment one ≡ is_refresh_due (active_of one) history moment
  unfolding is_refresh_due fresh_matches
  refreshed_alike one is =
      let alike = calls_alike (active_of one) (option_to_list one.last) (asking_moments one.key history) moment is.last in
      ap (λ (t : ℕ → Bool). list_any t (flat_map refresh_points (fresh_of one.key held moment))) (λ i point. alike point i)
      ∙ any_given (calls_at (active_of one) (asking_moments one.key history) moment) refresh_points (λ one_held. matches one.key one_held.rr && is_uncut one_held) (filter (is_live_at moment) held)
      ∙ list_any-IsPermutation (λ one_held. (matches one.key one_held.rr && is_uncut one_held) && list_any (calls_at (active_of one) (asking_moments one.key history) moment) (refresh_points one_held)) _ _ live
      ∙ sym (any_given (calls_at (active_of one) (asking_moments one.key history) moment) refresh_points (λ one_held. matches one.key one_held.rr && is_uncut one_held) (live_records history moment))

  cause_alike : (one : Tracked) → IsTracked history one → due_cause held moment one ≡ tick_cause history moment (active_of one)
  cause_alike one is =
      ap (λ n. cond (nat_le n moment) (Some cause.Series) (cond (is_refreshed held moment one) (Some cause.Refresh) None)) is.next
      ∙ ap (λ b. cond (nat_le (series_due (active_of one) history) moment) (Some cause.Series) (cond b (Some cause.Refresh) None)) (refreshed_alike one is)

  marks_alike : (questions : List Tracked) → AllByRecursion (IsTracked history) questions →
      map mark_of (filter_map (due_with held moment) questions) ≡ filter_map (λ active. asked_mark active (tick_cause history moment active)) (map active_of questions)
  marks_alike [] each = refl
  marks_alike (one ∷ questions) each = of (due_cause held moment one) (cause_alike one each.0) (marks_alike questions each.1)
    where
      marks : List Mark
      marks = filter_map (λ active. asked_mark active (tick_cause history moment active)) (map active_of questions)

      of : (o : Option Cause) → o ≡ tick_cause history moment (active_of one) → map mark_of (filter_map (due_with held moment) questions) ≡ marks →
          map mark_of (cons_option (option_map (λ why. (one.key, why)) o) (filter_map (due_with held moment) questions)) ≡ cons_option (asked_mark (active_of one) (tick_cause history moment (active_of one))) marks
      of None e ih = ih ∙ ap (λ o. cons_option (asked_mark (active_of one) o) marks) e
      of (Some why) e ih = ap (λ l. mark.Asked one.key why ∷ l) ih ∙ ap (λ o. cons_option (asked_mark (active_of one) o) marks) e

pub due_follows : (contents : Contents) (history : List Entry) (moment : ℕ) → Stands contents history → IsPermutation (filter (is_live_at moment) contents.held) (live_records history moment) →
    map mark_of (due_at contents moment) ≡ tick_askings history moment
unfolding tick_askings
due_follows contents history moment stands live =
    marks_alike history contents.held moment live contents.questions stands.each
    ∙ ap (λ l. filter_map (λ active. asked_mark active (tick_cause history moment active)) l) stands.questions
