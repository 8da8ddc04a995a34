-- The questions that are kept follow the history: what one more entry makes of them stands for the history with it.
use Rattle.std.proofs.Common.{◌≡◌, ℕ, zero, suc, ◌+◌, ◌<◌, ◌≤◌, Bool, true, false, cond, ◌&&◌, List, [], ◌∷◌, map, take, length, Option, Some, None, refl, ap, ◌∙◌, sym, subst, arith}
use Rattle.std.specs.Prelude.{nat_lt}
use Rattle.std.specs.List.{list_any, find, filter_map, cons_option}
use Rattle.std.specs.Option.{option_map, option_map_or, option_and_then, option_or, is_some}
use Rattle.dns_record.specs.declared.record.Key.{Key}
use Rattle.dns_record.specs.Records.{key_eq}
use Rattle.mdns_history.specs.declared.event.Event.{Event}
use Rattle.mdns_history.specs.declared.event.Event.TheVariants as event
use Rattle.mdns_history.specs.declared.mark.Cause.{Cause}
use Rattle.mdns_history.specs.declared.held.Held.{Held}
use Rattle.mdns_history.specs.declared.entry.Entry.{Entry}
use Rattle.mdns_history.specs.declared.entry.Outcome.{Outcome}
use Rattle.mdns_history.specs.History.{has_mark, last_at, moment_if}
use Rattle.mdns_history.specs.Sessions.{Accepted, accepted_call, accepted_in}
use Rattle.mdns_history.specs.Questions.{Active, keys_of, is_active, begins_asking, active_from, begun_with, active_questions}
use Rattle.mdns_history.specs.Asking.{is_counted, is_asking, is_series_asking, series_moments, asking_moments, series_gap, series_due, next_in_series}
use Rattle.mdns_history.specs.Outcomes.{early_outcome}
use Rattle.mdns_history.specs.Fitting.{IsLegal}
use Rattle.mdns_history.specs.InForce.{Duties}
use Rattle.mdns_question.specs.declared.tracked.Tracked.{Tracked}
use Rattle.mdns_question.specs.Tracking.{active_of, begun, one_more, asked_at}
use Rattle.mdns_question.specs.Standing.{uses, IsTracked}
use Rattle.mdns_question.specs.Standing as asking
use Rattle.mdns_question.proofs.Following.{begun_follows, kept_follows, asked_follows}
use Rattle.mdns_asking.specs.State.{asker_of}
use Rattle.sd_sessions.specs.Sessions.{Session, sessions_in}
use Rattle.mdns_asking.specs.Asked.{begun_keys, ended_keys, all_begun, all_ended, all_asked, questions_told, questions_after}
use Rattle.mdns_asking.proofs.KeyLists.{IsStrict, looked, looked_found, looked_same, same_looked, all_looked, found_holds, strict_map, strict_unmap, looked_map}
pub use Rattle.mdns_asking.proofs.KeyUses.{IsMove}
use Rattle.mdns_asking.proofs.KeyUses.{times, uses-next}
use Rattle.mdns_asking.proofs.FewUses.{none_once, once, counts_one_more}
use Rattle.mdns_asking.proofs.ActiveKeys.{key_in, strict_active, looked_active, active_used, same_uses, goes_on, begins, begun_found, found_counted, found_passes, active_begun}
use Rattle.mdns_asking.proofs.TrackedKeys as kept
pub use Rattle.mdns_asking.proofs.TrackedKeys.{chosen}
use Rattle.mdns_asking.proofs.TrackedKeys.{after_begun, after_ended, with_users, all_noted}

-- whether an event may ask questions: a tick, or a packet that is heard
abbrev pub may_ask : Event → Bool
may_ask (event.Hear from bytes) = true
may_ask event.Tick = true
may_ask _ = false

-- An entry is such a move at a moment, with a word, and its marks of askings are those of these questions.
pub record Asks (past : List Entry) (moment word : ℕ) (ev : Event) (asked : List (Key × Cause)) (entry : Entry) : Type 0 where
  pub move : IsMove past ev entry
  pub time : entry.moment ≡ moment
  pub drawn : entry.word ≡ word
  pub marks : (key : Key) → has_mark (is_asking key) entry ≡ list_any (λ due. key_eq key due.0) asked
  pub series : (key : Key) → has_mark (is_series_asking key) entry ≡ list_any (λ due. key_eq key due.0 && is_counted due.1) asked

-- Questions are chosen among those that are kept, by an event that may ask.
pub record IsChosen (tracked : List Tracked) (ev : Event) (asked : List (Key × Cause)) : Type 0 where
  pub choose : Tracked → Option Cause
  pub among : asked ≡ filter_map (chosen choose) tracked
  pub quiet : may_ask ev ≡ false → asked ≡ []

once_called : (q : Key) (call : Option Accepted) → times q (begun_keys call) ≤ 1
once_called q None = none_once q
once_called q (Some call) = once q call.request

-- What is kept of a question is as a history says: one that is used was begun so, and is tracked.
pub record IsFound (history : List Entry) (q : Key) (one : Tracked) : Type 0 where
  pub tracked : IsTracked history one
  pub same : key_eq q one.key ≡ true
  pub begun : last_at (begun_with q) history ≡ Some (active_of one)
  pub used : 0 < uses q history

abbrev IsAt : List Entry → Key → Option Tracked → Type 0
IsAt history q None = uses q history ≡ 0
IsAt history q (Some one) = IsFound history q one

used_none : (n : ℕ) → nat_lt 0 n ≡ false → n ≡ 0
used_none n h = grind arith

used_some : (n : ℕ) → nat_lt 0 n ≡ true → 0 < n
used_some n h = grind arith

some_used : (n : ℕ) → 0 < n → nat_lt 0 n ≡ true
some_used n h = grind arith

none_used : (n : ℕ) → n ≡ 0 → nat_lt 0 n ≡ false
none_used n h = grind arith

-- Questions stand for a history exactly where each is as it says.
strict_stands : (past : List Entry) (tracked : List Tracked) (held : List Held) → asking.Stands (asker_of tracked held) past → IsStrict kept.key_of tracked
strict_stands past tracked held stands =
    strict_unmap key_in active_of tracked (subst (λ l. IsStrict key_in l) (sym stands.questions) (strict_active past))

stands_at : (duties : Duties) (past : List Entry) → IsLegal duties past → (tracked : List Tracked) (held : List Held) → asking.Stands (asker_of tracked held) past → (q : Key) → IsAt past q (looked kept.key_of q tracked)
stands_at duties past legal tracked held stands q = of (is_active q past) refl (looked kept.key_of q tracked) refl active
  where
    active : option_map active_of (looked kept.key_of q tracked) ≡ cond (is_active q past) (last_at (begun_with q) past) None
    active = sym (looked_map key_in active_of q tracked) ∙ ap (looked key_in q) stands.questions ∙ looked_active q past

    of : (b : Bool) → is_active q past ≡ b → (o : Option Tracked) → looked kept.key_of q tracked ≡ o → option_map active_of o ≡ cond b (last_at (begun_with q) past) None → IsAt past q o
    of true e None f h =
        let some : is_some (last_at (begun_with q) past) ≡ true = active_begun duties past legal q e in
        let none : false ≡ is_some (last_at (begun_with q) past) = ap is_some h in absurd (cc)
    of false e None f h = used_none (uses q past) (sym (active_used q past) ∙ e)
    of true e (Some one) f h = record {
      tracked = found_holds kept.key_of (IsTracked past) q tracked one stands.each f;
      same = looked_found kept.key_of q tracked one f;
      begun = sym h;
      used = used_some (uses q past) (sym (active_used q past) ∙ e);
    }
    of false e (Some one) f h = absurd (cc)

at_stands : (history : List Entry) (tracked : List Tracked) (held : List Held) → IsStrict kept.key_of tracked → ((q : Key) → IsAt history q (looked kept.key_of q tracked)) →
    asking.Stands (asker_of tracked held) history
at_stands history tracked held strict at = record {
  questions =
      same_looked key_in (map active_of tracked) (active_questions history) (strict_map key_in active_of tracked strict) (strict_active history)
      (λ q. looked_map key_in active_of q tracked ∙ of q (looked kept.key_of q tracked) (at q) ∙ sym (looked_active q history));
  each = all_looked kept.key_of (IsTracked history) tracked strict (λ q one h. let found : IsFound history q one = subst (λ o. IsAt history q o) h (at q) in found.tracked);
}
  where
    of : (q : Key) (o : Option Tracked) → IsAt history q o → option_map active_of o ≡ cond (is_active q history) (last_at (begun_with q) history) None
    of q None h = sym (ap (λ b. cond b (last_at (begun_with q) history) None) (active_used q history ∙ none_used (uses q history) h))
    of q (Some one) found = sym (ap (λ b. cond b (last_at (begun_with q) history) None) (active_used q history ∙ some_used (uses q history) found.used) ∙ found.begun)

-- a question that doesn't begin with an entry
not_begun : (q : Key) (entry : Entry) (past : List Entry) → begins_asking q entry past ≡ false → last_at (begun_with q) (entry ∷ past) ≡ last_at (begun_with q) past
not_begun q entry past h =
    ap (λ b. option_or (cond b (option_map (active_from entry) (option_and_then (λ call. find (key_eq q) (keys_of call.request)) (accepted_in entry))) None) (last_at (begun_with q) past)) h

series_goes : (q : Key) (entry : Entry) (past : List Entry) → begins_asking q entry past ≡ false → has_mark (is_series_asking q) entry ≡ false → series_moments q (entry ∷ past) ≡ series_moments q past
unfolding series_moments
series_goes q entry past goes none =
    ap (λ b. cond b [] (cons_option (moment_if (has_mark (is_series_asking q) entry) entry.moment) (series_moments q past))) goes
    ∙ ap (λ b. cons_option (moment_if b entry.moment) (series_moments q past)) none

askings_go : (q : Key) (entry : Entry) (past : List Entry) → begins_asking q entry past ≡ false → has_mark (is_asking q) entry ≡ false → asking_moments q (entry ∷ past) ≡ asking_moments q past
unfolding asking_moments
askings_go q entry past goes none =
    ap (λ b. cond b [] (cons_option (moment_if (has_mark (is_asking q) entry) entry.moment) (asking_moments q past))) goes
    ∙ ap (λ b. cons_option (moment_if b entry.moment) (asking_moments q past)) none

due_goes : (active : Active) (entry : Entry) (past : List Entry) → series_moments active.key (entry ∷ past) ≡ series_moments active.key past → series_due active (entry ∷ past) ≡ series_due active past
unfolding series_due
due_goes active entry past e = ap (next_in_series active) e

-- one that isn't asked, whose users may change
users_follow : (one : Tracked) (entry : Entry) (past : List Entry) → IsTracked past one → begins_asking one.key entry past ≡ false → has_mark (is_asking one.key) entry ≡ false → has_mark (is_series_asking one.key) entry ≡ false →
    IsTracked (entry ∷ past) (with_users (uses one.key (entry ∷ past)) one)
users_follow one entry past is goes none uncounted =
    let series : series_moments one.key (entry ∷ past) ≡ series_moments one.key past = series_goes one.key entry past goes uncounted in
    record {
      users = refl;
      next = is.next ∙ sym (due_goes (active_of one) entry past series);
      gap = is.gap ∙ sym (ap (λ l. series_gap (suc (length l))) series);
      last = is.last ∙ sym (ap (take 1) (askings_go one.key entry past goes none));
    }

-- an entry that asks nothing, but may give and take users
module _ (duties : Duties) (past : List Entry) (legal : IsLegal duties past) (ev : Event) (entry : Entry) (move : IsMove past ev entry)
    (quiet : (key : Key) → has_mark (is_asking key) entry ≡ false) (uncounted : (key : Key) → has_mark (is_series_asking key) entry ≡ false) where
  abbrev given : List Key
  given = begun_keys (accepted_call ev (early_outcome ev past))

  abbrev taken : List Key
  taken = ended_keys ev (early_outcome ev past) (sessions_in past)

  balance : (q : Key) → uses q (entry ∷ past) + times q taken ≡ uses q past + times q given
  balance q = uses-next duties past legal ev entry move q

  abbrev moved : Key → Option Tracked → Option Tracked
  moved q o = after_ended taken (after_begun entry.moment entry.word q given o)

  -- a question that wasn't used
  begun_at : (q k : Key) → uses q past ≡ 0 → find (key_eq q) given ≡ Some k → 0 < uses q (entry ∷ past) → uses q (entry ∷ past) ≡ 1 →
      IsFound (entry ∷ past) q (with_users (uses q (entry ∷ past)) (begun entry.moment entry.word k))
  begun_at q k none found used one =
      let same : key_eq q k ≡ true = found_passes (key_eq q) given k found in
      let one_k : uses k (entry ∷ past) ≡ 1 = sym (same_uses q k same (entry ∷ past)) ∙ one in
      let none_k : uses k past ≡ 0 = sym (same_uses q k same past) ∙ none in
      let used_k : 0 < uses k (entry ∷ past) = subst (λ n. 0 < n) (same_uses q k same (entry ∷ past)) used in
      record {
        tracked = subst (λ n. IsTracked (entry ∷ past) (with_users n (begun entry.moment entry.word k))) (sym one) (begun_follows k entry past (begins k entry past none_k used_k) one_k);
        same = same;
        begun = ap (λ o. option_or o (last_at (begun_with q) past))
            (begun_found q entry past k (begins q entry past none used) (ap (λ call. find (key_eq q) (begun_keys call)) move.accepts ∙ found));
        used = used;
      }

  new_at : (q : Key) → uses q past ≡ 0 → IsAt (entry ∷ past) q (moved q None)
  new_at q none = of (times q given) refl (balance q) (once_called q (accepted_call ev (early_outcome ev past)))
    where
      left : (n : ℕ) (k : Key) → uses q (entry ∷ past) ≡ n → n ≤ 1 → find (key_eq q) given ≡ Some k → (b : Bool) → nat_lt 0 n ≡ b → IsAt (entry ∷ past) q (cond b (Some (with_users n (begun entry.moment entry.word k))) None)
      left n k e few found true f =
          let positive : 0 < n = used_some n f in
          let one : n ≡ 1 = omega arith in
          subst (λ m. IsFound (entry ∷ past) q (with_users m (begun entry.moment entry.word k))) e
          (begun_at q k none found (subst (λ m. 0 < m) (sym e) positive) (e ∙ one))
      left n k e few found false f = e ∙ used_none n f

      of : (n : ℕ) → times q given ≡ n → uses q (entry ∷ past) + times q taken ≡ uses q past + times q given → times q given ≤ 1 → IsAt (entry ∷ past) q (moved q None)
      of zero e sum few =
          let gone : uses q (entry ∷ past) ≡ 0 = omega arith in
          subst (λ o. IsAt (entry ∷ past) q o) (sym (ap (after_ended taken) (kept.begun_none entry.moment entry.word q given None e) ∙ kept.ended_none taken)) gone
      of (suc zero) e sum few =
          let some : 0 < times q given = omega arith in
          let found = found_counted q given some in
          let total : uses q (entry ∷ past) + times q taken ≡ 1 = omega arith in
          let most : uses q (entry ∷ past) ≤ 1 = omega arith in
          let fresh : 0 < 1 = omega arith in
          subst (λ o. IsAt (entry ∷ past) q o)
          (sym (ap (after_ended taken) (kept.begun_once entry.moment entry.word q given None found.0 e found.1)
          ∙ kept.ended_left q taken (begun entry.moment entry.word found.0) (found_passes (key_eq q) given found.0 found.1) fresh (uses q (entry ∷ past)) total))
          (left (uses q (entry ∷ past)) found.0 refl most found.1 (nat_lt 0 (uses q (entry ∷ past))) refl)
      of (suc (suc n)) e sum few = let no : ⊥ = omega arith in absurd no

  -- one that was used
  stayed_at : (q : Key) (one : Tracked) → IsFound past q one → 0 < uses q (entry ∷ past) → IsFound (entry ∷ past) q (with_users (uses q (entry ∷ past)) one)
  stayed_at q one found used =
      let here : 0 < uses one.key past = subst (λ n. 0 < n) (same_uses q one.key found.same past) found.used in
      record {
        tracked = subst (λ n. IsTracked (entry ∷ past) (with_users n one)) (sym (same_uses q one.key found.same (entry ∷ past)))
            (users_follow one entry past found.tracked (goes_on one.key entry past here) (quiet one.key) (uncounted one.key));
        same = found.same;
        begun = not_begun q entry past (goes_on q entry past found.used) ∙ found.begun;
        used = used;
      }

  old_at : (q : Key) (one : Tracked) → IsFound past q one → IsAt (entry ∷ past) q (moved q (Some one))
  old_at q one found = of (times q given) refl (balance q) (once_called q (accepted_call ev (early_outcome ev past))) ((found.tracked).users ∙ sym (same_uses q one.key found.same past))
    where
      left : (n : ℕ) → uses q (entry ∷ past) ≡ n → (b : Bool) → nat_lt 0 n ≡ b → IsAt (entry ∷ past) q (cond b (Some (with_users n one)) None)
      left n e true f = subst (λ m. IsFound (entry ∷ past) q (with_users m one)) e (stayed_at q one found (subst (λ m. 0 < m) (sym e) (used_some n f)))
      left n e false f = e ∙ used_none n f

      ends : (n : ℕ) → 0 < n → uses q (entry ∷ past) + times q taken ≡ n → IsAt (entry ∷ past) q (after_ended taken (Some (with_users n one)))
      ends n some sum =
          subst (λ o. IsAt (entry ∷ past) q o) (sym (kept.ended_left q taken (with_users n one) found.same some (uses q (entry ∷ past)) sum))
          (left (uses q (entry ∷ past)) refl (nat_lt 0 (uses q (entry ∷ past))) refl)

      positive : one.users ≡ uses q past → 0 < one.users
      positive u = subst (λ n. 0 < n) (sym u) found.used

      of : (n : ℕ) → times q given ≡ n → uses q (entry ∷ past) + times q taken ≡ uses q past + times q given → times q given ≤ 1 → one.users ≡ uses q past → IsAt (entry ∷ past) q (moved q (Some one))
      of zero e sum few u =
          subst (λ o. IsAt (entry ∷ past) q (after_ended taken o)) (sym (kept.begun_none entry.moment entry.word q given (Some one) e)) (ends one.users (positive u) (omega arith))
      of (suc zero) e sum few u =
          let some : 0 < times q given = omega arith in
          let key = found_counted q given some in
          let more : one_more one.users ≡ one.users + 1 = counts_one_more duties past legal q one.users u in
          subst (λ o. IsAt (entry ∷ past) q (after_ended taken o)) (sym (kept.begun_once entry.moment entry.word q given (Some one) key.0 e key.1)) (ends (one_more one.users) (omega (arith, more)) (omega (arith, more, sum, u, e)))
      of (suc (suc n)) e sum few u = let no : ⊥ = omega arith in absurd no

  moved_at : (q : Key) (o : Option Tracked) → IsAt past q o → IsAt (entry ∷ past) q (moved q o)
  moved_at q None none = new_at q none
  moved_at q (Some one) found = old_at q one found

  -- What it makes of the questions stands for the history with it.
  moved_stands : (tracked : List Tracked) (held later : List Held) → asking.Stands (asker_of tracked held) past → asking.Stands (asker_of (all_ended taken (all_begun entry.moment entry.word given tracked)) later) (entry ∷ past)
  moved_stands tracked held later stands =
      let strict : IsStrict kept.key_of tracked = strict_stands past tracked held stands in
      let strict_given : IsStrict kept.key_of (all_begun entry.moment entry.word given tracked) = kept.strict_begun entry.moment entry.word given tracked strict in
      at_stands (entry ∷ past) (all_ended taken (all_begun entry.moment entry.word given tracked)) later (kept.strict_ended taken (all_begun entry.moment entry.word given tracked) strict_given)
      (λ q. subst (λ o. IsAt (entry ∷ past) q o)
      (sym (kept.looked_ended taken (all_begun entry.moment entry.word given tracked) strict_given q ∙ ap (after_ended taken) (kept.looked_begun entry.moment entry.word given tracked q)))
      (moved_at q (looked kept.key_of q tracked) (stands_at duties past legal tracked held stands q)))

-- an entry that asks, and leaves the users
module _ (duties : Duties) (past : List Entry) (legal : IsLegal duties past) (entry : Entry) (stay : (q : Key) → uses q (entry ∷ past) ≡ uses q past) (tracked : List Tracked) (held later : List Held)
    (stands : asking.Stands (asker_of tracked held) past) (choose : Tracked → Option Cause)
    (marks : (key : Key) → has_mark (is_asking key) entry ≡ list_any (λ (due : Key × Cause). key_eq key due.0) (filter_map (chosen choose) tracked))
    (series : (key : Key) → has_mark (is_series_asking key) entry ≡ list_any (λ (due : Key × Cause). key_eq key due.0 && is_counted due.1) (filter_map (chosen choose) tracked)) where
  abbrev dues : List (Key × Cause)
  dues = filter_map (chosen choose) tracked

  strict_here : IsStrict kept.key_of tracked
  strict_here = strict_stands past tracked held stands

  noted_at : (q : Key) (one : Tracked) → looked kept.key_of q tracked ≡ Some one → IsFound past q one → IsFound (entry ∷ past) q (all_noted entry.moment dues one)
  noted_at q one there found =
      subst (λ x. IsFound (entry ∷ past) q x) (sym (kept.noted-chosen choose entry.moment tracked one strict_here here))
      (of (choose one) (marks one.key ∙ kept.asked-chosen choose tracked one strict_here here) (series one.key ∙ kept.counted-chosen choose tracked one strict_here here))
    where
      here : looked kept.key_of one.key tracked ≡ Some one
      here = sym (looked_same kept.key_of q one.key tracked found.same) ∙ there

      used_here : 0 < uses one.key past
      used_here = subst (λ n. 0 < n) (same_uses q one.key found.same past) found.used

      begun_here : last_at (begun_with q) (entry ∷ past) ≡ Some (active_of one)
      begun_here = not_begun q entry past (goes_on q entry past found.used) ∙ found.begun

      used_still : 0 < uses q (entry ∷ past)
      used_still = subst (λ n. 0 < n) (sym (stay q)) found.used

      of : (o : Option Cause) → has_mark (is_asking one.key) entry ≡ is_some o → has_mark (is_series_asking one.key) entry ≡ option_map_or is_counted o false →
          IsFound (entry ∷ past) q (option_map_or (λ why. asked_at entry.moment why one) o one)
      of None m s = record {
        tracked = kept_follows one entry past found.tracked (goes_on one.key entry past used_here) (stay one.key) m;
        same = found.same;
        begun = begun_here;
        used = used_still;
      }
      of (Some why) m s = record {
        tracked = asked_follows one entry past why found.tracked (goes_on one.key entry past used_here) (stay one.key) m s;
        same = ap (key_eq q) (kept.asked_key entry.moment why one) ∙ found.same;
        begun = begun_here ∙ ap Some (sym (kept.asked_active entry.moment why one));
        used = used_still;
      }

  asked_stands : asking.Stands (asker_of (all_asked entry.moment dues tracked) later) (entry ∷ past)
  asked_stands =
      at_stands (entry ∷ past) (all_asked entry.moment dues tracked) later (kept.strict_asked entry.moment dues tracked strict_here)
      (λ q. subst (λ o. IsAt (entry ∷ past) q o) (sym (kept.looked_asked entry.moment dues tracked q)) (of q (looked kept.key_of q tracked) refl (stands_at duties past legal tracked held stands q)))
    where
      of : (q : Key) (o : Option Tracked) → looked kept.key_of q tracked ≡ o → IsAt past q o → IsAt (entry ∷ past) q (option_map (all_noted entry.moment dues) o)
      of q None there none = stay q ∙ none
      of q (Some one) there found = noted_at q one there found

-- an event that may ask gives and takes no users
silent : (ev : Event) (o : Outcome) (sessions : List Session) → may_ask ev ≡ true → (begun_keys (accepted_call ev o) ≡ []) × (ended_keys ev o sessions ≡ [])
silent (event.Boot config) o sessions h = absurd (cc)
silent event.Attach o sessions h = absurd (cc)
silent (event.Detach session) o sessions h = absurd (cc)
silent (event.Call session op r) o sessions h = absurd (cc)
silent (event.Hear from bytes) o sessions h = (refl, refl)
silent event.Tick o sessions h = (refl, refl)
silent (event.Take session max) o sessions h = absurd (cc)

questions_after-is : (sessions : List Session) (moment word : ℕ) (ev : Event) (o : Outcome) (asked : List (Key × Cause)) (tracked : List Tracked) →
    questions_after sessions moment word ev o asked tracked ≡ all_asked moment asked (all_ended (ended_keys ev o sessions) (all_begun moment word (begun_keys (accepted_call ev o)) tracked))
unfolding questions_told
questions_after-is sessions moment word ev o asked tracked = refl

askings-at : (duties : Duties) (past : List Entry) → IsLegal duties past → (tracked : List Tracked) (held later : List Held) → asking.Stands (asker_of tracked held) past →
    (ev : Event) (asked : List (Key × Cause)) (entry : Entry) → IsChosen tracked ev asked → IsMove past ev entry →
    ((key : Key) → has_mark (is_asking key) entry ≡ list_any (λ (due : Key × Cause). key_eq key due.0) asked) →
    ((key : Key) → has_mark (is_series_asking key) entry ≡ list_any (λ (due : Key × Cause). key_eq key due.0 && is_counted due.1) asked) →
    asking.Stands (asker_of (questions_after (sessions_in past) entry.moment entry.word ev (early_outcome ev past) asked tracked) later) (entry ∷ past)
askings-at duties past legal tracked held later stands ev asked entry choice move marks series =
    subst (λ l. asking.Stands (asker_of l later) (entry ∷ past)) (sym (questions_after-is (sessions_in past) entry.moment entry.word ev (early_outcome ev past) asked tracked)) (of (may_ask ev) refl)
  where
    stays : may_ask ev ≡ true → (q : Key) → uses q (entry ∷ past) ≡ uses q past
    stays e q =
        let none = silent ev (early_outcome ev past) (sessions_in past) e in
        even (uses q (entry ∷ past)) (uses q past) _ _ (ap (times q) none.1) (ap (times q) none.0) (uses-next duties past legal ev entry move q)
      where
        even : (n m d b : ℕ) → d ≡ 0 → b ≡ 0 → n + d ≡ m + b → n ≡ m
        even n m d b e f h = omega arith

    of : (b : Bool) → may_ask ev ≡ b → asking.Stands (asker_of (all_asked entry.moment asked (all_ended (ended_keys ev (early_outcome ev past) (sessions_in past)) (all_begun entry.moment entry.word (begun_keys (accepted_call ev (early_outcome ev past))) tracked))) later) (entry ∷ past)
    of true e =
        let none = silent ev (early_outcome ev past) (sessions_in past) e in
        subst (λ ks. asking.Stands (asker_of (all_asked entry.moment asked (all_ended ks (all_begun entry.moment entry.word (begun_keys (accepted_call ev (early_outcome ev past))) tracked))) later) (entry ∷ past)) (sym none.1)
        (subst (λ ks. asking.Stands (asker_of (all_asked entry.moment asked (all_begun entry.moment entry.word ks tracked)) later) (entry ∷ past)) (sym none.0)
        (subst (λ l. asking.Stands (asker_of (all_asked entry.moment l tracked) later) (entry ∷ past)) (sym choice.among)
        (asked_stands duties past legal entry (stays e) tracked held later stands choice.choose
        (λ key. marks key ∙ ap (λ l. list_any (λ (due : Key × Cause). key_eq key due.0) l) choice.among)
        (λ key. series key ∙ ap (λ l. list_any (λ (due : Key × Cause). key_eq key due.0 && is_counted due.1) l) choice.among))))
    of false e =
        subst (λ l. asking.Stands (asker_of (all_asked entry.moment l (all_ended (ended_keys ev (early_outcome ev past) (sessions_in past)) (all_begun entry.moment entry.word (begun_keys (accepted_call ev (early_outcome ev past))) tracked))) later) (entry ∷ past)) (sym (choice.quiet e))
        (moved_stands duties past legal ev entry move
        (λ key. marks key ∙ ap (λ l. list_any (λ (due : Key × Cause). key_eq key due.0) l) (choice.quiet e))
        (λ key. series key ∙ ap (λ l. list_any (λ (due : Key × Cause). key_eq key due.0 && is_counted due.1) l) (choice.quiet e))
        tracked held later stands)

-- What an entry makes of the questions that stand for a legal history stands for the history with it.
pub askings-next : (duties : Duties) (past : List Entry) → IsLegal duties past → (tracked : List Tracked) (held later : List Held) → asking.Stands (asker_of tracked held) past →
    (moment word : ℕ) (ev : Event) (asked : List (Key × Cause)) (entry : Entry) → IsChosen tracked ev asked → Asks past moment word ev asked entry →
    asking.Stands (asker_of (questions_after (sessions_in past) moment word ev (early_outcome ev past) asked tracked) later) (entry ∷ past)
askings-next duties past legal tracked held later stands moment word ev asked entry choice asks =
    subst (λ n. asking.Stands (asker_of (questions_after (sessions_in past) n word ev (early_outcome ev past) asked tracked) later) (entry ∷ past)) asks.time
    (subst (λ w. asking.Stands (asker_of (questions_after (sessions_in past) entry.moment w ev (early_outcome ev past) asked tracked) later) (entry ∷ past)) asks.drawn
    (askings-at duties past legal tracked held later stands ev asked entry choice asks.move asks.marks asks.series))
