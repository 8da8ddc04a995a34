-- Which sessions are attached behind an entry.
use Rattle.std.proofs.Common.{◌≡◌, ℕ, suc, ◌+◌, ◌<◌, ◌≤◌, ◌==◌, Bool, true, false, cond, not, ◌&&◌, List, [], ◌∷◌, ◌++◌, Option, Some, None, refl, ap, ◌∙◌, sym, arith}
use Rattle.std.specs.Prelude.{filter}
use Rattle.std.specs.Option.{option_or, unwrap_or, is_some}
use Rattle.lists.specs.Lists.{count_up}
use Rattle.mdns_history.specs.declared.event.Event.{Event}
use Rattle.mdns_history.specs.declared.event.Event.TheVariants as event
use Rattle.mdns_history.specs.declared.entry.Outcome.{Outcome}
use Rattle.mdns_history.specs.declared.entry.Outcome.TheVariants as outcome
use Rattle.mdns_history.specs.declared.entry.Entry.{Entry}
use Rattle.mdns_history.specs.History.{latest}
use Rattle.mdns_history.specs.InForce.{Duties}
use Rattle.mdns_history.specs.Sessions.{opened, opened_count, detached, is_number, attaching, is_attached, attached_sessions}
use Rattle.mdns_history.specs.Outcomes.{early_outcome}
use Rattle.mdns_history.specs.Fitting.{IsLegal}
use Rattle.mdns_history.proofs.CallFacts.{opened_next}
use Rattle.mdns_history.proofs.LegalReplay.{Holds, holds_from, count-late, attached-late}
use Rattle.sd_sessions.proofs.NumberLists.{has, has-filter, filter-same, filter-filter, filter-append, count_up-last, has-count_up, within-count_up, IsRising, IsRising-filter, IsRising-count_up}
use Rattle.sd_sessions.proofs.EntryParts.{marked, entry_after}

-- what holds of sessions in a legal history
pub holds_legal : (duties : Duties) (past : List Entry) → IsLegal duties past → Holds past
holds_legal duties [] legal = absurd legal
holds_legal duties (entry ∷ past) legal = holds_from duties entry past legal

-- an entry that opens a session detaches none
pub opens_alone : (e : Event) (past : List Entry) (k : ℕ) → opened (early_outcome e past) ≡ Some k → detached e (early_outcome e past) ≡ None
unfolding early_outcome
opens_alone (event.Boot config) past k h = refl
opens_alone event.Attach past k h = refl
opens_alone (event.Detach other) past k h = of (is_attached other past) h
  where
    of : (b : Bool) → opened (cond b outcome.Ended outcome.Closed) ≡ Some k → detached (event.Detach other) (cond b outcome.Ended outcome.Closed) ≡ None
    of true f = cc
    of false f = refl
opens_alone (event.Call other op request) past k h = refl
opens_alone (event.Hear from bytes) past k h = refl
opens_alone event.Tick past k h = refl
opens_alone (event.Take other max) past k h = refl

module _ (duties : Duties) (past : List Entry) (moment word : ℕ) (ev : Event) where
  abbrev early : Outcome
  early = early_outcome ev past

  abbrev noted_history : List Entry
  noted_history = marked duties past moment word ev ∷ past

  -- The whole entry opens and detaches as the noted one does.
  pub opened_count-next : opened_count (entry_after duties past moment word ev ∷ past) ≡ opened_count noted_history
  opened_count-next = count-late duties past moment word ev

  pub is_attached-next : (n : ℕ) → is_attached n (entry_after duties past moment word ev ∷ past) ≡ is_attached n noted_history
  unfolding is_attached
  is_attached-next n = attached-late duties past moment word ev n

  pub attached_sessions-next : attached_sessions (entry_after duties past moment word ev ∷ past) ≡ attached_sessions noted_history
  unfolding attached_sessions
  attached_sessions-next =
      ap (λ k. filter (λ n. is_attached n (entry_after duties past moment word ev ∷ past)) (count_up 1 k)) opened_count-next
      ∙ filter-same (λ n. is_attached n (entry_after duties past moment word ev ∷ past)) (λ n. is_attached n noted_history) (count_up 1 (opened_count noted_history)) (λ n h. is_attached-next n)

  -- A session is attached if it was just opened, and else if it was before and isn't detached.
  pub is_attached-step : (n : ℕ) → is_attached n noted_history ≡ cond (is_number n (opened early)) true (cond (is_number n (detached ev early)) false (is_attached n past))
  unfolding is_attached
  is_attached-step n = of (is_number n (opened early)) (is_number n (detached ev early))
    where
      of : (b c : Bool) → unwrap_or (option_or (cond b (Some true) (cond c (Some false) None)) (latest (attaching n) past)) false ≡ cond b true (cond c false (unwrap_or (latest (attaching n) past) false))
      of true c = refl
      of false true = refl
      of false false = refl

  -- the number of a session that is opened, and the count with it
  pub opened-number : (k : ℕ) → opened early ≡ Some k → k ≡ opened_count past + 1
  opened-number k e = opened_next ev past k (ap (is_number k) e ∙ itself)
    where
      itself : (k == k) ≡ true
      itself = grind arith

  pub opened_count-opened : (k : ℕ) → opened early ≡ Some k → opened_count noted_history ≡ k
  opened_count-opened k e = ap (λ o. cond (is_some o) (suc (opened_count past)) (opened_count past)) e ∙ (let number : k ≡ opened_count past + 1 = opened-number k e in omega arith)

  pub opened_count-kept : opened early ≡ None → opened_count noted_history ≡ opened_count past
  opened_count-kept e = ap (λ o. cond (is_some o) (suc (opened_count past)) (opened_count past)) e

  abbrev after_tests : ℕ → Option ℕ → Option ℕ → Bool
  after_tests n o d = cond (is_number n o) true (cond (is_number n d) false (is_attached n past))

  -- A session that is opened is the last of the attached ones.
  pub attached-opened : (k : ℕ) → opened early ≡ Some k → attached_sessions noted_history ≡ attached_sessions past ++ k ∷ []
  unfolding attached_sessions
  attached-opened k e =
      let number : k ≡ opened_count past + 1 = opened-number k e in
      let count : opened_count noted_history ≡ suc (opened_count past) = ap (λ o. cond (is_some o) (suc (opened_count past)) (opened_count past)) e in
      let itself : (k == k) ≡ true = grind arith in
      let now_attached : is_attached k noted_history ≡ true = is_attached-step k ∙ ap (λ o. after_tests k o (detached ev early)) e ∙ ap (λ b. cond b true (cond (is_number k (detached ev early)) false (is_attached k past))) itself in
      let last : 1 + opened_count past ≡ k = omega arith in
      ap (λ c. filter (λ n. is_attached n noted_history) (count_up 1 c)) count
      ∙ ap (filter (λ n. is_attached n noted_history)) (count_up-last 1 (opened_count past))
      ∙ filter-append (λ n. is_attached n noted_history) (count_up 1 (opened_count past)) ((1 + opened_count past) ∷ [])
      ∙ ap (λ m. filter (λ n. is_attached n noted_history) (count_up 1 (opened_count past)) ++ filter (λ n. is_attached n noted_history) (m ∷ [])) last
      ∙ ap (λ b. filter (λ n. is_attached n noted_history) (count_up 1 (opened_count past)) ++ cond b (k ∷ []) []) now_attached
      ∙ ap (λ ns. ns ++ k ∷ []) (filter-same (λ n. is_attached n noted_history) (λ n. is_attached n past) (count_up 1 (opened_count past)) earlier)
    where
      earlier : (n : ℕ) → has n (count_up 1 (opened_count past)) ≡ true → is_attached n noted_history ≡ is_attached n past
      earlier n h =
          let within : (1 ≤ n) × (n < 1 + opened_count past) = within-count_up n 1 (opened_count past) h in
          let number : k ≡ opened_count past + 1 = opened-number k e in
          let high : n < 1 + opened_count past = within.1 in
          let other : (k == n) ≡ false = grind arith in
          is_attached-step n ∙ ap (λ o. after_tests n o (detached ev early)) e ∙ ap (λ d. after_tests n (Some k) d) (opens_alone ev past k e)
          ∙ ap (λ b. cond b true (is_attached n past)) other

  -- A session that is detached is no more among them.
  pub attached-ended : (s : ℕ) → opened early ≡ None → detached ev early ≡ Some s → attached_sessions noted_history ≡ filter (λ n. not (n == s)) (attached_sessions past)
  unfolding attached_sessions
  attached-ended s e d =
      ap (λ c. filter (λ n. is_attached n noted_history) (count_up 1 c)) (opened_count-kept e)
      ∙ filter-same (λ n. is_attached n noted_history) (λ n. is_attached n past && not (n == s)) (count_up 1 (opened_count past)) (λ n h. each n)
      ∙ sym (filter-filter (λ n. not (n == s)) (λ n. is_attached n past) (count_up 1 (opened_count past)))
    where
      turned : (b c : Bool) → b ≡ c → (a : Bool) → cond b false a ≡ (a && not c)
      turned true true f true = refl
      turned true true f false = refl
      turned false false f true = refl
      turned false false f false = refl
      turned true false f a = cc
      turned false true f a = cc

      each : (n : ℕ) → is_attached n noted_history ≡ (is_attached n past && not (n == s))
      each n =
          let swapped : (s == n) ≡ (n == s) = grind arith in
          is_attached-step n ∙ ap (λ o. after_tests n o (detached ev early)) e ∙ ap (λ o. after_tests n None o) d ∙ turned (s == n) (n == s) swapped (is_attached n past)

  -- Every other entry leaves them.
  pub attached-kept : opened early ≡ None → detached ev early ≡ None → attached_sessions noted_history ≡ attached_sessions past
  unfolding attached_sessions
  attached-kept e d =
      ap (λ c. filter (λ n. is_attached n noted_history) (count_up 1 c)) (opened_count-kept e)
      ∙ filter-same (λ n. is_attached n noted_history) (λ n. is_attached n past) (count_up 1 (opened_count past))
      (λ n h. is_attached-step n ∙ ap (λ o. after_tests n o (detached ev early)) e ∙ ap (λ o. after_tests n None o) d)

-- The attached sessions rise strictly.
pub attached_sessions-rising : (history : List Entry) → IsRising (attached_sessions history)
unfolding attached_sessions
attached_sessions-rising history = IsRising-filter (λ n. is_attached n history) (count_up 1 (opened_count history)) (IsRising-count_up 1 (opened_count history))

-- A session is attached where its number is among those of the attached ones.
pub is_attached-has : (history : List Entry) → Holds history → (n : ℕ) → is_attached n history ≡ has n (attached_sessions history)
unfolding attached_sessions
is_attached-has history holds n = sym (has-filter n (λ m. is_attached m history) (count_up 1 (opened_count history)) ∙ of (is_attached n history) refl)
  where
    of : (b : Bool) → is_attached n history ≡ b → (b && has n (count_up 1 (opened_count history))) ≡ b
    of true e = let range : (1 ≤ n) × (n ≤ opened_count history) = holds.numbered n e in
        let low : 1 ≤ n = range.0 in let high : n ≤ opened_count history = range.1 in has-count_up n 1 (opened_count history) low (omega arith)
    of false e = refl
