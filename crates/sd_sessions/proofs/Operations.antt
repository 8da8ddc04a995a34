-- The operations of sessions behind an entry, and that their numbers rise.
use Rattle.std.proofs.Common.{◌≡◌, ℕ, ℤ, ◌==◌, Bool, true, false, cond, ◌&&◌, List, [], ◌∷◌, None, refl, ap, subst, ◌∙◌, sym, arith}
use Rattle.std.specs.List.{find}
use Rattle.std.specs.Ordering.{int_eq}
use Rattle.lists.specs.Lists.{count_up}
use Rattle.sd_call.specs.declared.request.Request.{Request}
use Rattle.sd_call.specs.declared.request.Request.TheVariants as request
use Rattle.sd_call.specs.Requests.{no_error, is_start}
use Rattle.sd_call.proofs.ReplayRuns.{AreApart}
use Rattle.mdns_history.specs.declared.config.Config.{Config}
use Rattle.mdns_history.specs.declared.event.Event.{Event}
use Rattle.mdns_history.specs.declared.event.Event.TheVariants as event
use Rattle.mdns_history.specs.declared.entry.Outcome.{Outcome}
use Rattle.mdns_history.specs.declared.entry.Outcome.TheVariants as outcome
use Rattle.mdns_history.specs.declared.entry.Entry.{Entry}
use Rattle.mdns_history.specs.InForce.{Duties}
use Rattle.mdns_history.specs.declared.operation.Operation.{Operation}
use Rattle.mdns_history.specs.Sessions.{has_op, opened, opened_count, detached, is_number, is_attached, attached_sessions, accepted_call, after_call, operations_of}
use Rattle.mdns_history.specs.Fitting.{boot_entry, IsLegalFrom, IsLegal}
use Rattle.mdns_history.proofs.ReplySteps.{number}
use Rattle.mdns_history.proofs.EntryReplay.{operations_of-kept}
use Rattle.mdns_history.proofs.LegalReplay.{operations-late, opened_undetached, new_number}
pub use Rattle.sd_operations.specs.Operations.{AreRising}
use Rattle.sd_operations.proofs.Rising.{rising_request}
use Rattle.sd_sessions.proofs.NumberLists.{has, has-filter}
use Rattle.sd_sessions.proofs.EntryParts.{marked, entry_after}
use Rattle.sd_sessions.proofs.Attached.{holds_legal, is_attached-step}
use Rattle.mdns_history.specs.Outcomes.{early_outcome, late_outcome}
use Rattle.sd_sessions.proofs.Shape.{attached}

-- the call that is accepted is known before a take's outcome
pub accepted-late : (ev : Event) (early : Outcome) (history : List Entry) → accepted_call ev (late_outcome ev early history) ≡ accepted_call ev early
accepted-late (event.Boot config) early history = refl
accepted-late event.Attach early history = refl
accepted-late (event.Detach session) early history = refl
accepted-late (event.Call session op r) early history = refl
accepted-late (event.Hear from bytes) early history = refl
accepted-late event.Tick early history = refl
accepted-late (event.Take session max) early history = refl

rising_call : (session : ℕ) (e : Event) (o : Outcome) (before : List Operation) → AreRising before →
    ((op : ℕ) (r : Request) (code : ℤ) → e ≡ event.Call session op r → o ≡ outcome.Code code → int_eq code no_error ≡ true → is_start r ≡ true → find (has_op op) before ≡ None) →
    AreRising (after_call session (accepted_call e o) before)
rising_call session (event.Call s op r) (outcome.Code code) before rising new = of (s == session) refl (int_eq code no_error) refl
  where
    of : (b : Bool) → (s == session) ≡ b → (z : Bool) → int_eq code no_error ≡ z → AreRising (after_call session (accepted_call (event.Call s op r) (outcome.Code code)) before)
    of true e true z = let here : s ≡ session = grind arith in
        rw (z, e) (rising_request session op r before rising (new op r code (ap (λ n. event.Call n op r) here) refl z))
    of true e false z = rw z rising
    of false e true z = rw (z, e) rising
    of false e false z = rw z rising
rising_call session (event.Call s op r) outcome.Done before rising new = rising
rising_call session (event.Call s op r) (outcome.Opened n) before rising new = rising
rising_call session (event.Call s op r) outcome.Full before rising new = rising
rising_call session (event.Call s op r) outcome.Ended before rising new = rising
rising_call session (event.Call s op r) outcome.Closed before rising new = rising
rising_call session (event.Call s op r) outcome.Cut before rising new = rising
rising_call session (event.Call s op r) (outcome.Items items) before rising new = rising
rising_call session (event.Call s op r) outcome.Empty before rising new = rising
rising_call session (event.Boot config) o before rising new = rising
rising_call session event.Attach o before rising new = rising
rising_call session (event.Detach s) o before rising new = rising
rising_call session (event.Hear from bytes) o before rising new = rising
rising_call session event.Tick o before rising new = rising
rising_call session (event.Take s max) o before rising new = rising

module _ (duties : Duties) (past : List Entry) (moment word : ℕ) (ev : Event) where
  abbrev early : Outcome
  early = early_outcome ev past

  -- what the entry gives isn't seen by the operations
  pub operations_of-next : (n : ℕ) → operations_of n (entry_after duties past moment word ev ∷ past) ≡ operations_of n (marked duties past moment word ev ∷ past)
  unfolding operations_of
  operations_of-next n = operations-late duties past moment word ev n

  -- a session that is attached behind the entry isn't detached by it
  pub undetached : (n : ℕ) → has n (attached duties past moment word ev) ≡ true → is_number n (detached ev early) ≡ false
  unfolding attached_sessions
  undetached n h = of (is_number n (opened early)) refl (is_number n (detached ev early)) refl
      (sym (is_attached-step duties past moment word ev n) ∙ first (is_attached n (marked duties past moment word ev ∷ past)) (has n (count_up 1 (opened_count (marked duties past moment word ev ∷ past))))
      (sym (has-filter n (λ s. is_attached s (marked duties past moment word ev ∷ past)) (count_up 1 (opened_count (marked duties past moment word ev ∷ past)))) ∙ h))
    where
      first : (a b : Bool) → (a && b) ≡ true → a ≡ true
      first true b g = refl
      first false b g = g

      of : (b : Bool) → is_number n (opened early) ≡ b → (c : Bool) → is_number n (detached ev early) ≡ c → cond b true (cond c false (is_attached n past)) ≡ true → c ≡ false
      of true e c f g = sym f ∙ opened_undetached ev past n e
      of false e true f g = cc
      of false e false f g = refl

  -- its operations are those after the call that the entry accepts
  pub operations_of-attached : (n : ℕ) → has n (attached duties past moment word ev) ≡ true →
      operations_of n (marked duties past moment word ev ∷ past) ≡ after_call n (accepted_call ev early) (operations_of n past)
  operations_of-attached n h = operations_of-kept n (marked duties past moment word ev) past (undetached n h)

  rising_next : (n : ℕ) → AreRising (operations_of n past) → AreRising (operations_of n (marked duties past moment word ev ∷ past))
  unfolding operations_of
  rising_next n rising = of (is_number n (detached ev early))
    where
      of : (b : Bool) → AreRising (cond b [] (after_call n (accepted_call ev early) (operations_of n past)))
      of true = tt
      of false = rising_call n ev early (operations_of n past) rising (new_number duties past moment word ev n)

rising_boot : (n moment word : ℕ) (config : Config) → AreRising (operations_of n (boot_entry moment word config ∷ []))
unfolding operations_of
rising_boot n moment word config = tt

rising_from : (duties : Duties) (entry : Entry) (past : List Entry) → IsLegalFrom duties entry past → (n : ℕ) → AreRising (operations_of n (entry ∷ past))
rising_from duties entry [] legal n = subst (λ e. AreRising (operations_of n (e ∷ []))) (sym legal.3) (rising_boot n entry.moment entry.word legal.0)
rising_from duties entry (before ∷ past) legal n =
    subst (λ e. AreRising (operations_of n (e ∷ before ∷ past))) (sym (legal.0).determined)
    (subst (λ os. AreRising os) (sym (operations_of-next duties (before ∷ past) entry.moment entry.word entry.event n))
    (rising_next duties (before ∷ past) entry.moment entry.word entry.event n (rising_from duties before past legal.1 n)))

-- In a legal history the numbers of a session's operations rise strictly.
pub operations-rising : (duties : Duties) (past : List Entry) → IsLegal duties past → (n : ℕ) → AreRising (operations_of n past)
operations-rising duties [] legal n = absurd legal
operations-rising duties (entry ∷ past) legal n = rising_from duties entry past legal n

-- They are different.
pub operations-apart : (duties : Duties) (past : List Entry) → IsLegal duties past → (n : ℕ) → AreApart number (operations_of n past)
operations-apart duties past legal n = (holds_legal duties past legal).apart n
