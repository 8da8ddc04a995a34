-- What holds of queues and of sessions that were never opened, in every legal history.
use Rattle.std.proofs.Common.{◌≡◌, ℕ, zero, suc, ◌+◌, ◌<◌, ◌≤◌, Bool, true, false, cond, ◌&&◌, ◌||◌, List, [], ◌∷◌, drop, length, refl, ap, subst, ◌∙◌, sym, arith}
use Rattle.std.proofs.Math.Bool.{and-false}
use Rattle.std.specs.Option.{is_some}
use Rattle.lists.specs.Lists.{count_up}
use Rattle.sd_call.specs.declared.item.Item.{Item}
use Rattle.sd_call.specs.Answers.{frames_len}
use Rattle.mdns_history.specs.declared.config.Config.{Config}
use Rattle.mdns_history.specs.declared.event.Event.{Event}
use Rattle.mdns_history.specs.declared.entry.Entry.{Entry}
use Rattle.mdns_history.specs.InForce.{Duties}
use Rattle.mdns_history.specs.Sessions.{opened, opened_count, is_attached, attached_sessions, is_cut, operations_of}
use Rattle.mdns_history.specs.Items.{session_items, taken_items, queue}
use Rattle.mdns_history.specs.Outcomes.{early_outcome}
use Rattle.mdns_history.specs.Fitting.{boot_entry, IsLegalFrom, IsLegal}
use Rattle.mdns_history.proofs.LegalReplay.{Holds}
use Rattle.sd_sessions.proofs.NumberLists.{has, has-filter, within-count_up}
use Rattle.sd_sessions.proofs.EntryParts.{marked, entry_after}
use Rattle.sd_sessions.proofs.Attached.{holds_legal, opened_count-next}
use Rattle.sd_sessions.proofs.Shape.{attached, passes_now, is_cut-next}
use Rattle.sd_sessions.proofs.Queues.{begins_legal, queue_within}

queue_boot : (n moment word : ℕ) (config : Config) → queue n (boot_entry moment word config ∷ []) ≡ []
unfolding queue is_cut session_items taken_items
queue_boot n moment word config = refl

queue_from : (duties : Duties) (entry : Entry) (past : List Entry) → IsLegalFrom duties entry past → (n : ℕ) → frames_len (queue n (entry ∷ past)) ≤ 16777216
queue_from duties entry [] legal n =
    subst (λ e. frames_len (queue n (e ∷ [])) ≤ 16777216) (sym legal.3) (subst (λ xs. frames_len xs ≤ 16777216) (sym (queue_boot n entry.moment entry.word legal.0)) (omega arith))
queue_from duties entry (before ∷ past) legal n =
    subst (λ e. frames_len (queue n (e ∷ before ∷ past)) ≤ 16777216) (sym (legal.0).determined)
    (queue_within duties (before ∷ past) entry.moment entry.word entry.event (begins_legal duties (before ∷ past) legal.1) n (queue_from duties before past legal.1 n))

-- No queue passes its limit.
pub queue-within : (duties : Duties) (past : List Entry) → IsLegal duties past → (n : ℕ) → frames_len (queue n past) ≤ 16777216
queue-within duties [] legal n = absurd legal
queue-within duties (entry ∷ past) legal n = queue_from duties entry past legal n

-- a session beyond those that were opened isn't attached behind an entry, nor cut
not_attached : (n : ℕ) (history : List Entry) → opened_count history < n → has n (attached_sessions history) ≡ false
unfolding attached_sessions
not_attached n history l =
    has-filter n (λ s. is_attached s history) (count_up 1 (opened_count history))
    ∙ ap (λ b. is_attached n history && b) (of (has n (count_up 1 (opened_count history))) refl)
    ∙ and-false (is_attached n history)
  where
    of : (b : Bool) → has n (count_up 1 (opened_count history)) ≡ b → b ≡ false
    of true e = let within : (1 ≤ n) × (n < 1 + opened_count history) = within-count_up n 1 (opened_count history) e in
        let high : n < 1 + opened_count history = within.1 in let no : ⊥ = omega arith in absurd no
    of false e = refl

count_grows : (duties : Duties) (past : List Entry) (moment word : ℕ) (ev : Event) → opened_count past ≤ opened_count (marked duties past moment word ev ∷ past)
count_grows duties past moment word ev = of (is_some (opened (early_outcome ev past)))
  where
    of : (b : Bool) → opened_count past ≤ cond b (suc (opened_count past)) (opened_count past)
    of true = omega arith
    of false = omega arith

uncut_boot : (n moment word : ℕ) (config : Config) → is_cut n (boot_entry moment word config ∷ []) ≡ false
unfolding is_cut
uncut_boot n moment word config = refl

uncut_from : (duties : Duties) (entry : Entry) (past : List Entry) → IsLegalFrom duties entry past → (n : ℕ) → opened_count (entry ∷ past) < n → is_cut n (entry ∷ past) ≡ false
uncut_from duties entry [] legal n l = subst (λ e. is_cut n (e ∷ []) ≡ false) (sym legal.3) (uncut_boot n entry.moment entry.word legal.0)
uncut_from duties entry (before ∷ past) legal n l =
    subst (λ e. opened_count (e ∷ before ∷ past) < n → is_cut n (e ∷ before ∷ past) ≡ false) (sym (legal.0).determined) (next (uncut_from duties before past legal.1 n)) l
  where
    h : List Entry
    h = before ∷ past

    next : (opened_count h < n → is_cut n h ≡ false) → opened_count (entry_after duties h entry.moment entry.word entry.event ∷ h) < n → is_cut n (entry_after duties h entry.moment entry.word entry.event ∷ h) ≡ false
    next rest high =
        let count : opened_count (entry_after duties h entry.moment entry.word entry.event ∷ h) ≡ opened_count (marked duties h entry.moment entry.word entry.event ∷ h) = opened_count-next duties h entry.moment entry.word entry.event in
        let grows : opened_count h ≤ opened_count (marked duties h entry.moment entry.word entry.event ∷ h) = count_grows duties h entry.moment entry.word entry.event in
        let above : opened_count (marked duties h entry.moment entry.word entry.event ∷ h) < n = subst (λ k. k < n) count high in
        is_cut-next duties h entry.moment entry.word entry.event n
        ∙ ap (λ b. b || (has n (attached duties h entry.moment entry.word entry.event) && passes_now duties h entry.moment entry.word entry.event n)) (rest (omega (arith, grows, above)))
        ∙ ap (λ b. b && passes_now duties h entry.moment entry.word entry.event n) (not_attached n (marked duties h entry.moment entry.word entry.event ∷ h) above)

-- what holds of a session that was never opened
pub record IsUnopened (n : ℕ) (history : List Entry) : Type 0 where
  pub no_operations : operations_of n history ≡ []
  pub uncut : is_cut n history ≡ false
  pub nothing_queued : queue n history ≡ []
  pub unattached : is_attached n history ≡ false

pub unopened : (duties : Duties) (past : List Entry) → IsLegal duties past → (n : ℕ) → opened_count past < n → IsUnopened n past
unfolding queue
unopened duties [] legal n l = absurd legal
unopened duties (entry ∷ past) legal n l =
    let holds : Holds (entry ∷ past) = holds_legal duties (entry ∷ past) legal in
    let idle : (session_items n (entry ∷ past) ≡ []) × (operations_of n (entry ∷ past) ≡ []) = holds.unopened n l in
    record {
      no_operations = idle.1;
      uncut = uncut_from duties entry past legal n l;
      nothing_queued = ap (λ xs. cond (is_cut n (entry ∷ past)) [] (drop (length (taken_items n (entry ∷ past))) xs)) idle.0 ∙ none (is_cut n (entry ∷ past)) (length (taken_items n (entry ∷ past)));
      unattached = of (is_attached n (entry ∷ past)) refl (holds.numbered n);
    }
  where
    dropped : (k : ℕ) → ◌≡◌ {A = List Item} (drop k []) []
    dropped zero = refl
    dropped (suc k) = refl

    none : (b : Bool) (k : ℕ) → ◌≡◌ {A = List Item} (cond b [] (drop k [])) []
    none true k = refl
    none false k = dropped k

    of : (b : Bool) → is_attached n (entry ∷ past) ≡ b → (is_attached n (entry ∷ past) ≡ true → (1 ≤ n) × (n ≤ opened_count (entry ∷ past))) → b ≡ false
    of true e range = let within : (1 ≤ n) × (n ≤ opened_count (entry ∷ past)) = range e in let high : n ≤ opened_count (entry ∷ past) = within.1 in let no : ⊥ = omega arith in absurd no
    of false e range = refl
