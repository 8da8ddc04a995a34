-- In every legal history the items of a session replay to the answers of its operations.
use Rattle.std.proofs.Common.{◌≡◌, ℕ, ℤ, suc, ◌+◌, ◌<◌, ◌≤◌, ◌⊎◌, inl, inr, Bool, true, false, cond, not, List, [], ◌∷◌, ◌++◌, map, Option, Some, None, refl, ap, subst, ◌∙◌, sym, arith}
use Rattle.std.proofs.lemmas.Bool.{or_parts}
use Rattle.std.specs.List.{list_any, filter_map, find}
use Rattle.std.specs.Option.{option_or, unwrap_or, is_some}
use Rattle.std.specs.Ordering.{int_eq}
use Rattle.std.specs.FinMap as fin
use Rattle.lists.specs.Lists.{count_where}
use Rattle.sd_call.specs.declared.request.Request.{Request}
use Rattle.sd_call.specs.Requests.{no_error, is_start}
use Rattle.sd_call.specs.Replay.{replay, replay_from}
use Rattle.sd_call.proofs.ReplayRuns.{AreApart, replay_from-append}
use Rattle.mdns_history.specs.declared.config.Config.{Config}
use Rattle.mdns_history.specs.declared.event.Event.{Event}
use Rattle.mdns_history.specs.declared.event.Event.TheVariants as event
use Rattle.mdns_history.specs.declared.entry.Outcome.{Outcome}
use Rattle.mdns_history.specs.declared.entry.Outcome.TheVariants as outcome
use Rattle.mdns_history.specs.declared.entry.Entry.{Entry}
use Rattle.mdns_history.specs.History.{latest, has_mark}
use Rattle.mdns_history.specs.Sessions.{opened, opened_count, attached_sessions, attaching, detached, is_number, is_attached, is_cut, is_cut_of, has_op, accepted_call, after_call, operations_of}
use Rattle.mdns_history.specs.Items.{item_for, change_items, given_items, served_sessions, session_items}
use Rattle.mdns_history.specs.Outcomes.{early_outcome, late_outcome}
use Rattle.mdns_history.specs.InForce.{Duties}
use Rattle.mdns_history.specs.Fitting.{next_entry, boot_entry, bare_entry, noted, with_cuts, with_items, IsLegalFrom}
use Rattle.mdns_history.specs.Replays.{answer_sets, entry_of, IsReplayed}
use Rattle.mdns_history.proofs.Stages.{answer_sets-late, operations_of-late}
use Rattle.mdns_history.proofs.SessionLists.{picked-in, picked-below}
use Rattle.mdns_history.proofs.CallFacts.{opened-late, opened_next, coded_attached, started_new}
use Rattle.mdns_history.proofs.Apart.{apart_call, unmade_call}
use Rattle.mdns_history.proofs.EntryReplay.{entry_replayed}
use Rattle.mdns_history.proofs.ReplySteps.{number}

-- what holds of sessions in a legal history
pub record Holds (history : List Entry) : Type 0 where
  pub numbered : (session : ℕ) → is_attached session history ≡ true → (1 ≤ session) × (session ≤ opened_count history)
  pub unopened : (session : ℕ) → opened_count history < session → (session_items session history ≡ []) × (operations_of session history ≡ [])
  pub apart : (session : ℕ) → AreApart number (operations_of session history)
  pub replayed : (session : ℕ) → is_attached session history ≡ true → is_cut session history ≡ false → replay (session_items session history) ≡ Some (answer_sets session history)

pub detached-late : (e : Event) (early : Outcome) (history : List Entry) → detached e (late_outcome e early history) ≡ detached e early
detached-late (event.Boot config) early history = refl
detached-late event.Attach early history = refl
detached-late (event.Detach session) early history = refl
detached-late (event.Call session op request) early history = refl
detached-late (event.Hear from bytes) early history = refl
detached-late event.Tick early history = refl
detached-late (event.Take session max) early history = refl

pub opened_undetached : (e : Event) (past : List Entry) (session : ℕ) → is_number session (opened (early_outcome e past)) ≡ true → is_number session (detached e (early_outcome e past)) ≡ false
unfolding early_outcome
opened_undetached (event.Boot config) past session h = refl
opened_undetached event.Attach past session h = refl
opened_undetached (event.Detach other) past session h = of (is_attached other past) h
  where
    of : (b : Bool) → is_number session (opened (cond b outcome.Ended outcome.Closed)) ≡ true → is_number session (detached (event.Detach other) (cond b outcome.Ended outcome.Closed)) ≡ false
    of true f = cc
    of false f = cc
opened_undetached (event.Call other op request) past session h = refl
opened_undetached (event.Hear from bytes) past session h = refl
opened_undetached event.Tick past session h = refl
opened_undetached (event.Take other max) past session h = refl

pub some_of_number : (session : ℕ) (o : Option ℕ) → is_number session o ≡ true → is_some o ≡ true
some_of_number session None h = h
some_of_number session (Some n) h = refl

module _ (duties : Duties) (past : List Entry) (moment word : ℕ) (ev : Event) where
  abbrev pub staged : Entry
  staged = with_cuts (noted duties (bare_entry moment word ev past) past) past

  abbrev pub early : Outcome
  early = early_outcome ev past

  pub count-late : opened_count (next_entry duties past moment word ev ∷ past) ≡ opened_count (staged ∷ past)
  unfolding next_entry
  count-late = ap (λ o. cond (is_some o) (suc (count_where (λ entry. is_some (opened entry.outcome)) past)) (count_where (λ entry. is_some (opened entry.outcome)) past)) (opened-late ev past (with_items staged past ∷ past))

  pub count_grown : (opened_count (staged ∷ past) ≡ opened_count past) ⊎ (opened_count (staged ∷ past) ≡ suc (opened_count past))
  count_grown = of (is_some (opened early))
    where
      of : (b : Bool) → (cond b (suc (opened_count past)) (opened_count past) ≡ opened_count past) ⊎ (cond b (suc (opened_count past)) (opened_count past) ≡ suc (opened_count past))
      of true = inr refl
      of false = inl refl

  pub count_opened : (session : ℕ) → is_number session (opened early) ≡ true → opened_count (staged ∷ past) ≡ suc (opened_count past)
  count_opened session h = ap (λ b. cond b (suc (opened_count past)) (opened_count past)) (some_of_number session (opened early) h)

  pub attached-late : (session : ℕ) → is_attached session (next_entry duties past moment word ev ∷ past) ≡ is_attached session (staged ∷ past)
  unfolding is_attached next_entry
  attached-late session =
      let before : Option Bool = latest (attaching session) past in
      ap (λ o. unwrap_or (option_or (cond (is_number session o) (Some true) (cond (is_number session (detached ev (late_outcome ev early (with_items staged past ∷ past)))) (Some false) None)) before) false)
      (opened-late ev past (with_items staged past ∷ past))
      ∙ ap (λ d. unwrap_or (option_or (cond (is_number session (opened early)) (Some true) (cond (is_number session d) (Some false) None)) before) false)
      (detached-late ev early (with_items staged past ∷ past))

  -- a session that is attached was opened just now, or was attached before and isn't detached
  pub attached_cases : (session : ℕ) → is_attached session (staged ∷ past) ≡ true →
      ((is_number session (opened early) ≡ true) × (is_number session (detached ev early) ≡ false)) ⊎ ((is_number session (detached ev early) ≡ false) × (is_attached session past ≡ true))
  unfolding is_attached
  attached_cases session h = of (is_number session (opened early)) refl (is_number session (detached ev early)) refl h
    where
      of : (b : Bool) → is_number session (opened early) ≡ b → (c : Bool) → is_number session (detached ev early) ≡ c →
          unwrap_or (option_or (cond b (Some true) (cond c (Some false) None)) (latest (attaching session) past)) false ≡ true →
          ((is_number session (opened early) ≡ true) × (is_number session (detached ev early) ≡ false)) ⊎ ((is_number session (detached ev early) ≡ false) × (is_attached session past ≡ true))
      of true e c f g = inl (e, opened_undetached ev past session e)
      of false e true f g = cc
      of false e false f g = inr (f, g)

  pub cut-late : (session : ℕ) → is_cut session (next_entry duties past moment word ev ∷ past) ≡ is_cut session (staged ∷ past)
  unfolding is_cut next_entry
  cut-late session = refl

  pub not_cut_before : (session : ℕ) → is_cut session (staged ∷ past) ≡ false → is_cut session past ≡ false
  unfolding is_cut
  not_cut_before session h = (or_parts (has_mark (is_cut_of session) staged) (list_any (has_mark (is_cut_of session)) past) h).1

  pub items-late : (session : ℕ) → session_items session (next_entry duties past moment word ev ∷ past) ≡ session_items session past ++ filter_map (item_for session) (given_items staged past)
  unfolding session_items next_entry
  items-late session = refl

  pub operations-late : (session : ℕ) → operations_of session (next_entry duties past moment word ev ∷ past) ≡ operations_of session (staged ∷ past)
  unfolding next_entry
  operations-late session = operations_of-late session moment word staged.marks staged.sent (given_items staged past) ev early (with_items staged past ∷ past) past

  sets-late : (session : ℕ) → answer_sets session (next_entry duties past moment word ev ∷ past) ≡ answer_sets session (staged ∷ past)
  unfolding next_entry
  sets-late session = answer_sets-late session moment word staged.marks staged.sent (given_items staged past) ev early (with_items staged past ∷ past) past

  -- the items given to a session that is served, and to one that was never opened
  pub served_items : (session : ℕ) → 1 ≤ session → session ≤ opened_count (staged ∷ past) → is_attached session (staged ∷ past) ≡ true → is_cut session (staged ∷ past) ≡ false →
      filter_map (item_for session) (given_items staged past) ≡ change_items session staged past
  unfolding given_items served_sessions attached_sessions
  served_items session low high attached uncut =
      picked-in session (λ s. change_items s staged past) (λ s. not (is_cut s (staged ∷ past))) (λ s. is_attached s (staged ∷ past)) (opened_count (staged ∷ past)) 1 low (omega arith) attached (ap not uncut)

  unserved_items : (session : ℕ) → opened_count (staged ∷ past) < session → filter_map (item_for session) (given_items staged past) ≡ []
  unfolding given_items served_sessions attached_sessions
  unserved_items session high =
      picked-below session (λ s. change_items s staged past) (λ s. not (is_cut s (staged ∷ past))) (λ s. is_attached s (staged ∷ past)) (opened_count (staged ∷ past)) 1 (omega arith)

  -- a start that was accepted has a new number
  pub new_number : (session op : ℕ) (r : Request) (code : ℤ) → ev ≡ event.Call session op r → early ≡ outcome.Code code → int_eq code no_error ≡ true → is_start r ≡ true → find (has_op op) (operations_of session past) ≡ None
  unfolding early_outcome
  new_number session op r code e o ok start = started_new session op r past code (ap (λ x. early_outcome x past) (sym e) ∙ o) ok start

  made_attached : (session op : ℕ) (r : Request) (code : ℤ) → ev ≡ event.Call session op r → early ≡ outcome.Code code → is_attached session past ≡ true
  unfolding early_outcome
  made_attached session op r code e o = coded_attached session op r past code (ap (λ x. early_outcome x past) (sym e) ∙ o)

  module _ (holds : Holds past) where
    numbered_next : (session : ℕ) → is_attached session (staged ∷ past) ≡ true → (1 ≤ session) × (session ≤ opened_count (staged ∷ past))
    numbered_next session attached = of (attached_cases session attached)
      where
        of : ((is_number session (opened early) ≡ true) × (is_number session (detached ev early) ≡ false)) ⊎ ((is_number session (detached ev early) ≡ false) × (is_attached session past ≡ true)) →
            (1 ≤ session) × (session ≤ opened_count (staged ∷ past))
        of (inl h) = let here : session ≡ opened_count past + 1 = opened_next ev past session h.0 in let count : opened_count (staged ∷ past) ≡ suc (opened_count past) = count_opened session h.0 in
            (omega (arith, here), omega (arith, here, count))
        of (inr h) = let old : (1 ≤ session) × (session ≤ opened_count past) = holds.numbered session h.1 in (old.0, grown count_grown old.1)
          where
            grown : (opened_count (staged ∷ past) ≡ opened_count past) ⊎ (opened_count (staged ∷ past) ≡ suc (opened_count past)) → session ≤ opened_count past → session ≤ opened_count (staged ∷ past)
            grown (inl e) l = omega (arith, e, l)
            grown (inr e) l = omega (arith, e, l)

    pub below_past : (session : ℕ) → opened_count (staged ∷ past) < session → opened_count past < session
    below_past session l = of count_grown
      where
        of : (opened_count (staged ∷ past) ≡ opened_count past) ⊎ (opened_count (staged ∷ past) ≡ suc (opened_count past)) → opened_count past < session
        of (inl e) = omega (arith, e, l)
        of (inr e) = omega (arith, e, l)

    unopened_operations : (session : ℕ) → opened_count past < session → operations_of session (staged ∷ past) ≡ []
    unfolding operations_of
    unopened_operations session l = of (is_number session (detached ev early))
      where
        never : (op : ℕ) (r : Request) (code : ℤ) → ev ≡ event.Call session op r → early ≡ outcome.Code code → ⊥
        never op r code e o = let high : session ≤ opened_count past = (holds.numbered session (made_attached session op r code e o)).1 in let no : ⊥ = omega (arith, high, l) in no

        of : (b : Bool) → cond b [] (after_call session (accepted_call ev early) (operations_of session past)) ≡ []
        of true = refl
        of false = unmade_call session ev early (operations_of session past) never ∙ (holds.unopened session l).1

    apart_next : (session : ℕ) → AreApart number (operations_of session (staged ∷ past))
    unfolding operations_of
    apart_next session = of (is_number session (detached ev early))
      where
        of : (b : Bool) → AreApart number (cond b [] (after_call session (accepted_call ev early) (operations_of session past)))
        of true = tt
        of false = apart_call session ev early (operations_of session past) (holds.apart session) (new_number session)

    -- what was replayed before the entry
    replayed_before : (session : ℕ) → is_attached session (staged ∷ past) ≡ true → is_cut session (staged ∷ past) ≡ false → replay (session_items session past) ≡ Some (answer_sets session past)
    unfolding answer_sets
    replayed_before session attached uncut = of (attached_cases session attached)
      where
        of : ((is_number session (opened early) ≡ true) × (is_number session (detached ev early) ≡ false)) ⊎ ((is_number session (detached ev early) ≡ false) × (is_attached session past ≡ true)) →
            replay (session_items session past) ≡ Some (answer_sets session past)
        of (inl h) =
            let here : session ≡ opened_count past + 1 = opened_next ev past session h.0 in
            let fresh : (session_items session past ≡ []) × (operations_of session past ≡ []) = holds.unopened session (omega (arith, here)) in
            ap replay fresh.0 ∙ sym (ap (λ os. Some (fin.from_entries (map (entry_of past) os))) fresh.1)
        of (inr h) = holds.replayed session h.1 (not_cut_before session uncut)

    undetached : (session : ℕ) → is_attached session (staged ∷ past) ≡ true → is_number session (detached ev early) ≡ false
    undetached session attached = of (attached_cases session attached)
      where
        of : ((is_number session (opened early) ≡ true) × (is_number session (detached ev early) ≡ false)) ⊎ ((is_number session (detached ev early) ≡ false) × (is_attached session past ≡ true)) →
            is_number session (detached ev early) ≡ false
        of (inl h) = h.1
        of (inr h) = h.0

    replayed_next : (session : ℕ) → is_attached session (staged ∷ past) ≡ true → is_cut session (staged ∷ past) ≡ false →
        replay (session_items session (next_entry duties past moment word ev ∷ past)) ≡ Some (answer_sets session (next_entry duties past moment word ev ∷ past))
    replayed_next session attached uncut =
        let range : (1 ≤ session) × (session ≤ opened_count (staged ∷ past)) = numbered_next session attached in
        ap replay (items-late session ∙ ap (λ zs. session_items session past ++ zs) (served_items session range.0 range.1 attached uncut))
        ∙ replay_from-append (Some fin.empty) (session_items session past) (change_items session staged past)
        ∙ ap (λ h. replay_from h (change_items session staged past)) (replayed_before session attached uncut)
        ∙ entry_replayed session staged past (undetached session attached) (apart_next session) (new_number session)
        ∙ sym (ap Some (sets-late session))

    holds_next : Holds (next_entry duties past moment word ev ∷ past)
    holds_next = record {
      numbered = λ session attached. let range : (1 ≤ session) × (session ≤ opened_count (staged ∷ past)) = numbered_next session (sym (attached-late session) ∙ attached) in
          (range.0, subst (λ n. session ≤ n) (sym count-late) range.1);
      unopened = λ session l. let high : opened_count (staged ∷ past) < session = subst (λ n. n < session) count-late l in let old : opened_count past < session = below_past session high in (
        items-late session ∙ ap (λ zs. zs ++ filter_map (item_for session) (given_items staged past)) (holds.unopened session old).0 ∙ unserved_items session high,
        operations-late session ∙ unopened_operations session old,
      );
      apart = λ session. subst (λ os. AreApart number os) (sym (operations-late session)) (apart_next session);
      replayed = λ session attached uncut. replayed_next session (sym (attached-late session) ∙ attached) (sym (cut-late session) ∙ uncut);
    }

holds_boot : (moment word : ℕ) (config : Config) → Holds (boot_entry moment word config ∷ [])
unfolding is_attached session_items operations_of
holds_boot moment word config = record {
  numbered = λ session attached. cc;
  unopened = λ session l. (refl, refl);
  apart = λ session. tt;
  replayed = λ session attached uncut. cc;
}

pub holds_from : (duties : Duties) (entry : Entry) (past : List Entry) → IsLegalFrom duties entry past → Holds (entry ∷ past)
holds_from duties entry [] legal = subst (λ e. Holds (e ∷ [])) (sym legal.3) (holds_boot entry.moment entry.word legal.0)
holds_from duties entry (before ∷ past) legal =
    subst (λ e. Holds (e ∷ before ∷ past)) (sym (legal.0).determined) (holds_next duties (before ∷ past) entry.moment entry.word entry.event (holds_from duties before past legal.1))

-- Replaying a session's items, delivered then queued, gives exactly the answers that its operations have.
pub is_replayed : IsReplayed
is_replayed duties [] session legal attached uncut = absurd legal
is_replayed duties (entry ∷ past) session legal attached uncut = (holds_from duties entry past legal).replayed session attached uncut
