-- What an entry brings a session: told of its operations, and of the answers that they have before the entry and with it.
use Rattle.std.proofs.Common.{◌≡◌, ℕ, ◌+◌, Bool, true, false, cond, List, [], ◌∷◌, ◌++◌, Some, None, refl, ap, ◌∙◌, sym, arith}
use Rattle.std.specs.List.{flat_map}
use Rattle.std.specs.Option.{option_to_list}
use Rattle.mdns_history.specs.declared.event.Event.{Event}
use Rattle.mdns_history.specs.declared.event.Event.TheVariants as event
use Rattle.mdns_history.specs.declared.entry.Outcome.{Outcome}
use Rattle.mdns_history.specs.declared.entry.Entry.{Entry}
use Rattle.mdns_history.specs.InForce.{Duties}
use Rattle.mdns_history.specs.declared.operation.Operation.{Operation}
use Rattle.mdns_history.specs.Sessions.{is_number, opened, opened_count, detached, accepted_call, after_call, operations_of}
use Rattle.mdns_history.specs.Items.{reply_of, removes, adds, change_items}
use Rattle.mdns_history.specs.Outcomes.{call_outcome, early_outcome}
use Rattle.mdns_history.proofs.CallFacts.{opened-call}
use Rattle.mdns_history.proofs.LegalReplay.{Holds}
use Rattle.sd_sessions.proofs.EntryParts.{marked, cutting, entry_after}
use Rattle.sd_sessions.proofs.CutAnswers.{answers-cutting, answers-after}
use Rattle.sd_sessions.proofs.Attached.{opened-number}
use Rattle.sd_sessions.specs.Changes.{items_between}
use Rattle.sd_sessions.specs.Laws.{answers_in}

-- what any entry brings a session
pub change_items-is : (n : ℕ) (entry : Entry) (past : List Entry) →
    change_items n entry past ≡ items_between (answers_in past) (answers_in (entry ∷ past)) (reply_of n entry.event entry.outcome) (operations_of n past) (operations_of n (entry ∷ past))
unfolding change_items items_between
change_items-is n entry past = refl

-- an entry that opens a session neither replies nor accepts a call
opens_silent : (n : ℕ) (e : Event) (past : List Entry) (k : ℕ) → opened (early_outcome e past) ≡ Some k → (reply_of n e (early_outcome e past) ≡ None) × (accepted_call e (early_outcome e past) ≡ None)
unfolding early_outcome
opens_silent n (event.Boot config) past k h = (refl, refl)
opens_silent n event.Attach past k h = (refl, refl)
opens_silent n (event.Detach other) past k h = (refl, refl)
opens_silent n (event.Call other op request) past k h = let none : opened (call_outcome other op request past) ≡ None = opened-call other op request past in cc
opens_silent n (event.Hear from bytes) past k h = (refl, refl)
opens_silent n event.Tick past k h = (refl, refl)
opens_silent n (event.Take other max) past k h = (refl, refl)

module _ (duties : Duties) (past : List Entry) (moment word : ℕ) (ev : Event) where
  abbrev early : Outcome
  early = early_outcome ev past

  -- a session that the entry opens has no operations, and is brought nothing
  pub operations_of-opened : (k : ℕ) → Holds past → opened early ≡ Some k → operations_of k (marked duties past moment word ev ∷ past) ≡ []
  unfolding operations_of
  operations_of-opened k holds e =
      let number : k ≡ opened_count past + 1 = opened-number duties past moment word ev k e in
      let new : operations_of k past ≡ [] = (holds.unopened k (omega arith)).1 in
      ap (λ c. cond (is_number k (detached ev early)) [] (after_call k c (operations_of k past))) (opens_silent k ev past k e).1
      ∙ ap (λ os. cond (is_number k (detached ev early)) [] os) new
      ∙ none (is_number k (detached ev early))
    where
      none : (b : Bool) → ◌≡◌ {A = List Operation} (cond b [] []) []
      none true = refl
      none false = refl

  pub change_items-opened : (k : ℕ) → Holds past → opened early ≡ Some k → change_items k (marked duties past moment word ev) past ≡ []
  unfolding change_items
  change_items-opened k holds e =
      let os : List Operation = operations_of k (marked duties past moment word ev ∷ past) in
      ap (λ r. option_to_list r ++ flat_map (removes k (marked duties past moment word ev) past) os ++ flat_map (adds k (marked duties past moment word ev) past) os) (opens_silent k ev past k e).0
      ∙ ap (λ xs. flat_map (removes k (marked duties past moment word ev) past) xs ++ flat_map (adds k (marked duties past moment word ev) past) xs) (operations_of-opened k holds e)

  -- What the entry brings a session, by its operations before and after, and the answers before and after.
  pub change_items-marked : (n : ℕ) → change_items n (marked duties past moment word ev) past
      ≡ items_between (answers_in past) (answers_in (entry_after duties past moment word ev ∷ past)) (reply_of n ev early) (operations_of n past) (operations_of n (marked duties past moment word ev ∷ past))
  change_items-marked n =
      change_items-is n (marked duties past moment word ev) past
      ∙ (λ i. items_between (answers_in past) (λ o. sym (answers-after duties past moment word ev o) i) (reply_of n ev early) (operations_of n past) (operations_of n (marked duties past moment word ev ∷ past)))

  cutting_operations : (n : ℕ) → operations_of n (cutting duties past moment word ev ∷ past) ≡ operations_of n (marked duties past moment word ev ∷ past)
  unfolding operations_of
  cutting_operations n = refl

  -- The marks of cut sessions change nothing in it.
  pub change_items-cutting : (n : ℕ) → change_items n (cutting duties past moment word ev) past ≡ change_items n (marked duties past moment word ev) past
  change_items-cutting n =
      change_items-is n (cutting duties past moment word ev) past
      ∙ (λ i. items_between (answers_in past) (λ o. answers-cutting duties past moment word ev o i) (reply_of n ev early) (operations_of n past) (cutting_operations n i))
      ∙ sym (change_items-is n (marked duties past moment word ev) past)
