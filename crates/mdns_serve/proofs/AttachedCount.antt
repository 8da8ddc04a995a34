-- In a legal history at most 64 sessions are attached.
use Rattle.std.proofs.Common.{◌≡◌, ℕ, suc, ◌+◌, ◌<◌, ◌≤◌, ◌⊎◌, inl, inr, Bool, true, false, cond, ◌&&◌, ◌||◌, List, [], ◌∷◌, length, Option, Some, None, refl, ap, subst, ◌∙◌, sym, arith, length-append}
use Rattle.std.specs.Prelude.{filter, nat_le}
use Rattle.std.specs.Option.{is_some}
use Rattle.std.proofs.lemmas.List.Elements.{filter-append}
use Rattle.lists.specs.Lists.{count_up}
use Rattle.mdns_history.specs.declared.config.Config.{Config}
use Rattle.mdns_history.specs.declared.event.Event.{Event}
use Rattle.mdns_history.specs.declared.event.Event.TheVariants as event
use Rattle.mdns_history.specs.declared.entry.Outcome.TheVariants as outcome
use Rattle.mdns_history.specs.declared.entry.Entry.{Entry}
use Rattle.mdns_history.specs.InForce.{Duties}
use Rattle.mdns_history.specs.Sessions.{opened, opened_count, detached, is_number, is_attached, attached_sessions}
use Rattle.mdns_history.specs.Outcomes.{most_sessions, most_over_life, early_outcome}
use Rattle.mdns_history.specs.Fitting.{next_entry, boot_entry, IsLegalFrom, IsLegal}
use Rattle.mdns_history.proofs.CallFacts.{opened_next, opened-call}
use Rattle.mdns_history.proofs.LegalReplay.{Holds, holds_from, count-late, attached-late, attached_cases}
use Rattle.mdns_serve.proofs.OnceEach.{has, has-filter, has-count_up, count_up-last, filter-fewer}

-- where an event opens a session, fewer than 64 are attached
opens_below : (e : Event) (past : List Entry) (k : ℕ) → opened (early_outcome e past) ≡ Some k → length (attached_sessions past) < 64
unfolding early_outcome
opens_below (event.Boot config) past k h = cc
opens_below event.Attach past k h = of (nat_le most_sessions (length (attached_sessions past))) refl (nat_le most_over_life (opened_count past)) h
  where
    of : (b : Bool) → nat_le most_sessions (length (attached_sessions past)) ≡ b → (c : Bool) → opened (cond (b || c) outcome.Full (outcome.Opened (opened_count past + 1))) ≡ Some k → length (attached_sessions past) < 64
    of true e c f = cc
    of false e true f = cc
    of false e false f = grind arith
opens_below (event.Detach other) past k h = of (is_attached other past) h
  where
    of : (b : Bool) → opened (cond b outcome.Ended outcome.Closed) ≡ Some k → length (attached_sessions past) < 64
    of true f = cc
    of false f = cc
opens_below (event.Call other op r) past k h = let no : ◌≡◌ {A = Option ℕ} None (Some k) = sym (opened-call other op r past) ∙ h in cc
opens_below (event.Hear from bytes) past k h = cc
opens_below event.Tick past k h = cc
opens_below (event.Take other max) past k h = cc

module _ (duties : Duties) (past : List Entry) (moment word : ℕ) (ev : Event) where
  after : List Entry
  after = next_entry duties past moment word ev ∷ past

  -- a session that isn't opened now was attached before
  was_attached : (n : ℕ) → is_number n (opened (early_outcome ev past)) ≡ false → is_attached n (next_entry duties past moment word ev ∷ past) ≡ true → is_attached n past ≡ true
  was_attached n other h = of (attached_cases duties past moment word ev n (sym (attached-late duties past moment word ev n) ∙ h))
    where
      of : ((is_number n (opened (early_outcome ev past)) ≡ true) × (is_number n (detached ev (early_outcome ev past)) ≡ false)) ⊎ ((is_number n (detached ev (early_outcome ev past)) ≡ false) × (is_attached n past ≡ true)) → is_attached n past ≡ true
      of (inl both) = let no : true ≡ false = sym both.0 ∙ other in cc
      of (inr both) = both.1

  count_of : (o : Option ℕ) → opened (early_outcome ev past) ≡ o → opened_count (next_entry duties past moment word ev ∷ past) ≡ cond (is_some o) (suc (opened_count past)) (opened_count past)
  count_of o e = count-late duties past moment word ev ∙ ap (λ o. cond (is_some o) (suc (opened_count past)) (opened_count past)) e

  few_next : length (attached_sessions past) ≤ 64 → length (attached_sessions (next_entry duties past moment word ev ∷ past)) ≤ 64
  unfolding attached_sessions
  few_next few = of (opened (early_outcome ev past)) refl
    where
      is_now : ℕ → Bool
      is_now n = is_attached n (next_entry duties past moment word ev ∷ past)

      of : (o : Option ℕ) → opened (early_outcome ev past) ≡ o
          → length (filter (λ n. is_attached n (next_entry duties past moment word ev ∷ past)) (count_up 1 (opened_count (next_entry duties past moment word ev ∷ past)))) ≤ 64
      of None e =
          let fewer = filter-fewer (λ n. is_attached n (next_entry duties past moment word ev ∷ past)) (λ n. is_attached n past) 1 (opened_count past) (λ n l h. was_attached n (ap (is_number n) e) h) in
          subst (λ c. length (filter (λ n. is_attached n (next_entry duties past moment word ev ∷ past)) (count_up 1 c)) ≤ 64) (sym (count_of None e)) (omega (arith, fewer, few))
      of (Some k) e =
          let below : length (attached_sessions past) < 64 = opens_below ev past k e in
          let fewer = filter-fewer (λ n. is_attached n (next_entry duties past moment word ev ∷ past)) (λ n. is_attached n past) 1 (opened_count past) (λ n l h. was_attached n (unopened n l) h) in
          let last : length (filter (λ n. is_attached n (next_entry duties past moment word ev ∷ past)) ((1 + opened_count past) ∷ [])) ≤ 1 = one (is_attached (1 + opened_count past) (next_entry duties past moment word ev ∷ past)) in
          let cut = filter-append (λ n. is_attached n (next_entry duties past moment word ev ∷ past)) (count_up 1 (opened_count past)) ((1 + opened_count past) ∷ []) in
          subst (λ c. length (filter (λ n. is_attached n (next_entry duties past moment word ev ∷ past)) (count_up 1 c)) ≤ 64) (sym (count_of (Some k) e))
          (subst (λ ns. length (filter (λ n. is_attached n (next_entry duties past moment word ev ∷ past)) ns) ≤ 64) (sym (count_up-last 1 (opened_count past)))
          (subst (λ ns. length ns ≤ 64) (sym cut)
          (let sum = length-append (filter (λ n. is_attached n (next_entry duties past moment word ev ∷ past)) (count_up 1 (opened_count past))) (filter (λ n. is_attached n (next_entry duties past moment word ev ∷ past)) ((1 + opened_count past) ∷ [])) in omega (arith, sum, last, fewer, below))))
        where
          one : (b : Bool) → length (cond b ((1 + opened_count past) ∷ []) []) ≤ 1
          one true = omega arith
          one false = omega arith

          unopened : (n : ℕ) → n < 1 + opened_count past → is_number n (opened (early_outcome ev past)) ≡ false
          unopened n l = which (is_number n (opened (early_outcome ev past))) refl
            where
              which : (b : Bool) → is_number n (opened (early_outcome ev past)) ≡ b → is_number n (opened (early_outcome ev past)) ≡ false
              which true f = let here : n ≡ opened_count past + 1 = opened_next ev past n f in let no : ⊥ = omega (arith, here, l) in absurd no
              which false f = f

few_booted : (moment word : ℕ) (config : Config) → length (attached_sessions (boot_entry moment word config ∷ [])) ≤ 64
unfolding attached_sessions
few_booted moment word config = omega arith

few_from : (duties : Duties) (entry : Entry) (past : List Entry) → IsLegalFrom duties entry past → length (attached_sessions (entry ∷ past)) ≤ 64
few_from duties entry [] legal = subst (λ e. length (attached_sessions (e ∷ [])) ≤ 64) (sym legal.3) (few_booted entry.moment entry.word legal.0)
few_from duties entry (before ∷ past) legal =
    subst (λ e. length (attached_sessions (e ∷ before ∷ past)) ≤ 64) (sym (legal.0).determined) (few_next duties (before ∷ past) entry.moment entry.word entry.event (few_from duties before past legal.1))

pub few_attached : (duties : Duties) (history : List Entry) → IsLegal duties history → length (attached_sessions history) ≤ 64
few_attached duties [] legal = absurd legal
few_attached duties (entry ∷ past) legal = few_from duties entry past legal

legal_holds : (duties : Duties) (history : List Entry) → IsLegal duties history → Holds history
legal_holds duties [] legal = absurd legal
legal_holds duties (entry ∷ past) legal = holds_from duties entry past legal

-- a session that is attached stands among the attached ones
pub attached_stands : (duties : Duties) (history : List Entry) → IsLegal duties history → (n : ℕ) → is_attached n history ≡ true → has n (attached_sessions history) ≡ true
unfolding attached_sessions
attached_stands duties history legal n h =
    let range : (1 ≤ n) × (n ≤ opened_count history) = (legal_holds duties history legal).numbered n h in
    has-filter n (λ m. is_attached m history) (count_up 1 (opened_count history)) ∙ ap (λ b. b && has n (count_up 1 (opened_count history))) h ∙ has-count_up n 1 (opened_count history) range.0 (omega (arith, range.1))
