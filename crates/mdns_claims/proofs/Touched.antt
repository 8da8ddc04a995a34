-- Groups that a deed doesn't touch are passed over.
use Rattle.std.proofs.Common.{◌≡◌, ℕ, suc, ◌+◌, ◌<◌, ◌≤◌, List, [], ◌++◌, length, map, drop, Option, Some, None, ap, subst, sym, ◌∙◌, arith}
use Rattle.std.specs.Prelude.{IfNone, IfSome}
use Rattle.std.specs.Option.{option_map_or}
use Rattle.std.proofs.lemmas.List.{drop_all}
use Rattle.mdns_timer.specs.Parts.{NoneDue, IsFirstDue}
use Rattle.mdns_probe.specs.Kept.{Kept}
use Rattle.mdns_claimants.specs.Due.{moment_of}
use Rattle.mdns_claimants.specs.Owned.{of_name, own_in, registered_answers}
use Rattle.mdns_claimants.proofs.Places.{element, moment_here, back_to}
use Rattle.mdns_claimants.proofs.Still.{still_settle}
use Rattle.mdns_claims.specs.declared.plan.Deed.{Deed}
use Rattle.mdns_claims.specs.declared.plan.Deed.TheVariants.{Ticks}
use Rattle.mdns_claims.specs.Later.{shown_own, later_from, TouchesNone, IsNextTouched}
use Rattle.mdns_claims.specs.Planned.{Means}
use Rattle.mdns_claims.proofs.Ahead.{same_more, answers_more, answers_end}
use Rattle.mdns_claims.proofs.Made.{untouched}

-- a tick touches no group of which nothing is due
pub ticks_none : (means : Means) (kept : List Kept) (from place : ℕ) → place ≤ length kept → NoneDue (map moment_of kept) means.moment from place → TouchesNone means Ticks kept from place
ticks_none means kept from place within none k one low high is =
    still_settle means.moment one (subst (λ (m : ℕ). means.moment < m) (moment_here kept k one (omega arith) ∙ ap moment_of (sym is)) (none k low high))

-- the next group that a tick may touch is the next one of which something is due
module _ (means : Means) (deed : Deed) (kept : List Kept) (from : ℕ) (ticks : deed ≡ Ticks) where
  as_ticks : (place : ℕ) → TouchesNone means Ticks kept from place → TouchesNone means deed kept from place
  as_ticks place none = subst (λ (d : Deed). TouchesNone means d kept from place) (sym ticks) none

  pub due_none : (r : Option ℕ) → IfNone r (NoneDue (map moment_of kept) means.moment from (length kept)) → IfNone r (TouchesNone means deed kept from (length kept))
  due_none None none = as_ticks (length kept) (ticks_none means kept from (length kept) (omega arith) none)
  due_none (Some place) none = none

  pub due_next : (r : Option ℕ) → IfSome r (λ place. place < length kept) → IfSome r (IsFirstDue (map moment_of kept) means.moment from) → IfSome r (IsNextTouched means deed kept from)
  due_next None within first = within
  due_next (Some place) within first = record {
    behind = first.behind;
    within = within;
    passed = as_ticks place (ticks_none means kept from place (omega (arith, within)) first.first);
  }

module _ (means : Means) (deed : Deed) (kept : List Kept) where
  -- the own records of a name stay as they are from a place on
  abbrev pub SameOwn : List (List ℕ) → ℕ → Type 0
  SameOwn name place = of_name name (own_in (later_from means deed place (drop place kept))) ≡ of_name name (own_in (drop place kept))

  pub own_passed : (name : List (List ℕ)) (from place : ℕ) → from ≤ place → place ≤ length kept → TouchesNone means deed kept from place → SameOwn name place → SameOwn name from
  own_passed name from place h within none =
      back_to (SameOwn name) from place h (λ k low high there.
      let inside : k < length kept = omega arith in
      let one = element kept k inside in
      let next : suc k ≡ k + 1 = omega arith in
      same_more means deed kept k one.0 inside one.1 name
      (ap (λ o. option_map_or (shown_own name) o []) (untouched means deed k one.0 (none k one.0 low high one.1)))
      (subst (SameOwn name) next there))

  pub own_end : (name : List (List ℕ)) → SameOwn name (length kept)
  own_end name =
      let gone : drop (length kept) kept ≡ [] = drop_all (length kept) kept (omega arith) in
      ap (λ (l : List Kept). of_name name (own_in (later_from means deed (length kept) l))) gone
      ∙ sym (ap (λ (l : List Kept). of_name name (own_in l)) gone)

  -- and so does the answer of a registration
  abbrev pub SameAnswers : ℕ → ℕ → List Kept → ℕ → Type 0
  SameAnswers session op new place = registered_answers session op (later_from means deed place (drop place kept) ++ new) ≡ registered_answers session op (drop place kept)

  pub answers_passed : (session op : ℕ) (new : List Kept) (from place : ℕ) → from ≤ place → place ≤ length kept → TouchesNone means deed kept from place → SameAnswers session op new place → SameAnswers session op new from
  answers_passed session op new from place h within none =
      back_to (SameAnswers session op new) from place h (λ k low high there.
      let inside : k < length kept = omega arith in
      let one = element kept k inside in
      let next : suc k ≡ k + 1 = omega arith in
      answers_more means deed kept k one.0 inside one.1 session op new (λ here. untouched means deed k one.0 (none k one.0 low high one.1))
      (subst (SameAnswers session op new) next there))

  pub answers_none : (session op : ℕ) (new : List Kept) → registered_answers session op new ≡ registered_answers session op [] → SameAnswers session op new (length kept)
  answers_none session op new none =
      answers_end means deed kept session op (length kept) new (omega arith) ∙ none
      ∙ sym (ap (registered_answers session op) (drop_all (length kept) kept (omega arith)))
