-- The groups behind a deed: what it makes of each, and the one that it begins.
use Rattle.std.proofs.Common.{◌≡◌, ℕ, ◌+◌, ◌<◌, ◌≤◌, Bool, true, false, cond, not, ◌||◌, ◌⊎◌, List, [], ◌∷◌, ◌++◌, map, length, get_or, drop, refl, ap, sym, ◌∙◌, append-nil, Option, Some, None, inl, inr, arith}
use Rattle.std.specs.List.{cons_option}
use Rattle.std.specs.Option.{option_map, option_map_or, option_to_list, is_some}
use Rattle.std.proofs.lemmas.Bool.{cases_lt}
use Rattle.std.proofs.lemmas.List.{drop_more, drop_all, get_or_past}
use Rattle.mdns_history.specs.Groups.{Group}
use Rattle.mdns_probe.specs.Kept.{Kept}
use Rattle.mdns_claims.specs.declared.plan.Deed.{Deed}
use Rattle.mdns_claims.specs.declared.plan.Deed.TheVariants.{Nothing, Ticks, Begins, Ends, Changes}
use Rattle.mdns_claimants.specs.declared.renewal.Renewal.{Renewal}
use Rattle.mdns_renewals.specs.Occasions.{ends_by}
use Rattle.mdns_claimants.specs.Due.{ticked_at}
use Rattle.mdns_claims.specs.Later.{shown_of, shown_own, later_of, later_from, begun_by, is_still, takes_none, touches}
use Rattle.mdns_claimants.specs.Named.{with_renewal, with_renewals}
use Rattle.mdns_claimants.specs.Owned.{of_name}
use Rattle.mdns_claimants.proofs.Bits.{none_claimed}
use Rattle.mdns_probe.specs.Claiming.{is_settle_due}
use Rattle.mdns_claims.specs.Planned.{Means, going_on, kept_by}
use Rattle.mdns_claims.proofs.Ticked.{shown_ticked}

kept_or : {X : Type 0} (b : Bool) (one : X) (rest : List X) → cond (not b) (one ∷ rest) rest ≡ cons_option (cond b None (Some one)) rest
kept_or true one rest = refl
kept_or false one rest = refl

none_left : (renewals : List (Option Renewal)) → with_renewals renewals [] ≡ []
none_left [] = refl
none_left (renewal ∷ renewals) = refl

same_group : (o : Option Renewal) (one : Kept) → (with_renewal o one).group ≡ one.group
same_group None one = refl
same_group (Some renewal) one = refl

-- the first group gets the renewal in its place
first_renewed : (renewals : List (Option Renewal)) (place : ℕ) (one : Kept) (kept : List Kept) →
    with_renewals (drop place renewals) (one ∷ kept) ≡ with_renewal (get_or renewals place None) one ∷ with_renewals (drop (place + 1) renewals) kept
first_renewed renewals place one kept = of (cases_lt place (length renewals))
  where
    of : (place < length renewals) ⊎ (length renewals ≤ place) → with_renewals (drop place renewals) (one ∷ kept) ≡ with_renewal (get_or renewals place None) one ∷ with_renewals (drop (place + 1) renewals) kept
    of (inl within) = ap (λ (rs : List (Option Renewal)). with_renewals rs (one ∷ kept)) (drop_more renewals place None within)
    of (inr past) =
        ap (λ (rs : List (Option Renewal)). with_renewals rs (one ∷ kept)) (drop_all place renewals past)
        ∙ sym (λ i. with_renewal (get_or_past renewals place None past i) one ∷ with_renewals (drop_all (place + 1) renewals (omega arith) i) kept)

module _ (means : Means) where
  unchanged_from : (deed : Deed) → ((place : ℕ) (one : Kept) → later_of means deed place one ≡ Some one) → (place : ℕ) (kept : List Kept) → later_from means deed place kept ≡ kept
  unchanged_from deed same place [] = refl
  unchanged_from deed same place (one ∷ kept) = λ i. cons_option (same place one i) (unchanged_from deed same (place + 1) kept i)

  -- a deed that leaves all groups as they are
  pub still_from : (deed : Deed) → is_still deed ≡ true → (place : ℕ) (kept : List Kept) → later_from means deed place kept ≡ kept
  still_from Nothing e place kept = unchanged_from Nothing (λ p one. refl) place kept
  still_from Ticks e place kept = absurd (cc)
  still_from (Begins new) e place kept = unchanged_from (Begins new) (λ p one. refl) place kept
  still_from Ends e place kept = absurd (cc)
  still_from (Changes renewals) e place kept = absurd (cc)

  ticked_from : (place : ℕ) (kept : List Kept) → later_from means Ticks place kept ≡ map (ticked_at means.moment means.announces) kept
  ticked_from place [] = refl
  ticked_from place (one ∷ kept) = ap (λ (l : List Kept). ticked_at means.moment means.announces one ∷ l) (ticked_from (place + 1) kept)

  ended_from : (place : ℕ) (kept : List Kept) → later_from means Ends place kept ≡ going_on means.told means.marks kept
  ended_from place [] = refl
  ended_from place (one ∷ kept) =
      ap (cons_option (cond (ends_by means.told means.marks one.group) None (Some one))) (ended_from (place + 1) kept)
      ∙ sym (kept_or (ends_by means.told means.marks one.group) one (going_on means.told means.marks kept))

  changed_from : (deed : Deed) (renewals : List (Option Renewal)) →
      ((place : ℕ) (one : Kept) → later_of means deed place one ≡ cond (ends_by means.told means.marks one.group) None (Some (with_renewal (get_or renewals place None) one))) →
      (place : ℕ) (kept : List Kept) → later_from means deed place kept ≡ going_on means.told means.marks (with_renewals (drop place renewals) kept)
  changed_from deed renewals later place [] = sym (ap (going_on means.told means.marks) (none_left (drop place renewals)))
  changed_from deed renewals later place (one ∷ kept) =
      let after : Kept = with_renewal (get_or renewals place None) one in
      (λ i. cons_option (later place one i) (changed_from deed renewals later (place + 1) kept i))
      ∙ sym (kept_or (ends_by means.told means.marks one.group) after (going_on means.told means.marks (with_renewals (drop (place + 1) renewals) kept)))
      ∙ ap (λ (g : Group). cond (not (ends_by means.told means.marks g)) (after ∷ going_on means.told means.marks (with_renewals (drop (place + 1) renewals) kept)) (going_on means.told means.marks (with_renewals (drop (place + 1) renewals) kept)))
      (sym (same_group (get_or renewals place None) one))
      ∙ ap (going_on means.told means.marks) (sym (first_renewed renewals place one kept))

  pub later_all : (deed : Deed) (kept : List Kept) → kept_by means kept deed ≡ later_from means deed 0 kept ++ option_to_list (begun_by deed)
  later_all Nothing kept = sym (append-nil (later_from means Nothing 0 kept) ∙ still_from Nothing refl 0 kept)
  later_all Ticks kept = sym (append-nil (later_from means Ticks 0 kept) ∙ ticked_from 0 kept)
  later_all (Begins one) kept = ap (λ (l : List Kept). l ++ one ∷ []) (sym (still_from (Begins one) refl 0 kept))
  later_all Ends kept = sym (append-nil (later_from means Ends 0 kept) ∙ ended_from 0 kept)
  later_all (Changes renewals) kept = sym (append-nil (later_from means (Changes renewals) 0 kept) ∙ changed_from (Changes renewals) renewals.items (λ p one. refl) 0 kept)

  either_false : (a b : Bool) → (a || b) ≡ false → (a ≡ false) × (b ≡ false)
  either_false false false h = (refl, refl)
  either_false true b h = absurd (cc)
  either_false false true h = absurd (cc)

  none_of : {X : Type 0} (o : Option X) → is_some o ≡ false → o ≡ None
  none_of None h = refl
  none_of (Some x) h = absurd (cc)

  or_false : (b : Bool) → (b || false) ≡ b
  or_false true = refl
  or_false false = refl

  -- of a group that a deed doesn't touch the same is seen
  pub untouched : (deed : Deed) (place : ℕ) (one : Kept) → touches means deed place one ≡ false → option_map shown_of (later_of means deed place one) ≡ Some (shown_of one)
  untouched Nothing place one e = refl
  untouched Ticks place one e =
      ap Some (shown_ticked means.moment means.announces one
      ∙ ap (λ (b : Bool). record { group = one.group; number = one.number; sure = b; unique = one.claim.unique; shared = one.claim.shared }) (ap (λ (b : Bool). one.claim.sure || b) e ∙ or_false one.claim.sure))
  untouched (Begins new) place one e = refl
  untouched Ends place one e = ap (λ (b : Bool). option_map shown_of (cond b None (Some one))) e
  untouched (Changes renewals) place one e =
      let parts = either_false (ends_by means.told means.marks one.group) (is_some (get_or renewals.items place None)) e in
      ap (λ (b : Bool). option_map shown_of (cond b None (Some (with_renewal (get_or renewals.items place None) one)))) parts.0
      ∙ ap (λ (o : Option Renewal). Some (shown_of (with_renewal o one))) (none_of (get_or renewals.items place None) parts.1)

  -- a group that goes on stays the group that it is
  pub later_group : (deed : Deed) (place : ℕ) (one after : Kept) → later_of means deed place one ≡ Some after → after.group ≡ one.group
  later_group Nothing place one after e = cc
  later_group Ticks place one after e = cc
  later_group (Begins new) place one after e = cc
  later_group Ends place one after e = of (ends_by means.told means.marks one.group) e
    where
      of : (b : Bool) → cond b None (Some one) ≡ Some after → after.group ≡ one.group
      of true h = cc
      of false h = cc
  later_group (Changes renewals) place one after e = of (ends_by means.told means.marks one.group) e
    where
      same : Some (with_renewal (get_or renewals.items place None) one) ≡ Some after → with_renewal (get_or renewals.items place None) one ≡ after
      same h = cc

      of : (b : Bool) → cond b None (Some (with_renewal (get_or renewals.items place None) one)) ≡ Some after → after.group ≡ one.group
      of true h = cc
      of false h = sym (ap (λ (k : Kept). k.group) (same h)) ∙ same_group (get_or renewals.items place None) one

  -- a deed that renews no group gives none a record of a name that it has none of
  pub none_later : (deed : Deed) (place : ℕ) (one : Kept) (name : List (List ℕ)) → takes_none deed ≡ true → of_name name (one.claim.unique ++ one.claim.shared) ≡ [] →
      option_map_or (shown_own name) (option_map shown_of (later_of means deed place one)) [] ≡ []
  none_later Nothing place one name e none = none_claimed name one.claim.sure one.claim none
  none_later Ticks place one name e none =
      ap (shown_own name) (shown_ticked means.moment means.announces one)
      ∙ none_claimed name (one.claim.sure || is_settle_due means.moment one.claim) one.claim none
  none_later (Begins new) place one name e none = none_claimed name one.claim.sure one.claim none
  none_later Ends place one name e none = absurd (cc)
  none_later (Changes renewals) place one name e none = absurd (cc)
