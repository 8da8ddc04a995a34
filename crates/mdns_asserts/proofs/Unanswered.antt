-- With no sure group of a legal history anything conflicted from its first probe on.
use Rattle.std.proofs.Common.{◌≡◌, ◌+◌, ◌==◌, ◌⊎◌, inl, inr, Bool, true, false, not, ◌&&◌, ◌||◌, List, [], ◌∷◌, Option, Some, None, refl, ap, sym, arith}
use Rattle.std.specs.Prelude.{filter}
use Rattle.std.specs.List.{list_all}
use Rattle.std.specs.Option.{is_some, option_to_list, option_or, option_map, option_map_or, option_and_then}
use Rattle.mdns_history.specs.declared.config.Config.{Config}
use Rattle.mdns_history.specs.declared.config.HostConfig.{HostConfig}
use Rattle.mdns_history.specs.declared.entry.Entry.{Entry}
use Rattle.mdns_history.specs.InForce.{Duties}
use Rattle.mdns_history.specs.History.{has_mark, booted}
use Rattle.mdns_history.specs.Hearings.{heard_in}
use Rattle.mdns_history.specs.Groups.{Group, Registration, groups, group_of, host_group, begun_in, ends_group, registered_count, registration_in, names_of}
use Rattle.mdns_history.specs.Sureness.{registers, sets_back, is_setback_of, is_sure, sure_groups}
use Rattle.mdns_history.specs.Claims.{was_probed}
use Rattle.mdns_history.specs.Fitting.{next_entry, IsLegalFrom}
use Rattle.mdns_asserts.specs.Earned.{conflicts, is_unanswered}
use Rattle.mdns_asserts.proofs.Probes.{never_probed}
use Rattle.mdns_asserts.proofs.Elements.{In, all_in, of_append, of_filter, of_option, or_one, or_two, not_true, both_no, and_both}
use Rattle.mdns_asserts.proofs.Disturbed.{left_unanswered}

-- a group that begins with an entry is registered in it
begun_registers : (entry : Entry) (past : List Entry) (group : Group) → begun_in entry (registered_count past + 1) (names_of (groups past) past) ≡ Some group → sets_back group.id entry past ≡ true
begun_registers entry past group e = of (booted entry.event) refl e
  where
    from : (r : Option Registration) → registration_in entry ≡ r → option_map (group_of (registered_count past + 1) (names_of (groups past) past)) r ≡ Some group → sets_back group.id entry past ≡ true
    from None f g = cc
    from (Some r) f g =
        let id : group.id ≡ registered_count past + 1 = of_some g in
        or_one (registers group.id entry past) (has_mark (is_setback_of group.id) entry)
        (or_two (is_some (booted entry.event) && (group.id == 0)) (is_some (registration_in entry) && (registered_count past + 1 == group.id)) (and_both (is_some (registration_in entry)) (registered_count past + 1 == group.id) (ap is_some f) (grind (arith, id))))
      where
        of_some : Some (group_of (registered_count past + 1) (names_of (groups past) past) r) ≡ Some group → group.id ≡ registered_count past + 1
        of_some k = sym (ap (λ (o : Option Group). option_map_or (λ x. x.id) o 0) k)

    hosted : (config : Config) → booted entry.event ≡ Some config → (h : Option HostConfig) →
        option_or (option_map host_group h) (option_map (group_of (registered_count past + 1) (names_of (groups past) past)) (registration_in entry)) ≡ Some group → sets_back group.id entry past ≡ true
    hosted config f None g = from (registration_in entry) refl g
    hosted config f (Some h) g =
        let id : group.id ≡ 0 = sym (ap (λ (o : Option Group). option_map_or (λ x. x.id) o 0) g) in
        or_one (registers group.id entry past) (has_mark (is_setback_of group.id) entry)
        (or_one (is_some (booted entry.event) && (group.id == 0)) (is_some (registration_in entry) && (registered_count past + 1 == group.id)) (and_both (is_some (booted entry.event)) (group.id == 0) (ap is_some f) (grind (arith, id))))

    of : (c : Option Config) → booted entry.event ≡ c →
        option_or (option_map host_group (option_and_then (λ config. config.host) c)) (option_map (group_of (registered_count past + 1) (names_of (groups past) past)) (registration_in entry)) ≡ Some group →
        sets_back group.id entry past ≡ true
    of None f g = from (registration_in entry) refl g
    of (Some config) f g = hosted config f config.host g

-- what is left, or begins, in an entry
pub of_groups : (entry : Entry) (past : List Entry) (group : Group) → In group (groups (entry ∷ past)) →
    (In group (groups past) × (ends_group entry group ≡ false)) ⊎ (begun_in entry (registered_count past + 1) (names_of (groups past) past) ≡ Some group)
unfolding groups
of_groups entry past group m = of (of_append group (filter (λ g. not (ends_group entry g)) (groups past)) _ m)
  where
    of : In group (filter (λ g. not (ends_group entry g)) (groups past)) ⊎ In group (option_to_list (begun_in entry (registered_count past + 1) (names_of (groups past) past))) →
        (In group (groups past) × (ends_group entry group ≡ false)) ⊎ (begun_in entry (registered_count past + 1) (names_of (groups past) past) ≡ Some group)
    of (inl k) = let kept : In group (groups past) × (not (ends_group entry group) ≡ true) = of_filter (λ g. not (ends_group entry g)) group (groups past) k in inl (kept.0, not_true (ends_group entry group) kept.1)
    of (inr k) = inr (of_option group _ k)

-- whether each live group was unanswered
abbrev pub AreUnanswered : List Entry → Type 0
AreUnanswered h = (group : Group) → In group (groups h) → is_unanswered group h ≡ true

-- what is_unanswered says of one more entry
kept_or : (a b c d : Bool) → (a ≡ false → ((b || c) ≡ true) × (d ≡ true)) → (a || ((b || c) && d)) ≡ true
kept_or true b c d h = refl
kept_or false b c d h = and_both (b || c) d (h refl).0 (h refl).1

first_unanswered : (entry : Entry) → AreUnanswered (entry ∷ [])
unfolding groups
first_unanswered entry group m = of (of_groups entry [] group m)
  where
    of : (In group (groups []) × (ends_group entry group ≡ false)) ⊎ (begun_in entry (registered_count [] + 1) (names_of (groups []) []) ≡ Some group) → is_unanswered group (entry ∷ []) ≡ true
    of (inl k) = absurd k.0
    of (inr k) = ap (λ b. b || ((not (was_probed group []) || not (conflicts group [] (heard_in entry))) && true)) (begun_registers entry [] group k)

next_unanswered : (duties : Duties) (entry before : Entry) (past : List Entry) → entry ≡ next_entry duties (before ∷ past) entry.moment entry.word entry.event → IsLegalFrom duties before past →
    AreUnanswered (before ∷ past) → AreUnanswered (entry ∷ before ∷ past)
next_unanswered duties entry before past determined legal earlier group m = of (of_groups entry (before ∷ past) group m)
  where
    open_claim : (b : Bool) → duties.claiming ≡ b → In group (groups (before ∷ past)) → ends_group entry group ≡ false → sets_back group.id entry (before ∷ past) ≡ false →
        (not (was_probed group (before ∷ past)) || not (conflicts group (before ∷ past) (heard_in entry))) ≡ true
    open_claim true e k stays kept = left_unanswered duties entry (before ∷ past) determined e group k stays kept
    open_claim false e k stays kept =
        or_one (not (was_probed group (before ∷ past))) (not (conflicts group (before ∷ past) (heard_in entry))) (ap not (never_probed duties e group before past legal))

    of : (In group (groups (before ∷ past)) × (ends_group entry group ≡ false)) ⊎ (begun_in entry (registered_count (before ∷ past) + 1) (names_of (groups (before ∷ past)) (before ∷ past)) ≡ Some group) →
        is_unanswered group (entry ∷ before ∷ past) ≡ true
    of (inl k) =
        kept_or (sets_back group.id entry (before ∷ past)) (not (was_probed group (before ∷ past))) (not (conflicts group (before ∷ past) (heard_in entry))) (is_unanswered group (before ∷ past))
        (λ kept. (open_claim duties.claiming refl k.0 k.1 kept, earlier group k.0))
    of (inr k) =
        kept_or (sets_back group.id entry (before ∷ past)) (not (was_probed group (before ∷ past))) (not (conflicts group (before ∷ past) (heard_in entry))) (is_unanswered group (before ∷ past))
        (λ kept. absurd (both_no (sets_back group.id entry (before ∷ past)) (begun_registers entry (before ∷ past) group k) kept))

unanswered_from : (duties : Duties) (entry : Entry) (past : List Entry) → IsLegalFrom duties entry past → AreUnanswered (entry ∷ past)
unanswered_from duties entry [] legal = first_unanswered entry
unanswered_from duties entry (before ∷ past) legal = next_unanswered duties entry before past (legal.0).determined legal.1 (unanswered_from duties before past legal.1)

-- With no sure group of a legal history anything conflicted from its first probe on.
pub sure_unanswered : (duties : Duties) (entry : Entry) (past : List Entry) → IsLegalFrom duties entry past → list_all (λ group. is_unanswered group (entry ∷ past)) (sure_groups (entry ∷ past)) ≡ true
unfolding sure_groups
sure_unanswered duties entry past legal =
    all_in (λ group. is_unanswered group (entry ∷ past)) (sure_groups (entry ∷ past))
    (λ group m. unanswered_from duties entry past legal group (of_filter (λ g. is_sure g (entry ∷ past)) group (groups (entry ∷ past)) m).0)
