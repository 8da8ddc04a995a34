-- The groups that end with an event that is no boot, and their records. (RFC 6762 10.1)
use Rattle.std.proofs.Common.{◌≡◌, ℕ, ◌+◌, ◌≤◌, ◌==◌, Bool, true, false, not, ◌&&◌, ◌||◌, List, [], ◌∷◌, ◌++◌, refl, ap, sym, ◌∙◌, arith, Option, Some, None}
use Rattle.std.specs.Prelude.{filter}
use Rattle.std.specs.List.{list_any, flat_map}
use Rattle.std.specs.Option.{option_or, option_map, option_and_then, option_to_list}
use Rattle.std.proofs.lemmas.List.Folds.{list_any-append}
use Rattle.mdns_history.specs.declared.event.Event.{Event}
use Rattle.mdns_history.specs.declared.entry.Entry.{Entry}
use Rattle.mdns_history.specs.InForce.{Duties}
use Rattle.mdns_history.specs.Groups.{Group, Registration, groups, is_group, ends_group, group_of, host_group, names_of, registration_in, registered_count, group_records}
use Rattle.mdns_history.specs.Sureness.{is_sure, sure_groups}
use Rattle.mdns_history.specs.Sending.{ended_groups}
use Rattle.mdns_history.specs.Fitting.{bare_entry, is_boot, IsLegal}
use Rattle.mdns_history.proofs.Steps.{groups-cons}
use Rattle.mdns_asserts.proofs.Elements.{In, any_in, none_in, in_filter, of_filter, both_no}
use Rattle.mdns_asserts.proofs.Numbered.{HaveNumbers, numbers_one, own_id, other_id}
use Rattle.mdns_asserts.proofs.HeldNames.{AreDistinct}
use Rattle.mdns_asserts.proofs.Distinct.{are_distinct}
use Rattle.mdns_asserts.proofs.Registered.{unbooted}
use Rattle.mdns_probe.specs.Kept.{kept_in, all_kept}
use Rattle.mdns_claims.specs.Behind.{ends_by}
use Rattle.mdns_claims.specs.Laws.{told_in}
use Rattle.mdns_responding.specs.Announced.{records_in, ended_in}
use Rattle.mdns_responding.proofs.Each.{each_in, filter_twice, all_of}

-- among groups with different numbers one is found alone
alone : (p : Group → Bool) (gs : List Group) → HaveNumbers gs → (group : Group) → In group gs → list_any (λ one. one.id == group.id) (filter p gs) ≡ p group
alone p gs numbers group m = of (p group) refl
  where
    of : (b : Bool) → p group ≡ b → list_any (λ one. one.id == group.id) (filter p gs) ≡ b
    of true e = any_in (λ (one : Group). one.id == group.id) (filter p gs) group (in_filter p group gs m e) (own_id group.id)
    of false e = none_in (λ (one : Group). one.id == group.id) (filter p gs) (λ one n. other_id one.id group.id (λ k.
        let found : In one gs × (p one ≡ true) = of_filter p one gs n in
        both_no (p group) (sym (ap p (numbers_one gs numbers one group found.0 m k)) ∙ found.1) e))

module _ (past : List Entry) (moment word : ℕ) (ev : Event) (no_boot : is_boot ev ≡ false) where
  abbrev bare : Entry
  bare = bare_entry moment word ev past

  abbrev goes : Group → Bool
  goes group = not (ends_group bare group)

  -- the group that begins
  abbrev begun : Option Registration → List Group
  begun o = option_to_list (option_map (group_of (registered_count past + 1) (names_of (groups past) past)) o)

  pub bare_groups : groups (bare ∷ past) ≡ filter goes (groups past) ++ begun (registration_in bare)
  bare_groups =
      groups-cons bare past
      ∙ (λ i. filter goes (groups past) ++ option_to_list (option_or (option_map host_group (option_and_then (λ config. config.host) (unbooted ev no_boot i))) (option_map (group_of (registered_count past + 1) (names_of (groups past) past)) (registration_in bare))))

  module _ (duties : Duties) (legal : IsLegal duties past) where
    -- a live group is live behind the event unless it ends
    pub goes_on : (group : Group) → In group (groups past) → is_group group.id (bare ∷ past) ≡ not (ends_group bare group)
    goes_on group m =
        let distinct : AreDistinct past = are_distinct duties past legal in
        ap (list_any test) bare_groups
        ∙ list_any-append test (filter goes (groups past)) (begun (registration_in bare))
        ∙ (λ i. alone goes (groups past) distinct.numbers group m i || new (distinct.low group m) (registration_in bare) i)
        ∙ or_false (not (ends_group bare group))
      where
        test : Group → Bool
        test one = one.id == group.id

        or_false : (b : Bool) → (b || false) ≡ b
        or_false true = refl
        or_false false = refl

        new : group.id ≤ registered_count past → (o : Option Registration) → list_any test (begun o) ≡ false
        new low None = refl
        new low (Some r) = ap (λ b. b || false) (other_id (registered_count past + 1) group.id (λ e. absurd (omega (arith, low, e))))

    -- the records of the sure groups that end
    pub ended_records : flat_map (λ group. group_records group past) (ended_groups bare past) ≡ records_in (ended_in (told_in past moment word ev) (all_kept past))
    unfolding sure_groups group_records
    ended_records =
        ap (flat_map (λ group. group_records group past)) (filter_twice (λ group. not (is_group group.id (bare ∷ past))) (λ group. is_sure group past) (groups past))
        ∙ all_of (kept_in past) (λ group. is_sure group past && not (is_group group.id (bare ∷ past))) (λ one. one.claim.sure && ends_by (told_in past moment word ev) [] one.group)
        (λ group. group_records group past) (λ one. one.claim.unique ++ one.claim.shared) (groups past) (λ group. refl)
        (each_in (λ group. (is_sure group past && not (is_group group.id (bare ∷ past))) ≡ (is_sure group past && ends_group bare group)) (groups past)
        (λ group m. ap (λ b. is_sure group past && not b) (goes_on group m) ∙ ap (λ b. is_sure group past && b) (twice (ends_group bare group))))
      where
        twice : (b : Bool) → not (not b) ≡ b
        twice true = refl
        twice false = refl
