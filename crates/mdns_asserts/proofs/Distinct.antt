-- The live groups of a legal history have different numbers and different names.
use Rattle.std.proofs.Common.{◌≡◌, ℕ, suc, ◌+◌, ◌^◌, ◌<◌, ◌≤◌, ◌⊎◌, inl, inr, true, false, cond, not, List, [], ◌∷◌, ◌++◌, length, Option, Some, None, refl, ap, subst, ◌∙◌, sym, arith, append-nil, length-append}
use Rattle.std.specs.Prelude.{filter}
use Rattle.std.specs.Option.{is_some, option_or, option_map, option_and_then, option_to_list, unwrap_or}
use Rattle.dns_name.specs.Names.{folded_eq}
use Rattle.mdns_history.specs.declared.config.Config.{Config}
use Rattle.mdns_history.specs.declared.config.HostConfig.{HostConfig}
use Rattle.mdns_history.specs.declared.entry.Entry.{Entry}
use Rattle.mdns_history.specs.InForce.{Duties}
use Rattle.mdns_history.specs.History.{latest}
use Rattle.mdns_history.specs.Hearings.{brought}
use Rattle.mdns_history.specs.Sessions.{accepted_call, accepted_in}
use Rattle.mdns_history.specs.Groups.{Group, Registration, registration_in, registered_count, groups, group_name, group_of, host_group, begun_in, ends_group, names_of, numbered_name, renaming, is_taken}
use Rattle.mdns_history.specs.Outcomes.{early_outcome}
use Rattle.mdns_history.specs.Fitting.{is_boot, bare_entry, admitted, next_entry, boot_entry, IsLegalFrom, IsLegal}
use Rattle.mdns_asserts.proofs.Elements.{In, in_map, of_append, of_filter, of_none, both_no, not_true}
use Rattle.mdns_asserts.proofs.Published.{name_symm}
use Rattle.mdns_asserts.proofs.FreeNumbers.{free_number-free}
use Rattle.mdns_asserts.proofs.Numbered.{HaveNumbers, numbers_filter, numbers_last, few_filter, length_map}
use Rattle.mdns_asserts.proofs.Registered.{accepted-next, registration_of, IsRoomy, register_says, unbooted}
use Rattle.mdns_asserts.proofs.HeldNames.{AreDistinct, AreHeld, calm, calm_name, are_held, unnamed_next, name_after}

module _ (duties : Duties) (entry : Entry) (past : List Entry) (determined : entry ≡ next_entry duties past entry.moment entry.word entry.event) (before : AreDistinct past) where
  -- the registrations and groups behind the entry
  count_after : (o : Option Registration) → registration_in entry ≡ o → registered_count (entry ∷ past) ≡ cond (is_some o) (suc (registered_count past)) (registered_count past)
  unfolding registered_count
  count_after o e = ap (λ x. cond (is_some x) (suc (registered_count past)) (registered_count past)) e

  begun_is : is_boot entry.event ≡ false → begun_in entry (registered_count past + 1) (names_of (groups past) past) ≡ option_map (group_of (registered_count past + 1) (names_of (groups past) past)) (registration_in entry)
  begun_is no_boot = ap (λ (c : Option Config). option_or (option_map host_group (option_and_then (λ config. config.host) c)) (option_map (group_of (registered_count past + 1) (names_of (groups past) past)) (registration_in entry))) (unbooted entry.event no_boot)

  groups_after : is_boot entry.event ≡ false → (o : Option Registration) → registration_in entry ≡ o →
      groups (entry ∷ past) ≡ filter (λ g. not (ends_group entry g)) (groups past) ++ option_to_list (option_map (group_of (registered_count past + 1) (names_of (groups past) past)) o)
  unfolding groups
  groups_after no_boot o e =
      ap (λ (x : Option Group). filter (λ g. not (ends_group entry g)) (groups past) ++ option_to_list x) (begun_is no_boot ∙ ap (option_map (group_of (registered_count past + 1) (names_of (groups past) past))) e)

  left_names : (a b : Group) → In a (groups past) → ends_group entry a ≡ false → In b (groups past) → ends_group entry b ≡ false → folded_eq (group_name a (entry ∷ past)) (group_name b (entry ∷ past)) ≡ true → a.id ≡ b.id
  left_names a b m i n j e =
      let held : AreHeld duties entry past determined before = are_held duties entry past determined before in
      held.1 (record { id = a.id; name = group_name a (entry ∷ past) }) (record { id = b.id; name = group_name b (entry ∷ past) }) (held.2 a m i) (held.2 b n j) e

  kept_group : (group : Group) → In group (filter (λ g. not (ends_group entry g)) (groups past)) → In group (groups past) × (ends_group entry group ≡ false)
  kept_group group m = let k : In group (groups past) × (not (ends_group entry group) ≡ true) = of_filter (λ g. not (ends_group entry g)) group (groups past) m in (k.0, not_true (ends_group entry group) k.1)

  -- an entry that registers nothing
  distinct_kept : is_boot entry.event ≡ false → registration_in entry ≡ None → AreDistinct (entry ∷ past)
  distinct_kept no_boot none =
      let left : List Group = filter (λ g. not (ends_group entry g)) (groups past) in
      let are : groups (entry ∷ past) ≡ left = groups_after no_boot None none ∙ append-nil left in
      let count : registered_count (entry ∷ past) ≡ registered_count past = count_after None none in
      let fewer : length left ≤ length (groups past) = few_filter (λ g. not (ends_group entry g)) (groups past) in
      record {
        numbers = subst HaveNumbers (sym are) (numbers_filter (λ g. not (ends_group entry g)) (groups past) before.numbers);
        low = λ group m. subst (λ n. group.id ≤ n) (sym count) (before.low group (kept_group group (subst (λ gs. In group gs) are m)).0);
        names = λ a b m n e.
            let k : In a (groups past) × (ends_group entry a ≡ false) = kept_group a (subst (λ gs. In a gs) are m) in
            let l : In b (groups past) × (ends_group entry b ≡ false) = kept_group b (subst (λ gs. In b gs) are n) in
            left_names a b k.0 k.1 l.0 l.1 e;
        few = subst (λ gs. length gs ≤ registered_count (entry ∷ past) + 1) (sym are) (subst (λ n. length left ≤ n + 1) (sym count) (omega (arith, fewer, before.few)));
        within = subst (λ n. n ≤ 2 ^ 63) (sym count) before.within;
        unnamed = λ id above. unnamed_next duties entry past determined before id (subst (λ n. n < id) count above);
      }

  -- an entry that registers a group
  distinct_more : is_boot entry.event ≡ false → (r : Registration) → registration_in entry ≡ Some r → AreDistinct (entry ∷ past)
  unfolding registration_in
  distinct_more no_boot r some =
      let left : List Group = filter (λ g. not (ends_group entry g)) (groups past) in
      let fresh : Group = group_of (registered_count past + 1) (names_of (groups past) past) r in
      let are : groups (entry ∷ past) ≡ left ++ fresh ∷ [] = groups_after no_boot (Some r) some in
      let count : registered_count (entry ∷ past) ≡ suc (registered_count past) = count_after (Some r) some in
      let fewer : length left ≤ length (groups past) = few_filter (λ g. not (ends_group entry g)) (groups past) in
      let long : length (left ++ fresh ∷ []) ≡ length left + 1 = length-append left (fresh ∷ []) in
      let accepted : accepted_in entry ≡ accepted_call entry.event (early_outcome entry.event past) = ap accepted_in determined ∙ accepted-next duties past entry.moment entry.word entry.event in
      let roomy : IsRoomy entry.event past = register_says entry.event past r (sym (ap (option_and_then registration_of) accepted) ∙ some) in
      let room : registered_count past < 2 ^ 63 = grind (arith, roomy.1) in
      let silent : admitted (bare_entry entry.moment entry.word entry.event past) past (brought entry.event) ≡ None = ap (admitted (bare_entry entry.moment entry.word entry.event past) past) roomy.0 in
      record {
        numbers = subst HaveNumbers (sym are) (numbers_last left fresh (numbers_filter (λ g. not (ends_group entry g)) (groups past) before.numbers)
            (λ other m e. absurd (above other (before.low other (kept_group other m).0) e)));
        low = λ group m. subst (λ n. group.id ≤ n) (sym count) (of_low group (of_append group left (fresh ∷ []) (subst (λ gs. In group gs) are m)));
        names = λ a b m n e. of_names silent a b (of_append a left (fresh ∷ []) (subst (λ gs. In a gs) are m)) (of_append b left (fresh ∷ []) (subst (λ gs. In b gs) are n)) e;
        few = subst (λ gs. length gs ≤ registered_count (entry ∷ past) + 1) (sym are) (subst (λ n. length (left ++ fresh ∷ []) ≤ n + 1) (sym count) (omega (arith, fewer, before.few, long)));
        within = subst (λ n. n ≤ 2 ^ 63) (sym count) (omega (arith, room));
        unnamed = λ id more. unnamed_next duties entry past determined before id (lower id (subst (λ n. n < id) count more));
      }
    where
      lower : (id : ℕ) → suc (registered_count past) < id → registered_count past < id
      lower id l = omega (arith, l)

      above : (other : Group) → other.id ≤ registered_count past → registered_count past + 1 ≡ other.id → ⊥
      above other l e = no other.id (registered_count past) l e
        where
          no : (a b : ℕ) → a ≤ b → b + 1 ≡ a → ⊥
          no a b l e = omega (arith, l, e)

      of_low : (group : Group) → In group (filter (λ g. not (ends_group entry g)) (groups past)) ⊎ In group (group_of (registered_count past + 1) (names_of (groups past) past) r ∷ []) → group.id ≤ suc (registered_count past)
      of_low group (inl m) = let l : group.id ≤ registered_count past = before.low group (kept_group group m).0 in omega (arith, l)
      of_low group (inr (inl e)) = let same : group.id ≡ registered_count past + 1 = ap (λ (g : Group). g.id) e in omega (arith, same)
      of_low group (inr (inr m)) = absurd m

      fresh_name : admitted (bare_entry entry.moment entry.word entry.event past) past (brought entry.event) ≡ None → (old : Group) → In old (groups past) →
          folded_eq (group_name (group_of (registered_count past + 1) (names_of (groups past) past) r) (entry ∷ past)) (group_name old (entry ∷ past)) ≡ false
      fresh_name silent old m =
          let fresh : Group = group_of (registered_count past + 1) (names_of (groups past) past) r in
          let names : List (List (List ℕ)) = names_of (groups past) past in
          let unnamed : latest (renaming (registered_count past + 1)) past ≡ None = before.unnamed (registered_count past + 1) (omega arith) in
          let named : group_name fresh (entry ∷ past) ≡ numbered_name fresh fresh.first =
          name_after fresh entry past None (calm duties entry past determined before (inr silent) (registered_count past + 1)) ∙ ap (λ (o : Option ℕ). numbered_name fresh (unwrap_or o fresh.first)) unnamed in
          let many : length names ≡ length (groups past) = length_map (λ group. group_name group past) (groups past) in
          let free : is_taken names (numbered_name fresh fresh.first) ≡ false = free_number-free 1 names (record fresh { first = 1 }) (omega arith) (omega (arith, many, before.few, before.within)) in
          ap (λ name. folded_eq name (group_name old (entry ∷ past))) named
          ∙ ap (folded_eq (numbered_name fresh fresh.first)) (calm_name duties entry past determined before old (calm duties entry past determined before (inr silent) old.id))
          ∙ of_none (folded_eq (numbered_name fresh fresh.first)) names (group_name old past) free (in_map (λ group. group_name group past) old (groups past) m)

      of_names : admitted (bare_entry entry.moment entry.word entry.event past) past (brought entry.event) ≡ None → (a b : Group) →
          In a (filter (λ g. not (ends_group entry g)) (groups past)) ⊎ In a (group_of (registered_count past + 1) (names_of (groups past) past) r ∷ []) →
          In b (filter (λ g. not (ends_group entry g)) (groups past)) ⊎ In b (group_of (registered_count past + 1) (names_of (groups past) past) r ∷ []) →
          folded_eq (group_name a (entry ∷ past)) (group_name b (entry ∷ past)) ≡ true → a.id ≡ b.id
      of_names silent a b (inl m) (inl n) e =
          let k : In a (groups past) × (ends_group entry a ≡ false) = kept_group a m in
          let l : In b (groups past) × (ends_group entry b ≡ false) = kept_group b n in
          left_names a b k.0 k.1 l.0 l.1 e
      of_names silent a b (inr (inl i)) (inr (inl j)) e = ap (λ (g : Group). g.id) (i ∙ sym j)
      of_names silent a b (inr (inl i)) (inl n) e =
          absurd (both_no (folded_eq (group_name a (entry ∷ past)) (group_name b (entry ∷ past))) e (ap (λ g. folded_eq (group_name g (entry ∷ past)) (group_name b (entry ∷ past))) i ∙ fresh_name silent b (kept_group b n).0))
      of_names silent a b (inl m) (inr (inl j)) e =
          absurd (both_no (folded_eq (group_name b (entry ∷ past)) (group_name a (entry ∷ past))) (name_symm (group_name a (entry ∷ past)) (group_name b (entry ∷ past)) e)
          (ap (λ g. folded_eq (group_name g (entry ∷ past)) (group_name a (entry ∷ past))) j ∙ fresh_name silent a (kept_group a m).0))
      of_names silent a b (inr (inr m)) n e = absurd m
      of_names silent a b m (inr (inr n)) e = absurd n

  distinct_next : is_boot entry.event ≡ false → AreDistinct (entry ∷ past)
  distinct_next no_boot = of (registration_in entry) refl
    where
      of : (o : Option Registration) → registration_in entry ≡ o → AreDistinct (entry ∷ past)
      of None e = distinct_kept no_boot e
      of (Some r) e = distinct_more no_boot r e

-- at the boot there is the host alone, if any
boot_groups : (moment word : ℕ) (config : Config) → groups (boot_entry moment word config ∷ []) ≡ option_to_list (option_map host_group config.host)
unfolding groups registration_in
boot_groups moment word config = of config.host
  where
    of : (h : Option HostConfig) → option_to_list (option_or (option_map host_group h) None) ≡ option_to_list (option_map host_group h)
    of None = refl
    of (Some host) = refl

distinct_boot : (moment word : ℕ) (config : Config) → AreDistinct (boot_entry moment word config ∷ [])
unfolding registered_count registration_in
distinct_boot moment word config = of config.host (boot_groups moment word config)
  where
    h : List Entry
    h = boot_entry moment word config ∷ []

    of : (host : Option HostConfig) → groups (boot_entry moment word config ∷ []) ≡ option_to_list (option_map host_group host) → AreDistinct (boot_entry moment word config ∷ [])
    of None are = record {
      numbers = subst HaveNumbers (sym are) tt;
      low = λ group m. absurd (subst (λ gs. In group gs) are m);
      names = λ a b m n e. absurd (subst (λ gs. In a gs) are m);
      few = subst (λ gs. length gs ≤ 1) (sym are) (omega arith);
      within = omega arith;
      unnamed = λ id above. refl;
    }
    of (Some host) are = record {
      numbers = subst HaveNumbers (sym are) ((λ other m. absurd m), tt);
      low = λ group m. only group (subst (λ gs. In group gs) are m);
      names = λ a b m n e. both a b (subst (λ gs. In a gs) are m) (subst (λ gs. In b gs) are n);
      few = subst (λ gs. length gs ≤ 1) (sym are) (omega arith);
      within = omega arith;
      unnamed = λ id above. refl;
    }
      where
        only : (group : Group) → In group (host_group host ∷ []) → group.id ≤ 0
        only group (inl e) = let zero_id : group.id ≡ 0 = ap (λ (g : Group). g.id) e in omega (arith, zero_id)
        only group (inr m) = absurd m

        both : (a b : Group) → In a (host_group host ∷ []) → In b (host_group host ∷ []) → a.id ≡ b.id
        both a b (inl e) (inl f) = ap (λ (g : Group). g.id) (e ∙ sym f)
        both a b (inr m) n = absurd m
        both a b m (inr n) = absurd n

distinct_from : (duties : Duties) (entry : Entry) (past : List Entry) → IsLegalFrom duties entry past → AreDistinct (entry ∷ past)
distinct_from duties entry [] legal = subst (λ e. AreDistinct (e ∷ [])) (sym legal.3) (distinct_boot entry.moment entry.word legal.0)
distinct_from duties entry (before ∷ past) legal = distinct_next duties entry (before ∷ past) (legal.0).determined (distinct_from duties before past legal.1) (legal.0).no_boot

-- The live groups of a legal history have different numbers and different names.
pub are_distinct : (duties : Duties) (h : List Entry) → IsLegal duties h → AreDistinct h
are_distinct duties [] legal = absurd legal
are_distinct duties (entry ∷ past) legal = distinct_from duties entry past legal
