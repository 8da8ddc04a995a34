-- Each live group but the host's is that of a live registration, and each live registration has its group until that fails.
use Rattle.std.proofs.Common.{◌≡◌, ℕ, suc, ◌+◌, ◌<◌, ◌≤◌, ◌==◌, ◌≢◌, ◌⊎◌, inl, inr, Bool, true, false, cond, not, ◌&&◌, ◌||◌, List, [], ◌∷◌, ◌++◌, Option, Some, None, refl, ap, subst, ◌∙◌, sym, arith}
use Rattle.std.specs.Prelude.{filter}
use Rattle.std.specs.List.{find}
use Rattle.std.specs.Option.{is_some, option_or, option_map, option_and_then, option_to_list}
use Rattle.mdns_history.specs.declared.config.Config.{Config}
use Rattle.mdns_history.specs.declared.config.HostConfig.{HostConfig}
use Rattle.mdns_history.specs.declared.mark.Mark.{Mark}
use Rattle.mdns_history.specs.declared.mark.Mark.TheVariants as mark
use Rattle.mdns_history.specs.declared.entry.Entry.{Entry}
use Rattle.mdns_history.specs.InForce.{Duties}
use Rattle.mdns_history.specs.History.{has_mark}
use Rattle.mdns_history.specs.Hearings.{Heard, brought}
use Rattle.mdns_history.specs.Sessions.{has_op, detached, accepted_in, operations_of, operation_request, ends_operation}
use Rattle.mdns_history.specs.Groups.{Group, Registration, registration_in, registered_count, groups, group_of, host_group, begun_in, ends_group, is_failure_of, names_of}
use Rattle.mdns_history.specs.Claims.{claim_marks}
use Rattle.mdns_history.specs.Fitting.{is_boot, bare_entry, admitted, disturbed_marks, next_entry, boot_entry, IsLegalFrom, IsLegal}
use Rattle.mdns_asserts.proofs.Elements.{In, in_left, in_right, in_filter, of_append, of_filter, of_any, both_no, not_true, not_false}
use Rattle.mdns_asserts.proofs.Numbered.{some_eq, own_id}
use Rattle.mdns_asserts.proofs.Quiet.{is_quiet, mark_cases}
use Rattle.mdns_asserts.proofs.Turns.{id_in, turn_ids}
use Rattle.mdns_asserts.proofs.Registered.{unbooted}
use Rattle.mdns_asserts.proofs.HeldNames.{AreDistinct}
use Rattle.mdns_asserts.proofs.Distinct.{are_distinct}
use Rattle.mdns_groups.specs.Registered.{is_registration, is_registered_by, number_of_registration, has_failed}
use Rattle.mdns_groups.proofs.Accepted.{accepts_alone}
use Rattle.mdns_groups.proofs.Changes.{IsLeft, IsChange, changed}
use Rattle.mdns_groups.proofs.Limits.{accepts}

-- the live group of an operation with a number, or its failure
abbrev pub IsPresent : ℕ → ℕ → ℕ → List Entry → Type 0
IsPresent session op number h = ((group : Group) × In group (groups h) × (group.session ≡ session) × (group.op ≡ op) × (group.id ≡ number)) ⊎ (has_failed number h ≡ true)

-- what holds of the groups of a legal history
pub record AreOwned (h : List Entry) : Type 0 where
  pub host : (group : Group) → In group (groups h) → group.id ≡ 0 → (group.session ≡ 0) × (group.op ≡ 0)
  pub numbered : (group : Group) → In group (groups h) → group.id ≢ 0 → number_of_registration group.session group.op h ≡ Some group.id
  pub owned : (group : Group) → In group (groups h) → group.id ≢ 0 → is_registration group.session group.op h ≡ true
  pub standing : (group : Group) → In group (groups h) → has_failed group.id h ≡ false
  pub later : (id : ℕ) → registered_count h < id → has_failed id h ≡ false
  pub grouped : (session op : ℕ) → is_registration session op h ≡ true → (number : ℕ) × (number_of_registration session op h ≡ Some number) × IsPresent session op number h

failure_is : (id : ℕ) (m : Mark) → is_failure_of id m ≡ true → m ≡ mark.Failed id
failure_is id (mark.Failed group) h = let same : group ≡ id = grind (arith, h) in ap mark.Failed same
failure_is id (mark.Renamed group number) h = cc
failure_is id (mark.Contested group) h = cc
failure_is id (mark.TieLost group) h = cc
failure_is id (mark.Announced group) h = cc
failure_is id (mark.Bad number) h = cc
failure_is id mark.Full h = cc
failure_is id (mark.Asked key why) h = cc
failure_is id (mark.Cut session) h = cc

both_false : (a b : Bool) → (a || b) ≡ false → (a ≡ false) × (b ≡ false)
both_false true b h = cc
both_false false b h = (refl, h)

module _ (duties : Duties) (entry : Entry) (past : List Entry) (determined : entry ≡ next_entry duties past entry.moment entry.word entry.event) (apart : AreDistinct past) (before : AreOwned past) where
  -- what the entry does to the registration of an operation
  change : (session op : ℕ) → IsChange (is_registration session op (entry ∷ past)) (is_registration session op past) (is_registered_by session op (registration_in entry)) (ends_operation session op entry)
  unfolding operations_of operation_request registration_in
  change session op = changed (detached entry.event entry.outcome) (accepted_in entry) session op (operations_of session past)
      (λ call e. accepts_alone entry.event entry.outcome entry.outcome call e)
      (λ call e same start. let here : call.session ≡ session = grind (arith, same) in
      subst (λ s. find (has_op call.op) (operations_of s past) ≡ None) here ((accepts duties entry past determined call e).new start))

  -- A group fails by what was heard, and is there.
  failed_by : (id : ℕ) → In (mark.Failed id) entry.marks → (heard : Heard) × (admitted (bare_entry entry.moment entry.word entry.event past) past (brought entry.event) ≡ Some heard) × (id ≤ registered_count past)
  unfolding claim_marks
  failed_by id m = of (mark_cases duties entry past determined (mark.Failed id) m)
    where
      taken : (o : Option Heard) → admitted (bare_entry entry.moment entry.word entry.event past) past (brought entry.event) ≡ o → In (mark.Failed id) (claim_marks o past) →
          (heard : Heard) × (admitted (bare_entry entry.moment entry.word entry.event past) past (brought entry.event) ≡ Some heard) × (id ≤ registered_count past)
      taken None e k = absurd k
      taken (Some heard) e k =
          let found : (group : Group) × In group (groups past) × (id_in (mark.Failed id) ≡ Some group.id) = turn_ids heard past (groups past) _ (mark.Failed id) k in
          (heard, e, subst (λ n. n ≤ registered_count past) (sym (some_eq id (found.0).id found.2)) (apart.low found.0 found.1))

      of : (is_quiet (mark.Failed id) ≡ true) ⊎ ((duties.claiming ≡ true) × In (mark.Failed id) (disturbed_marks (bare_entry entry.moment entry.word entry.event past) past)) →
          (heard : Heard) × (admitted (bare_entry entry.moment entry.word entry.event past) past (brought entry.event) ≡ Some heard) × (id ≤ registered_count past)
      of (inl quiet) = cc
      of (inr k) = taken (admitted (bare_entry entry.moment entry.word entry.event past) past (brought entry.event)) refl k.1

  -- a group that begins with the entry, and each later one, has no mark Failed
  unfailed : (id : ℕ) → registered_count past < id → has_failed id (entry ∷ past) ≡ false
  unfailed id above = of (has_mark (is_failure_of id) entry) refl
    where
      no : (m n : ℕ) → m ≤ n → n < m → ⊥
      no m n l g = omega (arith, l, g)

      of : (b : Bool) → has_mark (is_failure_of id) entry ≡ b → (b || has_failed id past) ≡ false
      of true e =
          let found : (m : Mark) × In m entry.marks × (is_failure_of id m ≡ true) = of_any (is_failure_of id) entry.marks e in
          absurd (no id (registered_count past) (failed_by id (subst (λ m. In m entry.marks) (failure_is id found.0 found.2) found.1)).2 above)
      of false e = before.later id above

  number_next : (session op : ℕ) → is_registered_by session op (registration_in entry) ≡ false → number_of_registration session op (entry ∷ past) ≡ number_of_registration session op past
  number_next session op e = ap (λ b. option_or (cond b (Some (registered_count past + 1)) None) (number_of_registration session op past)) e

  number_new : (session op : ℕ) → is_registered_by session op (registration_in entry) ≡ true → number_of_registration session op (entry ∷ past) ≡ Some (registered_count past + 1)
  number_new session op e = ap (λ b. option_or (cond b (Some (registered_count past + 1)) None) (number_of_registration session op past)) e

  module _ (no_boot : is_boot entry.event ≡ false) where
    abbrev fresh : Registration → Group
    fresh r = group_of (registered_count past + 1) (names_of (groups past) past) r

    abbrev left : List Group
    left = filter (λ g. not (ends_group entry g)) (groups past)

    begun_is : begun_in entry (registered_count past + 1) (names_of (groups past) past) ≡ option_map fresh (registration_in entry)
    begun_is = ap (λ (c : Option Config). option_or (option_map host_group (option_and_then (λ config. config.host) c)) (option_map fresh (registration_in entry))) (unbooted entry.event no_boot)

    groups_after : groups (entry ∷ past) ≡ left ++ option_to_list (option_map fresh (registration_in entry))
    unfolding groups
    groups_after = ap (λ (x : Option Group). left ++ option_to_list x) begun_is

    -- a live group is one that was left, or the one that began
    abbrev IsOld : Group → Type 0
    IsOld group = In group (groups past) × (ends_operation group.session group.op entry ≡ false) × (has_mark (is_failure_of group.id) entry ≡ false)

    abbrev IsNew : Group → Type 0
    IsNew group = (r : Registration) × (registration_in entry ≡ Some r) × (group ≡ fresh r)

    group_cases : (group : Group) → In group (groups (entry ∷ past)) → IsOld group ⊎ IsNew group
    group_cases group m = of (of_append group left (option_to_list (option_map fresh (registration_in entry))) (subst (λ gs. In group gs) groups_after m))
      where
        begun : (o : Option Registration) → registration_in entry ≡ o → In group (option_to_list (option_map fresh o)) → IsNew group
        begun None e n = absurd n
        begun (Some r) e (inl f) = (r, e, f)
        begun (Some r) e (inr n) = absurd n

        of : In group left ⊎ In group (option_to_list (option_map fresh (registration_in entry))) → IsOld group ⊎ IsNew group
        of (inl n) =
            let k : In group (groups past) × (not (ends_group entry group) ≡ true) = of_filter (λ g. not (ends_group entry g)) group (groups past) n in
            let parts : (ends_operation group.session group.op entry ≡ false) × (has_mark (is_failure_of group.id) entry ≡ false) =
            both_false (ends_operation group.session group.op entry) (has_mark (is_failure_of group.id) entry) (not_true (ends_group entry group) k.1) in
            inl (k.0, parts.0, parts.1)
        of (inr n) = inr (begun (registration_in entry) refl n)

    old_in : (group : Group) → IsOld group → In group (groups (entry ∷ past))
    old_in group old =
        subst (λ gs. In group gs) (sym groups_after)
        (in_left group left (option_to_list (option_map fresh (registration_in entry)))
        (in_filter (λ g. not (ends_group entry g)) group (groups past) old.0 (not_false (ends_group entry group) (rw (old.1, old.2) refl))))

    new_in : (r : Registration) → registration_in entry ≡ Some r → In (fresh r) (groups (entry ∷ past))
    new_in r e =
        subst (λ gs. In (fresh r) gs) (sym groups_after)
        (in_right (fresh r) left (option_to_list (option_map fresh (registration_in entry)))
        (subst (λ (o : Option Registration). In (fresh r) (option_to_list (option_map fresh o))) (sym e) (inl refl)))

    -- the registration of a group that is left is left
    old_left : (group : Group) → IsOld group → group.id ≢ 0 →
        IsLeft (is_registration group.session group.op (entry ∷ past)) (is_registration group.session group.op past) (is_registered_by group.session group.op (registration_in entry)) (ends_operation group.session group.op entry)
    old_left group old other = of (change group.session group.op)
      where
        of : IsChange (is_registration group.session group.op (entry ∷ past)) (is_registration group.session group.op past) (is_registered_by group.session group.op (registration_in entry)) (ends_operation group.session group.op entry) →
            IsLeft (is_registration group.session group.op (entry ∷ past)) (is_registration group.session group.op past) (is_registered_by group.session group.op (registration_in entry)) (ends_operation group.session group.op entry)
        of (inl kept) = kept
        of (inr (inl gone)) = by gone.2
          where
            by : (ends_operation group.session group.op entry ≡ true) ⊎ (is_registration group.session group.op past ≡ false) →
                IsLeft (is_registration group.session group.op (entry ∷ past)) (is_registration group.session group.op past) (is_registered_by group.session group.op (registration_in entry)) (ends_operation group.session group.op entry)
            by (inl ends) = absurd (both_no (ends_operation group.session group.op entry) ends old.1)
            by (inr none) = absurd (both_no (is_registration group.session group.op past) (before.owned group old.0 other) none)
        of (inr (inr begun)) = absurd (both_no (is_registration group.session group.op past) (before.owned group old.0 other) begun.2)

    registered_here : (r : Registration) → registration_in entry ≡ Some r → is_registered_by r.session r.op (registration_in entry) ≡ true
    registered_here r e = ap (is_registered_by r.session r.op) e ∙ rw (own_id r.session, own_id r.op) refl

    -- the registration of the group that begins has begun
    new_begun : (r : Registration) → registration_in entry ≡ Some r → is_registration r.session r.op (entry ∷ past) ≡ true
    new_begun r e = of (change r.session r.op)
      where
        of : IsChange (is_registration r.session r.op (entry ∷ past)) (is_registration r.session r.op past) (is_registered_by r.session r.op (registration_in entry)) (ends_operation r.session r.op entry) → is_registration r.session r.op (entry ∷ past) ≡ true
        of (inl kept) = absurd (both_no (is_registered_by r.session r.op (registration_in entry)) (registered_here r e) kept.1)
        of (inr (inl gone)) = absurd (both_no (is_registered_by r.session r.op (registration_in entry)) (registered_here r e) gone.1)
        of (inr (inr begun)) = begun.0

    -- a registration that was there goes on with its group, unless that fails
    goes_on : (session op number : ℕ) → ends_operation session op entry ≡ false → IsPresent session op number past → IsPresent session op number (entry ∷ past)
    goes_on session op number lasts (inr failed) = inr (of (has_mark (is_failure_of number) entry))
      where
        of : (b : Bool) → (b || has_failed number past) ≡ true
        of true = refl
        of false = failed
    goes_on session op number lasts (inl there) = of (has_mark (is_failure_of number) entry) refl
      where
        of : (b : Bool) → has_mark (is_failure_of number) entry ≡ b → IsPresent session op number (entry ∷ past)
        of true e = inr (ap (λ b. b || has_failed number past) e)
        of false e =
            let group : Group = there.0 in
            inl (
              group,
              old_in group (there.1, ap (λ s. ends_operation s group.op entry) there.2 ∙ ap (λ o. ends_operation session o entry) there.3 ∙ lasts, ap (λ n. has_mark (is_failure_of n) entry) there.4 ∙ e),
              there.2,
              there.3,
              there.4,
            )

    grouped_next : (session op : ℕ) → is_registration session op (entry ∷ past) ≡ true → (number : ℕ) × (number_of_registration session op (entry ∷ past) ≡ Some number) × IsPresent session op number (entry ∷ past)
    grouped_next session op live = of (change session op)
      where
        begun_by : is_registered_by session op (registration_in entry) ≡ true → (o : Option Registration) → registration_in entry ≡ o → is_registered_by session op o ≡ true →
            (number : ℕ) × (number_of_registration session op (entry ∷ past) ≡ Some number) × IsPresent session op number (entry ∷ past)
        begun_by here None e h = cc
        begun_by here (Some r) e h =
            let parts : (r.session ≡ session) × (r.op ≡ op) = same (r.session == session) refl (r.op == op) refl h in
            (registered_count past + 1, number_new session op here, inl (fresh r, new_in r e, parts.0, parts.1, refl))
          where
            same : (a : Bool) → (r.session == session) ≡ a → (b : Bool) → (r.op == op) ≡ b → (a && b) ≡ true → (r.session ≡ session) × (r.op ≡ op)
            same true f true g k = (grind (arith, f), grind (arith, g))
            same true f false g k = cc
            same false f b g k = cc

        of : IsChange (is_registration session op (entry ∷ past)) (is_registration session op past) (is_registered_by session op (registration_in entry)) (ends_operation session op entry) →
            (number : ℕ) × (number_of_registration session op (entry ∷ past) ≡ Some number) × IsPresent session op number (entry ∷ past)
        of (inl kept) =
            let old : (number : ℕ) × (number_of_registration session op past ≡ Some number) × IsPresent session op number past = before.grouped session op (sym kept.0 ∙ live) in
            (old.0, number_next session op kept.1 ∙ old.1, goes_on session op old.0 kept.2 old.2)
        of (inr (inl gone)) = absurd (both_no (is_registration session op (entry ∷ past)) live gone.0)
        of (inr (inr begun)) = begun_by begun.1 (registration_in entry) refl begun.1

    count_grows : registered_count past ≤ registered_count (entry ∷ past)
    unfolding registered_count
    count_grows = of (is_some (registration_in entry))
      where
        of : (b : Bool) → registered_count past ≤ cond b (suc (registered_count past)) (registered_count past)
        of true = omega arith
        of false = omega arith

    lower : (id : ℕ) → registered_count (entry ∷ past) < id → registered_count past < id
    lower id l = omega (arith, l, count_grows)

    owned_next : AreOwned (entry ∷ past)
    owned_next = record {
      host = λ group m e. first group (group_cases group m) e;
      numbered = λ group m other. number group (group_cases group m) other;
      owned = λ group m other. owner group (group_cases group m) other;
      standing = λ group m. stands group (group_cases group m);
      later = λ id above. unfailed id (lower id above);
      grouped = grouped_next;
    }
      where
        not_zero : (n : ℕ) → n + 1 ≡ 0 → ⊥
        not_zero n e = omega (arith, e)

        first : (group : Group) → IsOld group ⊎ IsNew group → group.id ≡ 0 → (group.session ≡ 0) × (group.op ≡ 0)
        first group (inl old) e = before.host group old.0 e
        first group (inr new) e = absurd (not_zero (registered_count past) (sym (ap (λ (g : Group). g.id) new.2) ∙ e))

        number : (group : Group) → IsOld group ⊎ IsNew group → group.id ≢ 0 → number_of_registration group.session group.op (entry ∷ past) ≡ Some group.id
        number group (inl old) other = number_next group.session group.op (old_left group old other).1 ∙ before.numbered group old.0 other
        number group (inr new) other = subst (λ (g : Group). number_of_registration g.session g.op (entry ∷ past) ≡ Some g.id) (sym new.2) (number_new (new.0).session (new.0).op (registered_here new.0 new.1))

        owner : (group : Group) → IsOld group ⊎ IsNew group → group.id ≢ 0 → is_registration group.session group.op (entry ∷ past) ≡ true
        owner group (inl old) other = (old_left group old other).0 ∙ before.owned group old.0 other
        owner group (inr new) other = subst (λ (g : Group). is_registration g.session g.op (entry ∷ past) ≡ true) (sym new.2) (new_begun new.0 new.1)

        stands : (group : Group) → IsOld group ⊎ IsNew group → has_failed group.id (entry ∷ past) ≡ false
        stands group (inl old) = ap (λ b. b || has_failed group.id past) old.2 ∙ before.standing group old.0
        stands group (inr new) = subst (λ (g : Group). has_failed g.id (entry ∷ past) ≡ false) (sym new.2) (unfailed (registered_count past + 1) (omega arith))

-- at the boot there is the host alone, if any
boot_groups : (moment word : ℕ) (config : Config) → groups (boot_entry moment word config ∷ []) ≡ option_to_list (option_map host_group config.host)
unfolding groups registration_in
boot_groups moment word config = of config.host
  where
    of : (h : Option HostConfig) → option_to_list (option_or (option_map host_group h) None) ≡ option_to_list (option_map host_group h)
    of None = refl
    of (Some host) = refl

owned_boot : (moment word : ℕ) (config : Config) → AreOwned (boot_entry moment word config ∷ [])
unfolding operations_of operation_request
owned_boot moment word config = record {
  host = λ group m e. hosted group (there group m);
  numbered = λ group m other. absurd (other (hosts group (there group m)));
  owned = λ group m other. absurd (other (hosts group (there group m)));
  standing = λ group m. refl;
  later = λ id above. refl;
  grouped = λ session op live. cc;
}
  where
    there : (group : Group) → In group (groups (boot_entry moment word config ∷ [])) → In group (option_to_list (option_map host_group config.host))
    there group m = subst (λ gs. In group gs) (boot_groups moment word config) m

    from_host : (group : Group) (o : Option HostConfig) → In group (option_to_list (option_map host_group o)) → (host : HostConfig) × (group ≡ host_group host)
    from_host group None m = absurd m
    from_host group (Some host) (inl e) = (host, e)
    from_host group (Some host) (inr m) = absurd m

    hosted : (group : Group) → In group (option_to_list (option_map host_group config.host)) → (group.session ≡ 0) × (group.op ≡ 0)
    hosted group m = let is : (host : HostConfig) × (group ≡ host_group host) = from_host group config.host m in (ap (λ (g : Group). g.session) is.1, ap (λ (g : Group). g.op) is.1)

    hosts : (group : Group) → In group (option_to_list (option_map host_group config.host)) → group.id ≡ 0
    hosts group m = let is : (host : HostConfig) × (group ≡ host_group host) = from_host group config.host m in ap (λ (g : Group). g.id) is.1

owned_from : (duties : Duties) (entry : Entry) (past : List Entry) → IsLegalFrom duties entry past → AreOwned (entry ∷ past)
owned_from duties entry [] legal = subst (λ e. AreOwned (e ∷ [])) (sym legal.3) (owned_boot entry.moment entry.word legal.0)
owned_from duties entry (before ∷ past) legal =
    owned_next duties entry (before ∷ past) (legal.0).determined (are_distinct duties (before ∷ past) legal.1) (owned_from duties before past legal.1) (legal.0).no_boot

pub are_owned : (duties : Duties) (h : List Entry) → IsLegal duties h → AreOwned h
are_owned duties [] legal = absurd legal
are_owned duties (entry ∷ past) legal = owned_from duties entry past legal
