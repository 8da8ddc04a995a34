-- What claims make of an event is what the entry that follows the history makes of it, and what is then kept stands for the history with it.
use Rattle.std.proofs.Common.{◌≡◌, ℕ, suc, ◌+◌, ◌≤◌, Bool, true, false, cond, not, List, [], ◌∷◌, ◌++◌, map, arith, refl, ap, sym, subst, ◌∙◌, append-nil, inl, inr, Option, Some, None}
use Rattle.std.specs.Prelude.{filter}
use Rattle.std.specs.List.{filter_map, cons_option, AllByRecursion}
use Rattle.std.specs.Option.{option_map, option_to_list, unwrap_or, is_some}
use Rattle.std.proofs.lemmas.List.{map-append}
use Rattle.mdns_history.specs.declared.event.Event.{Event}
use Rattle.mdns_history.specs.declared.event.Event.TheVariants as event
use Rattle.mdns_history.specs.declared.entry.Entry.{Entry}
use Rattle.mdns_history.specs.declared.entry.Sent.{Sent}
use Rattle.mdns_history.specs.InForce.{Duties}
use Rattle.mdns_history.specs.History.{now, latest}
use Rattle.mdns_history.specs.History as history
use Rattle.mdns_history.specs.Groups.{Group, Registration, groups, group_of, number_of, renaming, ends_group, names_of, registered_count}
use Rattle.mdns_history.specs.Sending.{sent_probes}
use Rattle.mdns_history.specs.Fitting.{is_boot, IsLegal}
use Rattle.mdns_happened.specs.Told.{is_tick}
use Rattle.mdns_asserts.proofs.Elements.{In}
use Rattle.mdns_asserts.proofs.HeldNames.{AreDistinct}
use Rattle.mdns_asserts.proofs.Distinct.{are_distinct}
use Rattle.mdns_probe.specs.Claiming.{after_tick}
use Rattle.mdns_probe.specs.Standing.{claim_in, after_other}
use Rattle.mdns_probe.specs.Kept.{Kept, kept_in, all_kept, probes_for}
use Rattle.mdns_probe.proofs.Reading.{probes_are}
use Rattle.mdns_probe.proofs.Legal.{entry_after}
use Rattle.mdns_probe.proofs.Ticking.{claims_follow_ticks}
use Rattle.mdns_probe.proofs.Others.{claims_follow_others}
use Rattle.mdns_claims.specs.State.{Contents, Stands}
use Rattle.mdns_renewals.specs.Occasions.{Occasion, number_after, renewed_if, registration_told, begun_kept}
use Rattle.mdns_claims.specs.Behind.{probes_told, ticked_on, behind, kept_told, contents_told}
use Rattle.mdns_claims.specs.Laws.{Follows, ClaimsFollow}
use Rattle.mdns_claims.proofs.Entered.{registration_next, begun_next, groups_next}
use Rattle.mdns_claims.proofs.Live.{IsOperated, are_operated}
use Rattle.mdns_claims.proofs.Goes.{at, marks_are, number_at, config_at, storm_at, ends_at, goes, begins}

-- what holds of each element of a list
each_in : {X : Type 0} (P : X → Type 0) (xs : List X) → ((x : X) → In x xs → P x) → AllByRecursion P xs
each_in P [] f = tt
each_in P (x ∷ xs) f = (f x (inl refl), each_in P xs (λ y m. f y (inr m)))

-- two lists that are made of one are made alike of each of its elements
each_same : {X Y : Type 0} (f g : X → Y) (xs : List X) → map f xs ≡ map g xs → AllByRecursion (λ x. f x ≡ g x) xs
each_same f g [] e = tt
each_same f g (x ∷ xs) e =
    let first : f x ≡ g x = cc in
    let rest : map f xs ≡ map g xs = cc in
    (first, each_same f g xs rest)

first_part : {X : Type 0} (P : X → Type 0) (xs ys : List X) → AllByRecursion P (xs ++ ys) → AllByRecursion P xs
first_part P [] ys h = tt
first_part P (x ∷ xs) ys h = (h.0, first_part P xs ys h.1)

second_part : {X : Type 0} (P : X → Type 0) (xs ys : List X) → AllByRecursion P (xs ++ ys) → AllByRecursion P ys
second_part P [] ys h = h
second_part P (x ∷ xs) ys h = second_part P xs ys h.1

module _ (duties : Duties) (claiming : duties.claiming ≡ true) (past : List Entry) (moment word : ℕ) (ev : Event) (no_boot : is_boot ev ≡ false) (legal : IsLegal duties past) (later : now past ≤ moment)
    (contents : Contents) (announces : contents.announces ≡ duties.announcing) (stands : Stands contents past) where
  abbrev entry : Entry
  entry = entry_after duties past moment word ev

  abbrev here : Occasion
  here = at duties claiming past moment word ev no_boot contents stands

  low : AllByRecursion (λ (group : Group). group.id ≤ registered_count past) (groups past)
  low = let distinct : AreDistinct past = are_distinct duties past legal in each_in (λ (group : Group). group.id ≤ registered_count past) (groups past) distinct.low

  all_groups : groups (entry ∷ past) ≡ filter (λ group. not (ends_group entry group)) (groups past) ++ option_to_list (begun_next duties past moment word ev)
  all_groups = groups_next duties past moment word ev no_boot

  -- behind any entry but a tick
  module _ (no_tick : is_tick ev ≡ false) where
    abbrev IsOther : Group → Type 0
    IsOther group = claim_in (entry ∷ past) group ≡ after_other entry past group

    others : AllByRecursion IsOther (filter (λ group. not (ends_group entry group)) (groups past) ++ option_to_list (begun_next duties past moment word ev))
    others =
        subst (AllByRecursion IsOther) all_groups
        (each_same (claim_in (entry ∷ past)) (after_other entry past) (groups (entry ∷ past)) (claims_follow_others duties past moment word ev claiming no_boot (untick ev no_tick) legal later))
      where
        untick : (e : Event) → is_tick e ≡ false → history.is_tick e ≡ false
        untick event.Tick h = cc
        untick (event.Boot config) h = refl
        untick event.Attach h = refl
        untick (event.Detach session) h = refl
        untick (event.Call session op request) h = refl
        untick (event.Hear from bytes) h = refl
        untick (event.Take session max) h = refl

    survivors : (gs : List Group) → AllByRecursion (IsOperated past) gs → AllByRecursion (λ (group : Group). group.id ≤ registered_count past) gs →
        AllByRecursion IsOther (filter (λ group. not (ends_group entry group)) gs) →
        filter_map (behind here) (map (kept_in past) gs) ≡ map (kept_in (entry ∷ past)) (filter (λ group. not (ends_group entry group)) gs)
    survivors [] operated below each = refl
    survivors (group ∷ gs) operated below each = of (ends_group entry group) refl each (survivors gs operated.1 below.1)
      where
        rest : List Kept
        rest = filter_map (behind here) (map (kept_in past) gs)

        left : List Group
        left = filter (λ one. not (ends_group entry one)) gs

        of : (b : Bool) → ends_group entry group ≡ b → AllByRecursion IsOther (cond (not b) (group ∷ left) left) → (AllByRecursion IsOther left → rest ≡ map (kept_in (entry ∷ past)) left) →
            cons_option (behind here (kept_in past group)) rest ≡ map (kept_in (entry ∷ past)) (cond (not b) (group ∷ left) left)
        of true e each more =
            (λ i. cons_option (cond (no_tick i) (Some (ticked_on here (kept_in past group))) (cond ((sym (ends_at duties claiming past moment word ev no_boot contents stands group) ∙ e) i) None (Some (renewed_if here (kept_in past group))))) rest)
            ∙ more each
        of false e each more =
            (λ i. cons_option (cond (no_tick i) (Some (ticked_on here (kept_in past group))) (cond ((sym (ends_at duties claiming past moment word ev no_boot contents stands group) ∙ e) i) None (Some (renewed_if here (kept_in past group))))) rest)
            ∙ (λ i. sym (goes duties claiming past moment word ev no_boot contents stands group operated.0 below.0 e each.0) i ∷ more each.1 i)

    starts : (o : Option Registration) → registration_told here.told.call ≡ o →
        AllByRecursion IsOther (option_to_list (option_map (group_of (registered_count past + 1) (names_of (groups past) past)) o)) →
        option_to_list (option_map (begun_kept contents.registered contents.kept here) o) ≡ map (kept_in (entry ∷ past)) (option_to_list (option_map (group_of (registered_count past + 1) (names_of (groups past) past)) o))
    starts None e each = refl
    starts (Some r) e each =
        let distinct : AreDistinct past = are_distinct duties past legal in
        let unnamed : latest (renaming (registered_count past + 1)) past ≡ None = distinct.unnamed (registered_count past + 1) (omega arith) in
        λ i. sym (begins duties claiming past moment word ev no_boot contents stands r e unnamed each.0) i ∷ []

    kept_others : kept_told contents here ≡ all_kept (entry ∷ past)
    kept_others =
        let left : List Group = filter (λ group. not (ends_group entry group)) (groups past) in
        let new : List Group = option_to_list (begun_next duties past moment word ev) in
        ap (λ (ks : List Kept). filter_map (behind here) ks ++ option_to_list (option_map (begun_kept contents.registered contents.kept here) (registration_told here.told.call))) stands.kept
        ∙ (λ i. survivors (groups past) (are_operated duties past legal) low (first_part IsOther left new others) i
        ++ starts (registration_told here.told.call) refl (second_part IsOther left new others) i)
        ∙ sym (map-append (kept_in (entry ∷ past)) left new)
        ∙ ap (map (kept_in (entry ∷ past))) (sym all_groups)

  stands_with : kept_told contents here ≡ all_kept (entry ∷ past) → Stands (contents_told contents here) (entry ∷ past)
  unfolding contents_told registered_count
  stands_with kept = record {
    config = config_at duties claiming past moment word ev no_boot contents stands;
    number = ap (number_after 0 here.marks) stands.number ∙ sym (number_at duties claiming past moment word ev no_boot contents stands 0 1);
    registered = λ i. cond (is_some (sym (registration_next duties past moment word ev) i)) (suc (stands.registered i)) (stands.registered i);
    kept = kept;
    storm = storm_at duties claiming past moment word ev no_boot contents stands;
  }

  sent_are : probes_told (is_tick ev) contents.kept moment ≡ cond (is_tick ev) (sent_probes past moment) []
  sent_are = ap (λ (l : List Sent). cond (is_tick ev) l []) (ap (λ (ks : List Kept). probes_for ks moment) stands.kept ∙ sym (probes_are past moment))

  pub follows_kept : kept_told contents here ≡ all_kept (entry ∷ past) → Follows duties past moment word ev contents
  follows_kept kept = record { marks = marks_are duties claiming past moment word ev no_boot contents stands; sent = sent_are; stands = stands_with kept }

-- behind a tick
module _ (duties : Duties) (claiming : duties.claiming ≡ true) (past : List Entry) (moment word : ℕ) (legal : IsLegal duties past) (later : now past ≤ moment)
    (contents : Contents) (announces : contents.announces ≡ duties.announcing) (stands : Stands contents past) where
  abbrev tick : Entry
  tick = entry_after duties past moment word event.Tick

  abbrev then : Occasion
  then = at duties claiming past moment word event.Tick refl contents stands

  keeps_all : (gs : List Group) → filter (λ group. not (ends_group tick group)) gs ≡ gs
  keeps_all [] = refl
  keeps_all (group ∷ gs) =
      (λ i. cond (not (ends_at duties claiming past moment word event.Tick refl contents stands group i)) (group ∷ filter (λ one. not (ends_group tick one)) gs) (filter (λ one. not (ends_group tick one)) gs))
      ∙ ap (λ l. group ∷ l) (keeps_all gs)

  same_groups : groups (tick ∷ past) ≡ groups past
  same_groups = groups_next duties past moment word event.Tick refl ∙ append-nil (filter (λ group. not (ends_group tick group)) (groups past)) ∙ keeps_all (groups past)

  each : (gs : List Group) → map (claim_in (tick ∷ past)) gs ≡ map (after_tick moment duties.announcing) (map (claim_in past) gs) →
      filter_map (behind then) (map (kept_in past) gs) ≡ map (kept_in (tick ∷ past)) gs
  unfolding number_of
  each [] e = refl
  each (group ∷ gs) e =
      let first : claim_in (tick ∷ past) group ≡ after_tick moment duties.announcing (claim_in past group) = cc in
      let rest : map (claim_in (tick ∷ past)) gs ≡ map (after_tick moment duties.announcing) (map (claim_in past) gs) = cc in
      let claim : after_tick moment contents.announces (claim_in past group) ≡ claim_in (tick ∷ past) group = ap (λ b. after_tick moment b (claim_in past group)) announces ∙ sym first in
      let number : unwrap_or (latest (renaming group.id) past) group.first ≡ unwrap_or (latest (renaming group.id) (tick ∷ past)) group.first =
      sym (number_at duties claiming past moment word event.Tick refl contents stands group.id group.first) in
      λ i. record { group = group; number = number i; claim = claim i } ∷ each gs rest i

  kept_ticks : kept_told contents then ≡ all_kept (tick ∷ past)
  kept_ticks =
      ap (λ (ks : List Kept). filter_map (behind then) ks ++ []) stands.kept
      ∙ append-nil (filter_map (behind then) (all_kept past))
      ∙ each (groups past) (ap (map (claim_in (tick ∷ past))) (sym same_groups) ∙ claims_follow_ticks duties past moment word claiming legal later)
      ∙ ap (map (kept_in (tick ∷ past))) (sym same_groups)

pub claims_follow : ClaimsFollow
claims_follow duties past moment word ev contents claiming announces no_boot legal later stands = of ev no_boot
  where
    other : (e : Event) → is_boot e ≡ false → is_tick e ≡ false → Follows duties past moment word e contents
    other e no_boot no_tick =
        follows_kept duties claiming past moment word e no_boot legal later contents announces stands (kept_others duties claiming past moment word e no_boot legal later contents announces stands no_tick)

    of : (e : Event) → is_boot e ≡ false → Follows duties past moment word e contents
    of event.Tick h = follows_kept duties claiming past moment word event.Tick refl legal later contents announces stands (kept_ticks duties claiming past moment word legal later contents announces stands)
    of (event.Boot config) h = cc
    of event.Attach h = other event.Attach refl refl
    of (event.Detach session) h = other (event.Detach session) refl refl
    of (event.Call session op request) h = other (event.Call session op request) refl refl
    of (event.Hear from bytes) h = other (event.Hear from bytes) refl refl
    of (event.Take session max) h = other (event.Take session max) refl refl
