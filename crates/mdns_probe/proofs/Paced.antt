-- In a legal history of a daemon that claims names, each live group was probed at most three times since it was set back, a gap apart.
use Rattle.std.proofs.Common.{◌≡◌, ℕ, ◌+◌, ◌≤◌, ◌==◌, Bool, true, false, cond, not, ◌&&◌, ◌||◌, List, [], ◌∷◌, ◌++◌, refl, ap, sym, subst, ◌∙◌, Option, Some, None}
use Rattle.std.specs.Prelude.{filter, slice_get}
use Rattle.std.specs.List.{list_any, filter_map, cons_option, AllByRecursion}
use Rattle.std.specs.Option.{option_or, option_map, option_and_then, option_to_list, unwrap_or, is_some}
use Rattle.std.proofs.lemmas.Bool.{eq-eqb, false≢true}
use Rattle.mdns_history.specs.declared.config.Config.{Config}
use Rattle.mdns_history.specs.declared.config.HostConfig.{HostConfig}
use Rattle.mdns_history.specs.declared.event.Event.{Event}
use Rattle.mdns_history.specs.declared.event.Event.TheVariants as event
use Rattle.mdns_history.specs.declared.mark.Mark.{Mark}
use Rattle.mdns_history.specs.declared.mark.Mark.TheVariants as mark
use Rattle.mdns_history.specs.declared.entry.Entry.{Entry}
use Rattle.mdns_history.specs.InForce.{Duties}
use Rattle.mdns_history.specs.History.{now, latest, has_mark, booted, is_tick}
use Rattle.mdns_history.specs.Groups.{Group, groups, group_name, numbered_name, number_of, number_in_mark, renaming, names_of, ends_group, registration_in, Registration, registered_count, group_of, host_group}
use Rattle.mdns_history.specs.Sureness.{registers, is_setback_of, sets_back, probes}
use Rattle.mdns_history.specs.Fitting.{is_boot, boot_entry, next_entry, IsLegalFrom}
use Rattle.mdns_probe.specs.Claiming.{is_probe_due}
use Rattle.mdns_probe.specs.Standing.{claim_in, IsPaced}
use Rattle.mdns_probe.proofs.Distinct.{neither}
use Rattle.mdns_probe.proofs.Legal.{entry_after, not_booted, Holds, holds_legal, boot_groups}
use Rattle.mdns_history.proofs.Steps.{groups-cons}
use Rattle.mdns_probe.proofs.Probes.{probed_where_due, others_probe_none}
use Rattle.mdns_probe.proofs.Places.{each_place, at_place, all-filter, all-append}
use Rattle.mdns_probe.proofs.Spacing.{set_back_paced, kept_paced}

-- a group that isn't set back isn't renamed
pub not_renamed : (id : ℕ) (ms : List Mark) → list_any (is_setback_of id) ms ≡ false → filter_map (number_in_mark id) ms ≡ []
not_renamed id [] h = refl
not_renamed id (m ∷ ms) h =
    let parts = neither (is_setback_of id m) (list_any (is_setback_of id) ms) h in
    (λ i. cons_option (none_in m parts.0 i) (filter_map (number_in_mark id) ms)) ∙ not_renamed id ms parts.1
  where
    none_in : (m : Mark) → is_setback_of id m ≡ false → number_in_mark id m ≡ None
    none_in (mark.Renamed group number) e = ap (λ b. cond b (Some number) None) e
    none_in _ e = refl

pub name_stays : (group : Group) (entry : Entry) (past : List Entry) → sets_back group.id entry past ≡ false → group_name group (entry ∷ past) ≡ group_name group past
unfolding group_name number_of
name_stays group entry past goes =
    let parts = neither (registers group.id entry past) (has_mark (is_setback_of group.id) entry) goes in
    ap (λ ns. numbered_name group (unwrap_or (option_or (slice_get ns 0) (latest (renaming group.id) past)) group.first)) (not_renamed group.id entry.marks parts.1)

module _ (duties : Duties) (claiming : duties.claiming ≡ true) (past : List Entry) (moment word : ℕ) (ev : Event) (no_boot : is_boot ev ≡ false) (holds : Holds past) (later : now past ≤ moment) where
  abbrev entry : Entry
  entry = entry_after duties past moment word ev

  pub moment_is : entry.moment ≡ moment
  unfolding next_entry
  moment_is = refl

  -- what is probed was due
  was_due : (front back : List Group) (group : Group) → front ++ group ∷ back ≡ groups past → probes (group_name group past) entry ≡ true → is_probe_due entry.moment (claim_in past group) ≡ true
  was_due front back group is probed = of ev refl
    where
      none : (e : Event) → is_tick e ≡ false → ev ≡ e → is_probe_due entry.moment (claim_in past group) ≡ true
      none e k h = absurd (false≢true (
          sym (others_probe_none duties past moment word (group_name group past) e k) ∙ ap (λ e. probes (group_name group past) (entry_after duties past moment word e)) (sym h) ∙ probed))

      of : (e : Event) → ev ≡ e → is_probe_due entry.moment (claim_in past group) ≡ true
      of event.Tick h =
          ap (λ m. is_probe_due m (claim_in past group)) moment_is
          ∙ sym (probed_where_due duties past moment word front back group claiming is holds.apart)
          ∙ ap (λ e. probes (group_name group past) (entry_after duties past moment word e)) (sym h) ∙ probed
      of (event.Boot config) h = none (event.Boot config) refl h
      of event.Attach h = none event.Attach refl h
      of (event.Detach session) h = none (event.Detach session) refl h
      of (event.Call session op asked) h = none (event.Call session op asked) refl h
      of (event.Hear from bytes) h = none (event.Hear from bytes) refl h
      of (event.Take session max) h = none (event.Take session max) refl h

  kept_each : AllByRecursion (IsPaced past) (groups past) → AllByRecursion (IsPaced (entry ∷ past)) (groups past)
  kept_each paced = each_place (IsPaced (entry ∷ past)) (groups past) (λ front back group is. one front back group is (sets_back group.id entry past) refl)
    where
      one : (front back : List Group) (group : Group) → front ++ group ∷ back ≡ groups past → (b : Bool) → sets_back group.id entry past ≡ b → IsPaced (entry ∷ past) group
      one front back group is true back_set = set_back_paced group entry past back_set
      one front back group is false goes =
          kept_paced group entry past (name_stays group entry past goes) goes (subst (λ m. now past ≤ m) (sym moment_is) later)
          (at_place (IsPaced past) front back group (subst (AllByRecursion (IsPaced past)) (sym is) paced)) (was_due front back group is)

  new_each : (o : Option Registration) → registration_in entry ≡ o → AllByRecursion (IsPaced (entry ∷ past)) (option_to_list (option_map (group_of (registered_count past + 1) (names_of (groups past) past)) o))
  new_each None e = tt
  new_each (Some r) e =
      let new : Group = group_of (registered_count past + 1) (names_of (groups past) past) r in (
        set_back_paced new entry past (
            (λ i. ((is_some (booted entry.event) && (new.id == 0)) || (is_some (e i) && eq-eqb (registered_count past + 1) (registered_count past + 1) refl i)) || has_mark (is_setback_of new.id) entry)
            ∙ of (is_some (booted entry.event) && (new.id == 0)) (has_mark (is_setback_of new.id) entry)),
        tt,
      )
    where
      of : (a b : Bool) → ((a || true) || b) ≡ true
      of true b = refl
      of false b = refl

  pub paced_next : AllByRecursion (IsPaced past) (groups past) → AllByRecursion (IsPaced (entry ∷ past)) (groups (entry ∷ past))
  paced_next paced =
      subst (AllByRecursion (IsPaced (entry ∷ past)))
      (sym (groups-cons entry past ∙ (λ i. filter (λ group. not (ends_group entry group)) (groups past)
      ++ option_to_list (option_or (option_map host_group (option_and_then (λ config. config.host) (not_booted duties past moment word ev no_boot i))) (option_map (group_of (registered_count past + 1) (names_of (groups past) past)) (registration_in entry)))))
      )
      (all-append (IsPaced (entry ∷ past)) (filter (λ group. not (ends_group entry group)) (groups past)) _
      (all-filter (IsPaced (entry ∷ past)) (λ group. not (ends_group entry group)) (groups past) (kept_each paced)) (new_each (registration_in entry) refl))

boot_paced : (moment word : ℕ) (config : Config) → AllByRecursion (IsPaced (boot_entry moment word config ∷ [])) (groups (boot_entry moment word config ∷ []))
boot_paced moment word config = subst (AllByRecursion (IsPaced (boot_entry moment word config ∷ []))) (sym (boot_groups moment word config)) (of config.host)
  where
    of : (h : Option HostConfig) → AllByRecursion (IsPaced (boot_entry moment word config ∷ [])) (option_to_list (option_or (option_map host_group h) None))
    of None = tt
    of (Some host) = (set_back_paced (host_group host) (boot_entry moment word config) [] refl, tt)

pub paced_from : (duties : Duties) → duties.claiming ≡ true → (entry : Entry) (past : List Entry) → IsLegalFrom duties entry past → AllByRecursion (IsPaced (entry ∷ past)) (groups (entry ∷ past))
paced_from duties claiming entry [] legal = subst (λ e. AllByRecursion (IsPaced (e ∷ [])) (groups (e ∷ []))) (sym legal.3) (boot_paced entry.moment entry.word legal.0)
paced_from duties claiming entry (before ∷ past) legal =
    subst (λ e. AllByRecursion (IsPaced (e ∷ before ∷ past)) (groups (e ∷ before ∷ past))) (sym (legal.0).determined)
    (paced_next duties claiming (before ∷ past) entry.moment entry.word entry.event (legal.0).no_boot (holds_legal duties (before ∷ past) legal.1) (legal.0).later (paced_from duties claiming before past legal.1))
