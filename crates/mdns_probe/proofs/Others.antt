-- What any entry but a tick makes of the claims of the live groups.
use Rattle.std.proofs.Common.{◌≡◌, ℕ, ◌+◌, ◌≤◌, ◌==◌, Bool, true, false, cond, not, ◌&&◌, ◌||◌, List, [], ◌∷◌, ◌++◌, map, refl, ap, sym, subst, ◌∙◌, Option, Some, None}
use Rattle.std.specs.Prelude.{filter}
use Rattle.std.specs.List.{list_any, cons_option, AllByRecursion}
use Rattle.std.specs.Option.{option_or, option_map, option_and_then, option_to_list, is_some}
use Rattle.std.proofs.lemmas.List.Folds.{list_any-append}
use Rattle.std.proofs.lemmas.Bool.{eq-eqb, false≢true}
use Rattle.dns_record.specs.declared.record.Rr.{Rr}
use Rattle.mdns_history.specs.declared.event.Event.{Event}
use Rattle.mdns_history.specs.declared.event.Event.TheVariants as event
use Rattle.mdns_history.specs.declared.mark.Mark.{Mark}
use Rattle.mdns_history.specs.declared.entry.Entry.{Entry}
use Rattle.mdns_history.specs.InForce.{Duties, only_if}
use Rattle.mdns_history.specs.History.{now, has_mark, booted, is_tick}
use Rattle.mdns_history.specs.Hearings.{Heard}
use Rattle.mdns_history.specs.Groups.{Group, groups, is_group, group_name, names_of, ends_group, registration_in, Registration, registered_count, group_of, host_group, unique_records, shared_records}
use Rattle.mdns_history.specs.Sureness.{is_setback_of, sets_back}
use Rattle.mdns_history.specs.Probing.{first_wait}
use Rattle.mdns_history.specs.Claims.{Holding, holding_of, held_by_others, holdings_after, claim_mark, marks_in_turn}
use Rattle.mdns_history.specs.Announcing.{is_announcement_of}
use Rattle.mdns_history.specs.Fitting.{announced_marks, is_boot}
use Rattle.mdns_history.proofs.Steps.{groups-cons}
use Rattle.mdns_probe.specs.Claiming.{begun, replaced}
use Rattle.mdns_probe.specs.Standing.{claim_in, claims_in, after_other, IsPaced}
use Rattle.mdns_probe.specs.Laws.{ClaimsFollowOthers}
use Rattle.mdns_probe.proofs.Distinct.{has_id, verdict_cases}
use Rattle.mdns_probe.proofs.Legal.{entry_after, bare, claimed, claimed_cases, event_is, not_booted, Holds, holds_legal}
use Rattle.mdns_probe.proofs.Probes.{others_probe_none}
use Rattle.mdns_probe.proofs.Places.{each_place, at_place, all-filter, all-append}
use Rattle.mdns_probe.proofs.Quiet.{passed_by}
use Rattle.mdns_probe.proofs.Paced.{name_stays, moment_is}
use Rattle.mdns_probe.proofs.Ticking.{announcement_narrow, there, paced_legal}
use Rattle.mdns_probe.proofs.Follows.{set_back_follows, replaced_follows}

-- the marks of claims announce nothing
turns_announce_none : (id : ℕ) (heard : Heard) (past : List Entry) (gs : List Group) (holdings : List Holding) → list_any (is_announcement_of id) (marks_in_turn heard past gs holdings) ≡ false
turns_announce_none id heard past [] holdings = refl
turns_announce_none id heard past (group ∷ gs) holdings =
    of (turns_announce_none id heard past gs (holdings_after group (claim_mark heard past group (held_by_others group.id holdings)) holdings))
  where
    post : List Mark
    post = marks_in_turn heard past gs (holdings_after group (claim_mark heard past group (held_by_others group.id holdings)) holdings)

    of : list_any (is_announcement_of id) post ≡ false → list_any (is_announcement_of id) (cons_option (claim_mark heard past group (held_by_others group.id holdings)) post) ≡ false
    of ih = verdict_cases heard past (λ v. list_any (is_announcement_of id) (cons_option v post) ≡ false) group (held_by_others group.id holdings) ih ih ih ih (λ number is small. ih)

found_before : (id : ℕ) (p : Group → Bool) (gs : List Group) → has_id id (filter p gs) ≡ true → has_id id gs ≡ true
found_before id p [] h = h
found_before id p (group ∷ gs) h = of (p group) (group.id == id) refl h (found_before id p gs)
  where
    of : (b c : Bool) → (group.id == id) ≡ c → has_id id (cond b (group ∷ filter p gs) (filter p gs)) ≡ true → (has_id id (filter p gs) ≡ true → has_id id gs ≡ true) → ((group.id == id) || has_id id gs) ≡ true
    of b true e k rest = ap (λ x. x || has_id id gs) e
    of true false e k rest = ap (λ x. x || has_id id gs) e ∙ rest (sym (ap (λ x. x || has_id id (filter p gs)) e) ∙ k)
    of false false e k rest = ap (λ x. x || has_id id gs) e ∙ rest k

module _ (duties : Duties) (claiming : duties.claiming ≡ true) (past : List Entry) (moment word : ℕ) (ev : Event) (no_boot : is_boot ev ≡ false) (no_tick : is_tick ev ≡ false) (holds : Holds past)
    (paced : AllByRecursion (IsPaced past) (groups past)) (later : now past ≤ moment) where
  abbrev entry : Entry
  entry = entry_after duties past moment word ev

  abbrev goal_of : Group → Type 0
  goal_of group = claim_in (entry ∷ past) group ≡ after_other entry past group

  unmarked : (id : ℕ) → has_mark (is_announcement_of id) entry ≡ false
  unmarked id =
      passed_by (is_announcement_of id) (announcement_narrow id) duties past moment word ev
      ∙ (λ i. in_claims i || none_announced ev no_tick i)
    where
      in_claims : list_any (is_announcement_of id) (claimed duties past moment word ev) ≡ false
      in_claims = claimed_cases duties past moment word ev (λ ms. list_any (is_announcement_of id) ms ≡ false) refl (λ heard none running. turns_announce_none id heard past (groups past) (map (holding_of past) (groups past)))

      nothing : (b : Bool) → list_any (is_announcement_of id) (only_if b []) ≡ false
      nothing true = refl
      nothing false = refl

      none_announced : (e : Event) → is_tick e ≡ false → list_any (is_announcement_of id) (only_if duties.announcing (announced_marks (bare duties past moment word ev) past e)) ≡ false
      none_announced event.Tick h = absurd (cc)
      none_announced (event.Boot config) h = nothing duties.announcing
      none_announced event.Attach h = nothing duties.announcing
      none_announced (event.Detach session) h = nothing duties.announcing
      none_announced (event.Call session op asked) h = nothing duties.announcing
      none_announced (event.Hear from bytes) h = nothing duties.announcing
      none_announced (event.Take session max) h = nothing duties.announcing

  -- a claim is begun anew, or goes on with the records that it then has
  each : (group : Group) → (sets_back group.id entry past ≡ false → (is_group group.id past ≡ true) × (is_group group.id (entry ∷ past) ≡ true) × IsPaced past group) → goal_of group
  each group known = of (sets_back group.id entry past) refl
    where
      u : List Rr
      u = unique_records group (entry ∷ past)

      s : List Rr
      s = shared_records group (entry ∷ past)

      of : (b : Bool) → sets_back group.id entry past ≡ b → goal_of group
      of true e = set_back_follows group entry past e ∙ sym (ap (λ b. cond b (begun entry.moment (first_wait group.id entry past) group.id u s) (replaced entry.moment u s (claim_in past group))) e)
      of false e =
          let k = known e in
          replaced_follows group entry past k.0 k.1 (name_stays group entry past e) e (subst (λ m. now past ≤ m) (sym (moment_is duties claiming past moment word ev no_boot holds later)) later) k.2
          (ap is_tick (event_is duties past moment word ev) ∙ no_tick) (others_probe_none duties past moment word (group_name group past) ev no_tick) (unmarked group.id)
          ∙ sym (ap (λ b. cond b (begun entry.moment (first_wait group.id entry past) group.id u s) (replaced entry.moment u s (claim_in past group))) e)

  abbrev kept : List Group
  kept = filter (λ group. not (ends_group entry group)) (groups past)

  abbrev begun_groups : List Group
  begun_groups = option_to_list (option_map (group_of (registered_count past + 1) (names_of (groups past) past)) (registration_in entry))

  all_groups : groups (entry ∷ past) ≡ kept ++ begun_groups
  all_groups =
      groups-cons entry past
      ∙ (λ i. kept ++ option_to_list (option_or (option_map host_group (option_and_then (λ config. config.host) (not_booted duties past moment word ev no_boot i))) (option_map (group_of (registered_count past + 1) (names_of (groups past) past)) (registration_in entry))))

  new_each : (o : Option Registration) → registration_in entry ≡ o → AllByRecursion goal_of (option_to_list (option_map (group_of (registered_count past + 1) (names_of (groups past) past)) o))
  new_each None e = tt
  new_each (Some r) e =
      let new : Group = group_of (registered_count past + 1) (names_of (groups past) past) r in
      let back : sets_back new.id entry past ≡ true =
      (λ i. ((is_some (booted entry.event) && (new.id == 0)) || (is_some (e i) && eq-eqb (registered_count past + 1) (registered_count past + 1) refl i)) || has_mark (is_setback_of new.id) entry)
      ∙ of (is_some (booted entry.event) && (new.id == 0)) (has_mark (is_setback_of new.id) entry) in
      (each new (λ none. absurd (false≢true (sym none ∙ back))), tt)
    where
      of : (a b : Bool) → ((a || true) || b) ≡ true
      of true b = refl
      of false b = refl

  pub others_are : claims_in (entry ∷ past) ≡ map (after_other entry past) (groups (entry ∷ past))
  others_are = all_same (groups (entry ∷ past)) (subst (AllByRecursion goal_of) (sym all_groups) (all-append goal_of kept begun_groups kept_each (new_each (registration_in entry) refl)))
    where
      kept_each : AllByRecursion goal_of kept
      kept_each = each_place goal_of kept (λ front back group is. each group (λ goes.
          let here : has_id group.id kept ≡ true = ap (has_id group.id) (sym is) ∙ there duties claiming past moment word holds paced later front back group in (
            found_before group.id (λ one. not (ends_group entry one)) (groups past) here,
            ap (has_id group.id) all_groups ∙ list_any-append (λ one. one.id == group.id) kept begun_groups ∙ ap (λ b. b || has_id group.id begun_groups) here,
            at_place (IsPaced past) front back group (subst (AllByRecursion (IsPaced past)) (sym is) (all-filter (IsPaced past) (λ one. not (ends_group entry one)) (groups past) paced)),
          )))

      all_same : (gs : List Group) → AllByRecursion goal_of gs → map (claim_in (entry ∷ past)) gs ≡ map (after_other entry past) gs
      all_same [] h = refl
      all_same (group ∷ gs) h = λ i. h.0 i ∷ all_same gs h.1 i

pub claims_follow_others : ClaimsFollowOthers
claims_follow_others duties past moment word ev claiming no_boot no_tick legal later =
    others_are duties claiming past moment word ev no_boot no_tick (holds_legal duties past legal) (paced_legal duties claiming past legal) later
