-- What a tick makes of the claims of all live groups.
use Rattle.std.proofs.Common.{◌≡◌, ℕ, ◌+◌, ◌<◌, ◌≤◌, ◌==◌, Bool, true, false, cond, not, ◌&&◌, ◌||◌, nat_le, nat_lt, List, [], ◌∷◌, ◌++◌, map, length, refl, ap, sym, subst, ◌∙◌, arith, Option, None, append-nil}
use Rattle.std.specs.Prelude.{filter}
use Rattle.std.specs.List.{list_any, find, flat_map, AllByRecursion}
use Rattle.std.specs.Option.{option_or, option_map, option_map_or, option_and_then, option_to_list, unwrap_or, is_some}
use Rattle.std.proofs.lemmas.List.Folds.{list_any-append}
use Rattle.std.proofs.lemmas.List.Elements.{filter-append}
use Rattle.std.proofs.lemmas.Bool.{ne_eqb, eq-eqb, false≢true, leb-true}
use Rattle.lists.proofs.InOrder.{none-filter}
use Rattle.mdns_history.specs.declared.config.Config.{Config}
use Rattle.mdns_history.specs.declared.config.HostConfig.{HostConfig}
use Rattle.mdns_history.specs.declared.event.Event.TheVariants as event
use Rattle.mdns_history.specs.declared.mark.Mark.{Mark}
use Rattle.mdns_history.specs.declared.mark.Mark.TheVariants as mark
use Rattle.mdns_history.specs.declared.operation.Operation.{Operation}
use Rattle.mdns_history.specs.declared.entry.Entry.{Entry}
use Rattle.mdns_history.specs.InForce.{Duties, only_if}
use Rattle.mdns_history.specs.History.{now, has_mark, booted, is_tick, config_of}
use Rattle.mdns_history.specs.Sessions.{has_op, txt_of, operations_of, operation_request, present_txt, ends_operation}
use Rattle.mdns_history.specs.Groups.{Group, groups, is_group, group_name, names_of, is_failure_of, ends_group, registration_in, registered_count, group_of, host_group, host_of, host_name, unique_records, shared_records, address_records, service_unique, service_shared}
use Rattle.mdns_history.specs.Sureness.{is_setback_of, sets_back, is_sure, sure_groups}
use Rattle.mdns_history.specs.Claims.{claim_marks}
use Rattle.mdns_history.specs.Announcing.{is_announcement_of, announcement_moments, claim_moment, next_announcement, is_announced_at, announced_groups}
use Rattle.mdns_history.specs.Fitting.{announced_marks, next_entry, IsLegal}
use Rattle.mdns_history.proofs.Steps.{groups-cons}
use Rattle.mdns_probe.specs.declared.claim.Claim.{Claim}
use Rattle.mdns_probe.specs.Claiming.{probed_at, settled_at, ticked, after_tick, is_probe_due, is_settle_due, is_announce_due}
use Rattle.mdns_probe.specs.Standing.{claim_in, claims_in, IsPaced}
use Rattle.mdns_probe.proofs.Settling.{both_true}
use Rattle.mdns_probe.proofs.Distinct.{neither, has_id, AreOnce}
use Rattle.mdns_probe.specs.Kept.{announced_for}
use Rattle.mdns_probe.specs.Laws.{ClaimsFollowTicks, AnnouncementsFollow}
use Rattle.mdns_probe.proofs.Legal.{entry_after, bare, claimed, event_is, Holds, holds_legal}
use Rattle.mdns_probe.proofs.Probes.{probed_where_due}
use Rattle.mdns_probe.proofs.Places.{each_place, at_place}
use Rattle.mdns_probe.proofs.Quiet.{IsNarrow, passed_by}
use Rattle.mdns_probe.proofs.Paced.{name_stays, moment_is, paced_from}
use Rattle.mdns_probe.proofs.Follows.{ticked_follows, unprobed_follows}

-- an entry that registers, ends and sets back nothing, and changes no operation

pub record IsCalm (entry : Entry) (past : List Entry) : Type 0 where
  pub no_boot : booted entry.event ≡ None
  pub none_registered : registration_in entry ≡ None
  pub running : (session op : ℕ) → ends_operation session op entry ≡ false
  pub unfailed : (id : ℕ) → has_mark (is_failure_of id) entry ≡ false
  pub unset : (id : ℕ) → has_mark (is_setback_of id) entry ≡ false
  pub operating : (session : ℕ) → operations_of session (entry ∷ past) ≡ operations_of session past

module _ (entry : Entry) (past : List Entry) (calm : IsCalm entry past) where
  keeps_all : (gs : List Group) → filter (λ group. not (ends_group entry group)) gs ≡ gs
  keeps_all [] = refl
  keeps_all (group ∷ gs) =
      (λ i. cond (not (calm.running group.session group.op i || calm.unfailed group.id i)) (group ∷ filter (λ one. not (ends_group entry one)) gs) (filter (λ one. not (ends_group entry one)) gs))
      ∙ ap (λ l. group ∷ l) (keeps_all gs)

  pub same_groups : groups (entry ∷ past) ≡ groups past
  same_groups =
      groups-cons entry past
      ∙ (λ i. keeps_all (groups past) i ++ option_to_list (option_or (option_map host_group (option_and_then (λ config. config.host) (calm.no_boot i))) (option_map (group_of (registered_count past + 1) (names_of (groups past) past)) (calm.none_registered i))))
      ∙ append-nil (groups past)

  pub unset_back : (id : ℕ) → sets_back id entry past ≡ false
  unset_back id = (λ i. ((is_some (calm.no_boot i) && (id == 0)) || (is_some (calm.none_registered i) && (registered_count past + 1 == id))) || calm.unset id i)

  pub same_name : (group : Group) → group_name group (entry ∷ past) ≡ group_name group past
  same_name group = name_stays group entry past (unset_back group.id)

  same_config : config_of (entry ∷ past) ≡ config_of past
  same_config = ap (λ o. option_or o (config_of past)) calm.no_boot

  same_txt : (session op : ℕ) → present_txt session op (entry ∷ past) ≡ present_txt session op past
  unfolding present_txt operation_request
  same_txt session op = ap (λ (os : List Operation). option_map_or txt_of (option_map (λ operation. operation.request) (find (has_op op) os)) []) (calm.operating session)

  same_host : host_name (entry ∷ past) ≡ host_name past
  unfolding host_name
  same_host =
      ap (λ (f : HostConfig → List (List ℕ)). unwrap_or (option_map f (host_of (entry ∷ past))) []) (λ i host. same_name (host_group host) i)
      ∙ ap (λ (o : Option Config). unwrap_or (option_map (λ host. group_name (host_group host) past) (option_and_then (λ config. config.host) o)) []) same_config

  pub same_unique : (group : Group) → unique_records group (entry ∷ past) ≡ unique_records group past
  unfolding unique_records
  same_unique group = λ i. cond (group.id == 0) (flat_map (address_records (same_name group i)) (option_to_list (same_config i))) (service_unique (same_name group i) group.port (same_txt group.session group.op i) (same_host i))

  pub same_shared : (group : Group) → shared_records group (entry ∷ past) ≡ shared_records group past
  unfolding shared_records
  same_shared group = λ i. cond (group.id == 0) [] (service_shared (same_name group i) group.type)

-- among groups of different numbers one is found alone
alone : (due : Group → Bool) (front back : List Group) (group : Group) → AreOnce (front ++ group ∷ back) → has_id group.id (filter due (front ++ group ∷ back)) ≡ due group
alone due front back group once =
    ap (has_id group.id) (filter-append due front (group ∷ back))
    ∙ list_any-append test (filter due front) (filter due (group ∷ back))
    ∙ (λ i. none-filter test due front (parts front once).0 i || here i)
  where
    test : Group → Bool
    test one = one.id == group.id

    parts : (front : List Group) → AreOnce (front ++ group ∷ back) → (list_any test front ≡ false) × (list_any test back ≡ false)
    parts [] h = (refl, h.0)
    parts (one ∷ front) h =
        let both = neither (has_id one.id front) ((group.id == one.id) || has_id one.id back) (sym (list_any-append (λ g. g.id == one.id) front (group ∷ back)) ∙ h.0) in
        let other : (one.id == group.id) ≡ false = ne_eqb one.id group.id (λ e. false≢true (sym (neither (group.id == one.id) (has_id one.id back) both.1).0 ∙ eq-eqb group.id one.id (sym e))) in
        let rest = parts front h.1 in
        ((λ i. other i || rest.0 i), rest.1)

    here : list_any test (cond (due group) (group ∷ filter due back) (filter due back)) ≡ due group
    here = of (due group)
      where
        of : (b : Bool) → list_any test (cond b (group ∷ filter due back) (filter due back)) ≡ b
        of true = ap (λ b. b || list_any test (filter due back)) (eq-eqb group.id group.id refl)
        of false = none-filter test due back (parts front once).1

failure_narrow : (id : ℕ) → IsNarrow (is_failure_of id)
failure_narrow id = record { bad = λ number. refl; full = refl; asked = λ key why. refl; cut = λ session. refl }

setback_narrow : (id : ℕ) → IsNarrow (is_setback_of id)
setback_narrow id = record { bad = λ number. refl; full = refl; asked = λ key why. refl; cut = λ session. refl }

pub announcement_narrow : (id : ℕ) → IsNarrow (is_announcement_of id)
announcement_narrow id = record { bad = λ number. refl; full = refl; asked = λ key why. refl; cut = λ session. refl }

-- what is due to be announced of a claim, where a probe that was due counts or not
same_due : (m : ℕ) (claim : Claim) → is_announce_due m (cond (is_settle_due m claim) (settled_at m claim) claim) ≡ is_announce_due m (ticked m claim)
same_due m claim = of (is_probe_due m claim) (is_settle_due m claim) refl refl
  where
    of : (p q : Bool) → is_probe_due m claim ≡ p → is_settle_due m claim ≡ q →
        is_announce_due m (cond q (settled_at m claim) claim) ≡ is_announce_due m (cond p (probed_at m claim) (cond q (settled_at m claim) claim))
    of false q e f = refl
    of true false e f = refl
    of true true e f =
        let one = both_true (not claim.sure && nat_lt claim.probes 3) (nat_le claim.due m) e in
        let two = both_true (not claim.sure && nat_le 3 claim.probes) (nat_le claim.due m) f in
        let few : claim.probes < 3 = leb-true _ 3 (both_true (not claim.sure) (nat_lt claim.probes 3) one.0).1 in
        let many : 3 ≤ claim.probes = leb-true 3 claim.probes (both_true (not claim.sure) (nat_le 3 claim.probes) two.0).1 in
        absurd (omega (arith, few, many))

module _ (duties : Duties) (claiming : duties.claiming ≡ true) (past : List Entry) (moment word : ℕ) (holds : Holds past) (paced : AllByRecursion (IsPaced past) (groups past)) (later : now past ≤ moment) where
  abbrev entry : Entry
  entry = entry_after duties past moment word event.Tick

  -- the tick without its marks and messages
  abbrev quiet : Entry
  quiet = bare duties past moment word event.Tick

  none_claimed : claimed duties past moment word event.Tick ≡ []
  unfolding claim_marks
  none_claimed = of duties.claiming
    where
      of : (b : Bool) → ◌≡◌ {A = List Mark} (only_if b []) []
      of true = refl
      of false = refl

  announces_nothing : (test : Mark → Bool) → ((group : Group) → test (mark.Announced group.id) ≡ false) → (gs : List Group) → list_any test (map (λ group. mark.Announced group.id) gs) ≡ false
  announces_nothing test never [] = refl
  announces_nothing test never (group ∷ gs) = (λ i. never group i || announces_nothing test never gs i)

  not_registered : registration_in entry ≡ None
  unfolding registration_in next_entry
  not_registered = refl

  pub calm_entry : IsCalm entry past
  unfolding next_entry operations_of
  calm_entry = record {
    no_boot = refl;
    none_registered = not_registered;
    running = λ session op. refl;
    unfailed = λ id. passes_none (is_failure_of id) (failure_narrow id) (λ group. refl);
    unset = λ id. passes_none (is_setback_of id) (setback_narrow id) (λ group. refl);
    operating = λ session. refl;
  }
    where
      passes_none : (test : Mark → Bool) → IsNarrow test → ((group : Group) → test (mark.Announced group.id) ≡ false) → has_mark test entry ≡ false
      passes_none test narrow never =
          passed_by test narrow duties past moment word event.Tick
          ∙ (λ i. list_any test (none_claimed i) || list_any test (only_if duties.announcing (announced_marks quiet past event.Tick)))
          ∙ of duties.announcing
        where
          of : (b : Bool) → list_any test (only_if b (announced_marks quiet past event.Tick)) ≡ false
          of true = announces_nothing test never (announced_groups (quiet ∷ past) moment)
          of false = refl

  calm_quiet : IsCalm quiet past
  unfolding registration_in operations_of
  calm_quiet = record { no_boot = refl; none_registered = refl; running = λ session op. refl; unfailed = λ id. refl; unset = λ id. refl; operating = λ session. refl }

  announced_ids : (id : ℕ) (gs : List Group) → list_any (is_announcement_of id) (map (λ group. mark.Announced group.id) gs) ≡ has_id id gs
  announced_ids id [] = refl
  announced_ids id (group ∷ gs) = ap (λ b. (group.id == id) || b) (announced_ids id gs)

  filter_twice : (p q : Group → Bool) (gs : List Group) → filter p (filter q gs) ≡ filter (λ group. q group && p group) gs
  filter_twice p q [] = refl
  filter_twice p q (group ∷ gs) = of (q group) (filter_twice p q gs)
    where
      of : (b : Bool) → filter p (filter q gs) ≡ filter (λ one. q one && p one) gs →
          filter p (cond b (group ∷ filter q gs) (filter q gs)) ≡ cond (b && p group) (group ∷ filter (λ one. q one && p one) gs) (filter (λ one. q one && p one) gs)
      of true ih = ap (λ l. cond (p group) (group ∷ l) l) ih
      of false ih = ih

  pub there : (front back : List Group) (group : Group) → has_id group.id (front ++ group ∷ back) ≡ true
  there [] back group = ap (λ b. b || has_id group.id back) (eq-eqb group.id group.id refl)
  there (one ∷ front) back group = ap (λ b. (one.id == group.id) || b) (there front back group) ∙ of (one.id == group.id)
    where
      of : (b : Bool) → (b || true) ≡ true
      of true = refl
      of false = refl

  sure_due : (history : List Entry) (group : Group) → (is_sure group history && is_announced_at history moment group) ≡ is_announce_due moment (claim_in history group)
  sure_due history group = of (is_sure group history)
    where
      of : (b : Bool) → (b && (nat_lt (length (announcement_moments group history)) 2 && nat_le (next_announcement (claim_moment group history) (announcement_moments group history)) moment))
          ≡ (b && nat_lt (cond b (length (announcement_moments group history)) 0) 2 && nat_le (cond b (next_announcement (claim_moment group history) (announcement_moments group history)) 0) moment)
      of true = refl
      of false = refl

  module _ (front back : List Group) (group : Group) (is : front ++ group ∷ back ≡ groups past) where
    live : is_group group.id past ≡ true
    live = ap (has_id group.id) (sym is) ∙ there front back group

    own_paced : IsPaced past group
    own_paced = at_place (IsPaced past) front back group (subst (AllByRecursion (IsPaced past)) (sym is) paced)

    quiet_claim : claim_in (quiet ∷ past) group ≡ cond (is_settle_due moment (claim_in past group)) (settled_at moment (claim_in past group)) (claim_in past group)
    quiet_claim =
        unprobed_follows group quiet past live (ap (has_id group.id) (same_groups quiet past calm_quiet) ∙ live) (same_name quiet past calm_quiet group) (unset_back quiet past calm_quiet group.id) later own_paced
        refl (same_unique quiet past calm_quiet group) (same_shared quiet past calm_quiet group) refl refl

    announced_too : has_id group.id (announced_groups (quiet ∷ past) moment) ≡ is_announce_due moment (ticked moment (claim_in past group))
    unfolding announced_groups sure_groups
    announced_too =
        ap (has_id group.id) (filter_twice (is_announced_at (quiet ∷ past) moment) (λ one. is_sure one (quiet ∷ past)) (groups (quiet ∷ past)))
        ∙ ap (λ (gs : List Group). has_id group.id (filter (λ one. is_sure one (quiet ∷ past) && is_announced_at (quiet ∷ past) moment one) gs)) (same_groups quiet past calm_quiet ∙ sym is)
        ∙ alone (λ one. is_sure one (quiet ∷ past) && is_announced_at (quiet ∷ past) moment one) front back group (subst AreOnce (sym is) holds.once)
        ∙ sure_due (quiet ∷ past) group
        ∙ ap (is_announce_due moment) quiet_claim
        ∙ same_due moment (claim_in past group)

    marked : has_mark (is_announcement_of group.id) entry ≡ (duties.announcing && is_announce_due moment (ticked moment (claim_in past group)))
    marked =
        passed_by (is_announcement_of group.id) (announcement_narrow group.id) duties past moment word event.Tick
        ∙ ap (λ ms. list_any (is_announcement_of group.id) ms || list_any (is_announcement_of group.id) (only_if duties.announcing (announced_marks quiet past event.Tick))) none_claimed
        ∙ of duties.announcing
      where
        of : (b : Bool) → list_any (is_announcement_of group.id) (only_if b (announced_marks quiet past event.Tick)) ≡ (b && is_announce_due moment (ticked moment (claim_in past group)))
        of true = announced_ids group.id (announced_groups (quiet ∷ past) moment) ∙ announced_too
        of false = refl

    pub one_ticked : claim_in (entry ∷ past) group ≡ after_tick moment duties.announcing (claim_in past group)
    one_ticked =
        ticked_follows group entry past live (ap (has_id group.id) (same_groups entry past calm_entry) ∙ live) (same_name entry past calm_entry group) (unset_back entry past calm_entry group.id)
        (subst (λ m. now past ≤ m) (sym (moment_is duties claiming past moment word event.Tick refl holds later)) later) own_paced
        duties.announcing tick_it (same_unique entry past calm_entry group) (same_shared entry past calm_entry group)
        (probed_where_due duties past moment word front back group claiming is holds.apart ∙ ap (λ m. is_probe_due m (claim_in past group)) (sym at_moment))
        (marked ∙ ap (λ m. duties.announcing && is_announce_due m (ticked m (claim_in past group))) (sym at_moment))
        ∙ ap (λ m. after_tick m duties.announcing (claim_in past group)) at_moment
      where
        at_moment : entry.moment ≡ moment
        at_moment = moment_is duties claiming past moment word event.Tick refl holds later

        tick_it : is_tick entry.event ≡ true
        tick_it = ap is_tick (event_is duties past moment word event.Tick)

  -- A tick makes of the claims of the live groups what it makes of each.
  pub claims_ticked : claims_in (entry ∷ past) ≡ map (after_tick moment duties.announcing) (claims_in past)
  claims_ticked =
      ap (map (claim_in (entry ∷ past))) (same_groups entry past calm_entry)
      ∙ all_same (groups past) (each_place (λ group. claim_in (entry ∷ past) group ≡ after_tick moment duties.announcing (claim_in past group)) (groups past) one_ticked)
    where
      all_same : (gs : List Group) → AllByRecursion (λ group. claim_in (entry ∷ past) group ≡ after_tick moment duties.announcing (claim_in past group)) gs →
          map (claim_in (entry ∷ past)) gs ≡ map (after_tick moment duties.announcing) (map (claim_in past) gs)
      all_same [] h = refl
      all_same (group ∷ gs) h = λ i. h.0 i ∷ all_same gs h.1 i

  -- The marks of announcements are those that the claims say.
  pub announced_are : announced_marks quiet past event.Tick ≡ announced_for (claims_in past) moment
  unfolding announced_groups sure_groups
  announced_are =
      ap (map (λ (group : Group). mark.Announced group.id))
      (filter_twice (is_announced_at (quiet ∷ past) moment) (λ one. is_sure one (quiet ∷ past)) (groups (quiet ∷ past))
      ∙ ap (filter announced_now) (same_groups quiet past calm_quiet))
      ∙ all_same (groups past) (each_place (λ group. announced_now group ≡ is_announce_due moment (ticked moment (claim_in past group))) (groups past)
      (λ front back group is. sure_due (quiet ∷ past) group ∙ ap (is_announce_due moment) (quiet_claim front back group is) ∙ same_due moment (claim_in past group)))
    where
      announced_now : Group → Bool
      announced_now group = is_sure group (quiet ∷ past) && is_announced_at (quiet ∷ past) moment group

      due : Claim → Bool
      due claim = is_announce_due moment (ticked moment claim)

      all_same : (gs : List Group) → AllByRecursion (λ group. announced_now group ≡ due (claim_in past group)) gs →
          map (λ group. mark.Announced group.id) (filter announced_now gs) ≡ map (λ claim. mark.Announced claim.group) (filter due (map (claim_in past) gs))
      all_same [] h = refl
      all_same (group ∷ gs) h = ap (λ b. map (λ one. mark.Announced one.id) (cond b (group ∷ filter announced_now gs) (filter announced_now gs))) h.0 ∙ of (due (claim_in past group)) (all_same gs h.1)
        where
          of : (b : Bool) → map (λ one. mark.Announced one.id) (filter announced_now gs) ≡ map (λ claim. mark.Announced claim.group) (filter due (map (claim_in past) gs)) →
              map (λ one. mark.Announced one.id) (cond b (group ∷ filter announced_now gs) (filter announced_now gs))
              ≡ map (λ claim. mark.Announced claim.group) (cond b (claim_in past group ∷ filter due (map (claim_in past) gs)) (filter due (map (claim_in past) gs)))
          of true ih = ap (λ l. mark.Announced group.id ∷ l) ih
          of false ih = ih

-- over legal histories

pub paced_legal : (duties : Duties) → duties.claiming ≡ true → (past : List Entry) → IsLegal duties past → AllByRecursion (IsPaced past) (groups past)
paced_legal duties claiming [] legal = absurd legal
paced_legal duties claiming (entry ∷ past) legal = paced_from duties claiming entry past legal

pub claims_follow_ticks : ClaimsFollowTicks
claims_follow_ticks duties past moment word claiming legal later = claims_ticked duties claiming past moment word (holds_legal duties past legal) (paced_legal duties claiming past legal) later

pub announcements_follow : AnnouncementsFollow
announcements_follow duties past moment word claiming legal later = announced_are duties claiming past moment word (holds_legal duties past legal) (paced_legal duties claiming past legal) later
