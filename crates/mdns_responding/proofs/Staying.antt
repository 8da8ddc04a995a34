-- What an event that only ends operations leaves: the other groups stay as they are.
use Rattle.std.proofs.Common.{◌≡◌, ℕ, ◌+◌, ◌≤◌, ◌==◌, eqb-true, Bool, true, false, cond, not, ◌&&◌, ◌||◌, List, [], ◌∷◌, ◌++◌, map, refl, ap, sym, ◌∙◌, append-nil, Option, Some, None}
use Rattle.std.specs.Prelude.{filter}
use Rattle.std.specs.List.{find, flat_map}
use Rattle.std.specs.Option.{option_or, option_map, option_map_or, option_and_then, option_to_list, unwrap_or, is_some}
use Rattle.std.proofs.lemmas.Bool.{eq-eqb, false≢true}
use Rattle.sd_call.specs.declared.request.Request.{Request}
use Rattle.sd_call.specs.declared.request.Request.TheVariants as request
use Rattle.mdns_history.specs.declared.config.Config.{Config}
use Rattle.mdns_history.specs.declared.config.HostConfig.{HostConfig}
use Rattle.mdns_history.specs.declared.event.Event.{Event}
use Rattle.mdns_history.specs.declared.operation.Operation.{Operation}
use Rattle.mdns_history.specs.declared.entry.Entry.{Entry}
use Rattle.mdns_history.specs.InForce.{Duties}
use Rattle.mdns_history.specs.History.{now, is_tick, config_of}
use Rattle.mdns_history.specs.Sessions.{Accepted, accepted_call, detached, is_number, is_stop, stops, has_op, txt_of, after_request, after_call, operations_of, operation_request, present_txt, ends_operation}
use Rattle.mdns_history.specs.Groups.{Group, groups, is_group, group_name, ends_group, registration_in, registration_from, registered_count, group_of, names_of, host_group, host_of, host_name, unique_records, shared_records, address_records, service_unique, service_shared}
use Rattle.mdns_history.specs.Sureness.{sets_back, own_records}
use Rattle.mdns_history.specs.Outcomes.{early_outcome}
use Rattle.mdns_history.specs.Fitting.{bare_entry, is_boot, IsLegal}
use Rattle.mdns_asserts.proofs.Elements.{In, any_in, of_filter, both_no}
use Rattle.mdns_asserts.proofs.Numbered.{own_id}
use Rattle.mdns_asserts.proofs.Registered.{unbooted}
use Rattle.mdns_probe.specs.Claiming.{replaced}
use Rattle.mdns_probe.specs.Standing.{claim_in, IsPaced}
use Rattle.mdns_probe.specs.Kept.{Kept, kept_in, all_kept, own_of}
use Rattle.mdns_probe.proofs.Follows.{replaced_follows}
use Rattle.mdns_probe.proofs.Paced.{name_stays}
use Rattle.mdns_probe.proofs.Reading.{own_records_are}
use Rattle.mdns_probe.proofs.Ticking.{paced_legal}
use Rattle.mdns_claims.specs.Behind.{ends_by, registration_told}
use Rattle.mdns_claims.specs.Owned.{own_in}
use Rattle.mdns_claims.specs.Planned.{going_on}
use Rattle.mdns_claims.specs.Laws.{told_in}
use Rattle.mdns_claims.proofs.Records.{replaced_same}
use Rattle.mdns_responding.proofs.Each.{each_in, of_each, map_each}
use Rattle.mdns_responding.proofs.Ending.{bare_groups, goes_on}

-- whether no call is accepted but a stop
abbrev pub only_stops : Option Accepted → Bool
only_stops None = true
only_stops (Some call) = is_stop call.request

unregistered : (o : Option Accepted) → only_stops o ≡ true → registration_told o ≡ None
unregistered None h = refl
unregistered (Some call) h = of call.request h
  where
    of : (r : Request) → is_stop r ≡ true → registration_from call.session call.op r ≡ None
    of request.Stop k = refl
    of (request.Query kind name) k = cc
    of (request.Browse regtype) k = cc
    of (request.Resolve label regtype) k = cc
    of (request.Address families name) k = cc
    of (request.Register label regtype port norename txt) k = cc
    of (request.Update txt) k = cc

find_without : (op other : ℕ) (os : List Operation) → (other == op) ≡ false → find (has_op op) (filter (λ o. not (has_op other o)) os) ≡ find (has_op op) os
find_without op other [] h = refl
find_without op other (o ∷ os) h = of (o.op == other) refl (o.op == op) refl (find_without op other os h)
  where
    rest : List Operation
    rest = filter (λ p. not (has_op other p)) os

    of : (b : Bool) → (o.op == other) ≡ b → (c : Bool) → (o.op == op) ≡ c → find (has_op op) rest ≡ find (has_op op) os →
        find (has_op op) (cond (not b) (o ∷ rest) rest) ≡ cond c (Some o) (find (has_op op) os)
    of true e true f ih = absurd (false≢true (sym h ∙ eq-eqb other op (sym (eqb-true o.op other e) ∙ eqb-true o.op op f)))
    of true e false f ih = ih
    of false e c f ih = ap (λ x. cond x (Some o) (find (has_op op) rest)) f ∙ ap (cond c (Some o)) ih

-- a stop leaves every other operation
found_still : (session op : ℕ) (before : List Operation) (o : Option Accepted) → only_stops o ≡ true → stops session op o ≡ false → find (has_op op) (after_call session o before) ≡ find (has_op op) before
found_still session op before None h runs = refl
found_still session op before (Some call) h runs = of (call.session == session) (call.op == op) refl call.request h runs
  where
    of : (a b : Bool) → (call.op == op) ≡ b → (r : Request) → is_stop r ≡ true → (a && b && is_stop r) ≡ false → find (has_op op) (cond a (after_request session call.op r before) before) ≡ find (has_op op) before
    of false b e r k runs = refl
    of true true e r k runs = absurd (both_no (is_stop r) k runs)
    of true false e request.Stop k runs = find_without op call.op before e
    of true false e (request.Query kind name) k runs = cc
    of true false e (request.Browse regtype) k runs = cc
    of true false e (request.Resolve label regtype) k runs = cc
    of true false e (request.Address families name) k runs = cc
    of true false e (request.Register label regtype port norename txt) k runs = cc
    of true false e (request.Update txt) k runs = cc

either_false : (a b : Bool) → (a || b) ≡ false → (a ≡ false) × (b ≡ false)
either_false false b h = (refl, h)
either_false true b h = absurd (cc)

module _ (past : List Entry) (moment word : ℕ) (ev : Event) (no_boot : is_boot ev ≡ false) (ending : only_stops (accepted_call ev (early_outcome ev past)) ≡ true) where
  abbrev bare : Entry
  bare = bare_entry moment word ev past

  none_registered : registration_in bare ≡ None
  unfolding registration_in
  none_registered = unregistered (accepted_call ev (early_outcome ev past)) ending

  unset : (id : ℕ) → sets_back id bare past ≡ false
  unset id = λ i. ((is_some (unbooted ev no_boot i) && (id == 0)) || (is_some (none_registered i) && (registered_count past + 1 == id))) || false

  same_name : (group : Group) → group_name group (bare ∷ past) ≡ group_name group past
  same_name group = name_stays group bare past (unset group.id)

  same_config : config_of (bare ∷ past) ≡ config_of past
  same_config = ap (λ (o : Option Config). option_or o (config_of past)) (unbooted ev no_boot)

  same_host : host_name (bare ∷ past) ≡ host_name past
  unfolding host_name
  same_host =
      ap (λ (f : HostConfig → List (List ℕ)). unwrap_or (option_map f (host_of (bare ∷ past))) []) (λ i host. same_name (host_group host) i)
      ∙ ap (λ (o : Option Config). unwrap_or (option_map (λ host. group_name (host_group host) past) (option_and_then (λ config. config.host) o)) []) same_config

  same_txt : (session op : ℕ) → ends_operation session op bare ≡ false → present_txt session op (bare ∷ past) ≡ present_txt session op past
  unfolding present_txt operation_request operations_of
  same_txt session op runs =
      let parts = either_false (is_number session (detached ev (early_outcome ev past))) (stops session op (accepted_call ev (early_outcome ev past))) runs in
      ap (λ (o : Option Operation). option_map_or txt_of (option_map (λ operation. operation.request) o) [])
      (ap (λ b. find (has_op op) (cond b [] (after_call session (accepted_call ev (early_outcome ev past)) (operations_of session past)))) parts.0
      ∙ found_still session op (operations_of session past) (accepted_call ev (early_outcome ev past)) ending parts.1)

  same_unique : (group : Group) → ends_operation group.session group.op bare ≡ false → unique_records group (bare ∷ past) ≡ unique_records group past
  unfolding unique_records
  same_unique group runs =
      λ i. cond (group.id == 0) (flat_map (address_records (same_name group i)) (option_to_list (same_config i))) (service_unique (same_name group i) group.port (same_txt group.session group.op runs i) (same_host i))

  same_shared : (group : Group) → shared_records group (bare ∷ past) ≡ shared_records group past
  unfolding shared_records
  same_shared group = λ i. cond (group.id == 0) [] (service_shared (same_name group i) group.type)

  left_groups : groups (bare ∷ past) ≡ filter (λ group. not (ends_group bare group)) (groups past)
  left_groups =
      bare_groups past moment word ev no_boot
      ∙ (λ i. filter (λ group. not (ends_group bare group)) (groups past) ++ option_to_list (option_map (group_of (registered_count past + 1) (names_of (groups past) past)) (none_registered i)))
      ∙ append-nil (filter (λ group. not (ends_group bare group)) (groups past))

  module _ (duties : Duties) (claiming : duties.claiming ≡ true) (legal : IsLegal duties past) (later : now past ≤ moment) (no_tick : is_tick ev ≡ false) where
    stays : (group : Group) → In group (groups past) → ends_group bare group ≡ false → claim_in (bare ∷ past) group ≡ claim_in past group
    stays group m runs =
        let live : is_group group.id past ≡ true = any_in (λ (one : Group). one.id == group.id) (groups past) group m (own_id group.id) in
        let living : is_group group.id (bare ∷ past) ≡ true = goes_on past moment word ev no_boot duties legal group m ∙ ap not runs in
        let running : ends_operation group.session group.op bare ≡ false = (either_false (ends_operation group.session group.op bare) false runs).0 in
        replaced_follows group bare past live living (same_name group) (unset group.id) later (of_each (IsPaced past) (groups past) (paced_legal duties claiming past legal) group m) no_tick refl refl
        ∙ (λ i. replaced moment (same_unique group running i) (same_shared group i) (claim_in past group))
        ∙ replaced_same moment (claim_in past group)

    -- The own records behind it are those of the groups that go on.
    pub staying_own : own_records (bare ∷ past) ≡ own_in (going_on (told_in past moment word ev) [] (all_kept past))
    staying_own =
        own_records_are (bare ∷ past)
        ∙ ap own_of
        (ap (map (claim_in (bare ∷ past))) left_groups
        ∙ map_each (claim_in (bare ∷ past)) (claim_in past) (filter goes (groups past)) (each_in (λ group. claim_in (bare ∷ past) group ≡ claim_in past group) (filter goes (groups past))
        (λ group m. let found : In group (groups past) × (goes group ≡ true) = of_filter goes group (groups past) m in stays group found.0 (opposite (ends_group bare group) found.1)))
        ∙ kept_left (groups past))
      where
        goes : Group → Bool
        goes group = not (ends_group bare group)

        opposite : (b : Bool) → not b ≡ true → b ≡ false
        opposite true e = absurd (cc)
        opposite false e = refl

        kept_left : (gs : List Group) → map (claim_in past) (filter goes gs) ≡ map (λ one. one.claim) (filter (λ one. not (ends_by (told_in past moment word ev) [] one.group)) (map (kept_in past) gs))
        kept_left [] = refl
        kept_left (group ∷ gs) = of (goes group) (kept_left gs)
          where
            after : List Kept
            after = filter (λ one. not (ends_by (told_in past moment word ev) [] one.group)) (map (kept_in past) gs)

            of : (b : Bool) → map (claim_in past) (filter goes gs) ≡ map (λ one. one.claim) after → map (claim_in past) (cond b (group ∷ filter goes gs) (filter goes gs)) ≡ map (λ one. one.claim) (cond b (kept_in past group ∷ after) after)
            of true ih = ap (λ l. claim_in past group ∷ l) ih
            of false ih = ih
