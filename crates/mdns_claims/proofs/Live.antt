-- Each live group but the host's has a live operation, over legal histories of a daemon that claims names.
use Rattle.std.proofs.Common.{◌≡◌, ℕ, ◌+◌, ◌==◌, Bool, true, false, cond, not, ◌||◌, List, [], ◌∷◌, refl, ap, sym, subst, ◌∙◌, Option, Some, None}
use Rattle.std.specs.Prelude.{filter}
use Rattle.std.specs.List.{find, AllByRecursion}
use Rattle.std.specs.Ordering.{int_eq}
use Rattle.std.specs.Option.{option_or, option_map, option_to_list, unwrap_or, is_some}
use Rattle.std.proofs.lemmas.Bool.{eq-eqb, false≢true}
use Rattle.sd_call.specs.declared.request.Request.{Request}
use Rattle.sd_call.specs.declared.request.Request.TheVariants as request
use Rattle.sd_call.specs.Requests.{no_error, is_start}
use Rattle.mdns_history.specs.declared.config.Config.{Config}
use Rattle.mdns_history.specs.declared.config.HostConfig.{HostConfig}
use Rattle.mdns_history.specs.declared.event.Event.{Event}
use Rattle.mdns_history.specs.declared.operation.Operation.{Operation}
use Rattle.mdns_history.specs.declared.entry.Entry.{Entry}
use Rattle.mdns_history.specs.InForce.{Duties}
use Rattle.mdns_history.specs.Sessions.{Accepted, accepted_call, detached, is_number, stops, after_call, after_request, has_op, operations_of, operation_request, ends_operation}
use Rattle.mdns_history.specs.History.{has_mark}
use Rattle.mdns_asserts.proofs.Registered.{accepted-next}
use Rattle.mdns_history.specs.Groups.{Group, Registration, groups, ends_group, is_failure_of, group_of, host_group, names_of, registration_from, registered_count}
use Rattle.mdns_history.specs.Outcomes.{early_outcome, call_code}
use Rattle.mdns_history.specs.Fitting.{is_boot, boot_entry, IsLegal, IsLegalFrom}
use Rattle.mdns_probe.proofs.Legal.{entry_after, boot_groups}
use Rattle.mdns_probe.proofs.Places.{all-append}
use Rattle.mdns_renewals.specs.Occasions.{registration_told, txt_given}
use Rattle.mdns_claims.proofs.Operated.{IsCall, accepted_is, GoesOn, by_call, given, txt_found, found_inserted, starts_with, started_new}
use Rattle.mdns_claims.proofs.Told.{detached-next}
use Rattle.mdns_claims.proofs.Entered.{call, gone, operations_next, begun_next, groups_next}

-- a group has a live operation, unless it is the host
abbrev pub IsOperated : List Entry → Group → Type 0
IsOperated history group = (group.id == 0) ≡ false → is_some (find (has_op group.op) (operations_of group.session history)) ≡ true

either_false : (a b : Bool) → (a || b) ≡ false → (a ≡ false) × (b ≡ false)
either_false false false h = (refl, refl)
either_false true b h = absurd (cc)
either_false false true h = absurd (cc)

-- a registration is that of a call
pub record IsRegistered (asked : Option Accepted) (r : Registration) : Type 0 where
  pub asking : Accepted
  pub is : asked ≡ Some asking
  pub session : r.session ≡ asking.session
  pub op : r.op ≡ asking.op
  pub starts : is_start asking.request ≡ true

pub registered_is : (o : Option Accepted) (r : Registration) → registration_told o ≡ Some r → IsRegistered o r
registered_is None r e = cc
registered_is (Some c) r e = of c.request refl e
  where
    of : (q : Request) → c.request ≡ q → registration_from c.session c.op q ≡ Some r → IsRegistered (Some c) r
    of (request.Register label regtype port norename txt) f h = record {
      asking = c;
      is = refl;
      session = sym (ap (λ (o : Option Registration). (unwrap_or o r).session) h);
      op = sym (ap (λ (o : Option Registration). (unwrap_or o r).op) h);
      starts = ap is_start f;
    }
    of (request.Query kind name) f h = cc
    of (request.Browse regtype) f h = cc
    of (request.Resolve label regtype) f h = cc
    of (request.Address families name) f h = cc
    of (request.Update txt) f h = cc
    of request.Stop f h = cc

module _ (duties : Duties) (past : List Entry) (moment word : ℕ) (ev : Event) where
  abbrev entry : Entry
  entry = entry_after duties past moment word ev

  coded : (c : Accepted) → call duties past moment word ev ≡ Some c → int_eq (call_code c.session c.op c.request past) no_error ≡ true
  coded c e = let is : IsCall ev past c = accepted_is ev past c e in is.good

  -- a group that goes on: its operation, and its TXT data
  pub goes_on : (group : Group) → (is_number group.session (gone duties past moment word ev) || stops group.session group.op (call duties past moment word ev)) ≡ false →
      is_some (find (has_op group.op) (operations_of group.session past)) ≡ true →
      (is_some (find (has_op group.op) (operations_of group.session (entry ∷ past))) ≡ true)
      × (txt_found (find (has_op group.op) (operations_of group.session (entry ∷ past))) ≡ unwrap_or (txt_given (call duties past moment word ev) group) (txt_found (find (has_op group.op) (operations_of group.session past))))
  goes_on group runs live =
      let parts = either_false (is_number group.session (gone duties past moment word ev)) (stops group.session group.op (call duties past moment word ev)) runs in
      let on : GoesOn past group.session group.op (after_call group.session (call duties past moment word ev) (operations_of group.session past)) (given group.session group.op (call duties past moment word ev)) =
      by_call past group.session group.op (call duties past moment word ev) coded parts.1 live in
      let after : operations_of group.session (entry ∷ past) ≡ after_call group.session (call duties past moment word ev) (operations_of group.session past) =
      operations_next duties past moment word ev group.session ∙ ap (λ b. cond b [] (after_call group.session (call duties past moment word ev) (operations_of group.session past))) parts.0 in (
        ap (λ (os : List Operation). is_some (find (has_op group.op) os)) after ∙ on.there,
        ap (λ (os : List Operation). txt_found (find (has_op group.op) os)) after ∙ on.txts ∙ same (call duties past moment word ev),
      )
    where
      same : (o : Option Accepted) → unwrap_or (given group.session group.op o) (txt_found (find (has_op group.op) (operations_of group.session past)))
          ≡ unwrap_or (txt_given o group) (txt_found (find (has_op group.op) (operations_of group.session past)))
      same None = refl
      same (Some c) = refl

  not_gone : (e : Event) (c : Accepted) (session : ℕ) → accepted_call e (early_outcome e past) ≡ Some c → is_number session (detached e (early_outcome e past)) ≡ false
  not_gone e c session f = let is : IsCall e past c = accepted_is e past c f in ap (λ (x : Event). is_number session (detached x (early_outcome e past))) is.called

  -- a group that begins: its operation is that of the call
  pub begins_with : (r : Registration) → (is : IsRegistered (call duties past moment word ev) r) → find (has_op r.op) (operations_of r.session (entry ∷ past)) ≡ Some (record { session = is.asking.session; op = is.asking.op; request = is.asking.request })
  unfolding operation_request
  begins_with r is =
      let c : Accepted = is.asking in
      let new : Operation = record { session = c.session; op = c.op; request = c.request } in
      let before : List Operation = operations_of c.session past in
      let free : is_some (find (has_op c.op) before) ≡ false = sym (in_use (find (has_op c.op) before)) ∙ started_new c.session c.op c.request past (coded c is.is) is.starts in
      (λ i. find (has_op (is.op i)) (operations_of (is.session i) (entry ∷ past)))
      ∙ ap (find (has_op c.op)) (
      operations_next duties past moment word ev c.session
      ∙ ap (λ b. cond b [] (after_call c.session (call duties past moment word ev) before)) (not_gone ev c c.session is.is)
      ∙ ap (λ (o : Option Accepted). after_call c.session o before) is.is
      ∙ ap (λ b. cond b (after_request c.session c.op c.request before) before) (eq-eqb c.session c.session refl)
      ∙ starts_with c.session c.op c.request before is.starts)
      ∙ found_inserted new before free
    where
      in_use : (o : Option Operation) → is_some (option_map (λ operation. operation.request) o) ≡ is_some o
      in_use None = refl
      in_use (Some operation) = refl

  -- a group that doesn't end keeps its operation
  pub runs_on : (group : Group) → ends_group entry group ≡ false → (is_number group.session (gone duties past moment word ev) || stops group.session group.op (call duties past moment word ev)) ≡ false
  runs_on group e =
      (λ i. is_number group.session (sym (detached-next duties past moment word ev) i) || stops group.session group.op (sym (accepted-next duties past moment word ev) i))
      ∙ (either_false (ends_operation group.session group.op entry) (has_mark (is_failure_of group.id) entry) e).0

  module _ (no_boot : is_boot ev ≡ false) (operated : AllByRecursion (IsOperated past) (groups past)) where
    kept_each : (gs : List Group) → AllByRecursion (IsOperated past) gs → AllByRecursion (IsOperated (entry ∷ past)) (filter (λ group. not (ends_group entry group)) gs)
    kept_each [] all = tt
    kept_each (group ∷ gs) all = of (ends_group entry group) refl (kept_each gs all.1)
      where
        rest : List Group
        rest = filter (λ one. not (ends_group entry one)) gs

        of : (b : Bool) → ends_group entry group ≡ b → AllByRecursion (IsOperated (entry ∷ past)) rest → AllByRecursion (IsOperated (entry ∷ past)) (cond (not b) (group ∷ rest) rest)
        of true e more = more
        of false e more = ((λ real. (goes_on group (runs_on group e) (all.0 real)).0), more)

    new_each : (o : Option Registration) → registration_told (call duties past moment word ev) ≡ o →
        AllByRecursion (IsOperated (entry ∷ past)) (option_to_list (option_map (group_of (registered_count past + 1) (names_of (groups past) past)) o))
    new_each None e = tt
    new_each (Some r) e = ((λ real. ap is_some (begins_with r (registered_is (call duties past moment word ev) r e))), tt)

    operated_next : AllByRecursion (IsOperated (entry ∷ past)) (groups (entry ∷ past))
    operated_next =
        subst (AllByRecursion (IsOperated (entry ∷ past))) (sym (groups_next duties past moment word ev no_boot))
        (all-append (IsOperated (entry ∷ past)) (filter (λ group. not (ends_group entry group)) (groups past)) (option_to_list (begun_next duties past moment word ev))
        (kept_each (groups past) operated) (new_each (registration_told (call duties past moment word ev)) refl))

boot_operated : (moment word : ℕ) (config : Config) → AllByRecursion (IsOperated (boot_entry moment word config ∷ [])) (groups (boot_entry moment word config ∷ []))
boot_operated moment word config = of config.host (boot_groups moment word config)
  where
    of : (h : Option HostConfig) → groups (boot_entry moment word config ∷ []) ≡ option_to_list (option_or (option_map host_group h) None) → AllByRecursion (IsOperated (boot_entry moment word config ∷ [])) (groups (boot_entry moment word config ∷ []))
    of None are = subst (AllByRecursion (IsOperated (boot_entry moment word config ∷ []))) (sym are) tt
    of (Some host) are = subst (AllByRecursion (IsOperated (boot_entry moment word config ∷ []))) (sym are) ((λ real. absurd (false≢true (sym real))), tt)

operated_from : (duties : Duties) (entry : Entry) (past : List Entry) → IsLegalFrom duties entry past → AllByRecursion (IsOperated (entry ∷ past)) (groups (entry ∷ past))
operated_from duties entry [] legal = subst (λ e. AllByRecursion (IsOperated (e ∷ [])) (groups (e ∷ []))) (sym legal.3) (boot_operated entry.moment entry.word legal.0)
operated_from duties entry (before ∷ past) legal =
    subst (λ e. AllByRecursion (IsOperated (e ∷ before ∷ past)) (groups (e ∷ before ∷ past))) (sym (legal.0).determined)
    (operated_next duties (before ∷ past) entry.moment entry.word entry.event (legal.0).no_boot (operated_from duties before past legal.1))

-- Each live group but the host's has a live operation.
pub are_operated : (duties : Duties) (past : List Entry) → IsLegal duties past → AllByRecursion (IsOperated past) (groups past)
are_operated duties [] legal = absurd legal
are_operated duties (entry ∷ past) legal = operated_from duties entry past legal
