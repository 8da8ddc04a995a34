-- What a call that is accepted, and a session that is opened, say of the history before.
use Rattle.std.proofs.Common.{◌≡◌, ℕ, ◌+◌, Bool, true, false, cond, not, ◌&&◌, ◌||◌, List, length, Option, Some, None, refl, ap, subst, ◌∙◌, sym}
use Rattle.std.specs.Prelude.{nat_le}
use Rattle.std.specs.List.{find}
use Rattle.std.specs.Option.{option_map, is_some, unwrap_or}
use Rattle.std.specs.Ordering.{int_eq}
use Rattle.sd_call.specs.declared.request.Request.{Request}
use Rattle.sd_call.specs.Requests.{no_error, invalid, bad_reference, bad_param, unsupported, refused, name_conflict, well_formed, is_start, is_register}
use Rattle.mdns_history.specs.declared.event.Event.{Event}
use Rattle.mdns_history.specs.declared.event.Event.TheVariants as event
use Rattle.mdns_history.specs.declared.entry.Outcome.{Outcome}
use Rattle.mdns_history.specs.declared.entry.Outcome.TheVariants as outcome
use Rattle.mdns_history.specs.declared.entry.Entry.{Entry}
use Rattle.mdns_history.specs.declared.operation.Operation.{Operation}
use Rattle.mdns_history.specs.Sessions.{Accepted, has_op, opened, opened_count, attached_sessions, detached, accepted_call, is_attached, is_cut, operations_of, operation_request}
use Rattle.mdns_history.specs.Groups.{registered_count}
use Rattle.mdns_history.specs.Outcomes.{most_sessions, most_operations, most_over_life, is_bad_reference, is_unsupported, is_refused, is_name_conflict, call_code, call_outcome, early_outcome}
use Rattle.mdns_history.proofs.CallFacts.{opened-call}

-- A call that is accepted is of an attached session. A start has a number that isn't in use, and finds room.
pub record Says (call : Accepted) (past : List Entry) : Type 0 where
  pub attached : is_attached call.session past ≡ true
  pub new : is_start call.request ≡ true → find (has_op call.op) (operations_of call.session past) ≡ None
  pub room : is_start call.request ≡ true → nat_le most_operations (length (operations_of call.session past)) ≡ false

code_says : (session op : ℕ) (r : Request) (past : List Entry) → int_eq (call_code session op r past) no_error ≡ true →
    ((is_start r && is_some (operation_request session op past)) ≡ false) × (is_refused session r past ≡ false)
unfolding call_code
code_says session op r past h =
    of (is_start r && is_some (operation_request session op past)) (is_bad_reference session op r past) (not (well_formed r)) (is_unsupported r past) (is_refused session r past) (is_name_conflict r past) h
  where
    of : (a b c d e f : Bool) → int_eq (cond a invalid (cond b bad_reference (cond c bad_param (cond d unsupported (cond e refused (cond f name_conflict no_error)))))) no_error ≡ true → (a ≡ false) × (e ≡ false)
    of true b c d e f g = cc
    of false true c d e f g = cc
    of false false true d e f g = cc
    of false false false true e f g = cc
    of false false false false true f g = cc
    of false false false false false f g = (refl, refl)

unused : (session op : ℕ) (past : List Entry) (b : Bool) → b ≡ true → (b && is_some (operation_request session op past)) ≡ false → find (has_op op) (operations_of session past) ≡ None
unfolding operation_request
unused session op past false s h = cc
unused session op past true s h = of (find (has_op op) (operations_of session past)) h
  where
    of : (o : Option Operation) → is_some (option_map (λ operation. operation.request) o) ≡ false → o ≡ None
    of None g = refl
    of (Some operation) g = cc

roomy : (a b c : Bool) → a ≡ true → (a && (b || c)) ≡ false → b ≡ false
roomy false b c s h = cc
roomy true false c s h = refl
roomy true true c s h = cc

pub accepted_says : (ev : Event) (past : List Entry) (call : Accepted) → accepted_call ev (early_outcome ev past) ≡ Some call → Says call past
unfolding early_outcome
accepted_says (event.Boot config) past call e = cc
accepted_says event.Attach past call e = cc
accepted_says (event.Detach session) past call e = cc
accepted_says (event.Hear from bytes) past call e = cc
accepted_says event.Tick past call e = cc
accepted_says (event.Take session max) past call e = cc
accepted_says (event.Call session op q) past call e = of (is_attached session past) refl (is_cut session past) e
  where
    coded : is_attached session past ≡ true → (z : Bool) → int_eq (call_code session op q past) no_error ≡ z → ◌≡◌ {A = Option Accepted} (cond z (Some (record { session = session; op = op; request = q })) None) (Some call) → Says call past
    coded here false z g = cc
    coded here true z g =
        let says : ((is_start q && is_some (operation_request session op past)) ≡ false) × (is_refused session q past ≡ false) = code_says session op q past z in
        subst (λ c. Says c past) (ap (λ (o : Option Accepted). unwrap_or o (record { session = session; op = op; request = q })) g)
        (record {
          attached = here;
          new = λ s. unused session op past (is_start q) s says.0;
          room = λ s. roomy (is_start q) (nat_le most_operations (length (operations_of session past))) (is_register q && nat_le most_over_life (registered_count past)) s says.1;
        })

    of : (a : Bool) → is_attached session past ≡ a → (b : Bool) →
        accepted_call (event.Call session op q) (cond (not a) outcome.Closed (cond b outcome.Cut (outcome.Code (call_code session op q past)))) ≡ Some call → Says call past
    of false f b g = cc
    of true f true g = cc
    of true f false g = coded f (int_eq (call_code session op q past) no_error) refl g

-- An entry that accepts a call detaches no session.
pub accepts_alone : (ev : Event) (o p : Outcome) (call : Accepted) → accepted_call ev o ≡ Some call → detached ev p ≡ None
accepts_alone (event.Boot config) o p call e = refl
accepts_alone event.Attach o p call e = refl
accepts_alone (event.Detach session) o p call e = cc
accepts_alone (event.Hear from bytes) o p call e = refl
accepts_alone event.Tick o p call e = refl
accepts_alone (event.Take session max) o p call e = refl
accepts_alone (event.Call session op q) o p call e = refl

-- A session is opened where there is room for it.
pub opened_says : (ev : Event) (past : List Entry) (k : ℕ) → opened (early_outcome ev past) ≡ Some k → (k ≡ opened_count past + 1) × (nat_le most_sessions (length (attached_sessions past)) ≡ false)
unfolding early_outcome
opened_says (event.Boot config) past k e = cc
opened_says event.Attach past k e = of (nat_le most_sessions (length (attached_sessions past))) (nat_le most_over_life (opened_count past)) e
  where
    of : (a b : Bool) → opened (cond (a || b) outcome.Full (outcome.Opened (opened_count past + 1))) ≡ Some k → (k ≡ opened_count past + 1) × (a ≡ false)
    of true b f = cc
    of false true f = cc
    of false false f = (sym (ap (λ (o : Option ℕ). unwrap_or o 0) f), refl)
opened_says (event.Detach session) past k e = of (is_attached session past) e
  where
    of : (a : Bool) → opened (cond a outcome.Ended outcome.Closed) ≡ Some k → (k ≡ opened_count past + 1) × (nat_le most_sessions (length (attached_sessions past)) ≡ false)
    of true f = cc
    of false f = cc
opened_says (event.Call session op q) past k e = let none : opened (call_outcome session op q past) ≡ None = opened-call session op q past in let no : None ≡ Some k = sym none ∙ e in cc
opened_says (event.Hear from bytes) past k e = cc
opened_says event.Tick past k e = cc
opened_says (event.Take session max) past k e = cc
