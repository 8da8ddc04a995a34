-- What an entry that registers a group says: it hears nothing, and there is room for another.
use Rattle.std.proofs.Common.{◌≡◌, ℕ, ℤ, Bool, true, false, cond, not, ◌||◌, List, length, Option, Some, None, refl}
use Rattle.std.specs.Prelude.{nat_le}
use Rattle.std.specs.Option.{is_some, option_and_then}
use Rattle.std.specs.Ordering.{int_eq}
use Rattle.sd_call.specs.declared.request.Request.{Request}
use Rattle.sd_call.specs.declared.request.Request.TheVariants as request
use Rattle.sd_call.specs.Requests.{no_error, invalid, bad_param, unsupported, refused, name_conflict, well_formed}
use Rattle.mdns_history.specs.declared.event.Event.{Event}
use Rattle.mdns_history.specs.declared.event.Event.TheVariants as event
use Rattle.mdns_history.specs.declared.entry.Outcome.{Outcome}
use Rattle.mdns_history.specs.declared.entry.Outcome.TheVariants as outcome
use Rattle.mdns_history.specs.declared.entry.Entry.{Entry}
use Rattle.mdns_history.specs.InForce.{Duties}
use Rattle.mdns_history.specs.History.{booted}
use Rattle.mdns_history.specs.Hearings.{brought}
use Rattle.mdns_history.specs.Sessions.{Accepted, accepted_call, accepted_in, is_attached, is_cut, operation_request, operations_of}
use Rattle.mdns_history.specs.Groups.{Registration, registration_from, registered_count}
use Rattle.mdns_history.specs.Outcomes.{most_operations, most_over_life, call_code, early_outcome, late_outcome, is_unsupported, is_name_conflict}
use Rattle.mdns_history.specs.Fitting.{is_boot, next_entry}

-- a registration that is accepted finds room for another
register_room : (session op : ℕ) (label regtype : List ℕ) (port : ℕ) (norename : Bool) (txt : List ℕ) (past : List Entry) →
    int_eq (call_code session op (request.Register label regtype port norename txt) past) no_error ≡ true → nat_le most_over_life (registered_count past) ≡ false
unfolding call_code
register_room session op label regtype port norename txt past h =
    let r : Request = request.Register label regtype port norename txt in
    of (is_some (operation_request session op past)) (well_formed r) (is_unsupported r past) (nat_le most_operations (length (operations_of session past))) (nat_le most_over_life (registered_count past))
    (cond (is_name_conflict r past) name_conflict no_error) h
  where
    of : (x w u a b : Bool) (rest : ℤ) → int_eq (cond x invalid (cond (not w) bad_param (cond u unsupported (cond (a || b) refused rest)))) no_error ≡ true → b ≡ false
    of true w u a b rest e = cc
    of false false u a b rest e = cc
    of false true true a b rest e = cc
    of false true false true b rest e = cc
    of false true false false true rest e = cc
    of false true false false false rest e = refl

accepted-late : (ev : Event) (early : Outcome) (history : List Entry) → accepted_call ev (late_outcome ev early history) ≡ accepted_call ev early
accepted-late (event.Boot config) early history = refl
accepted-late event.Attach early history = refl
accepted-late (event.Detach session) early history = refl
accepted-late (event.Call session op r) early history = refl
accepted-late (event.Hear from bytes) early history = refl
accepted-late event.Tick early history = refl
accepted-late (event.Take session max) early history = refl

pub accepted-next : (duties : Duties) (past : List Entry) (moment word : ℕ) (ev : Event) → accepted_in (next_entry duties past moment word ev) ≡ accepted_call ev (early_outcome ev past)
unfolding next_entry
accepted-next duties past moment word ev = accepted-late ev (early_outcome ev past) _

abbrev pub registration_of : Accepted → Option Registration
registration_of call = registration_from call.session call.op call.request

-- what a registration says of its entry
abbrev pub IsRoomy : Event → List Entry → Type 0
IsRoomy ev past = (brought ev ≡ None) × (nat_le most_over_life (registered_count past) ≡ false)

pub register_says : (ev : Event) (past : List Entry) (r : Registration) → option_and_then registration_of (accepted_call ev (early_outcome ev past)) ≡ Some r → IsRoomy ev past
unfolding early_outcome
register_says (event.Boot config) past r e = cc
register_says event.Attach past r e = cc
register_says (event.Detach session) past r e = cc
register_says (event.Hear from bytes) past r e = cc
register_says event.Tick past r e = cc
register_says (event.Take session max) past r e = cc
register_says (event.Call session op q) past r e = (refl, of (not (is_attached session past)) (is_cut session past) e)
  where
    coded : (p : Request) → option_and_then registration_of (accepted_call (event.Call session op p) (outcome.Code (call_code session op p past))) ≡ Some r → nat_le most_over_life (registered_count past) ≡ false
    coded p f = by p (int_eq (call_code session op p past) no_error) refl f
      where
        by : (p : Request) (b : Bool) → int_eq (call_code session op p past) no_error ≡ b →
            option_and_then (λ (call : Accepted). registration_from call.session call.op call.request) (cond b (Some (record { session = session; op = op; request = p })) None) ≡ Some r → nat_le most_over_life (registered_count past) ≡ false
        by p false g k = cc
        by (request.Register label regtype port norename txt) true g k = register_room session op label regtype port norename txt past g
        by (request.Query kind name) true g k = cc
        by (request.Browse regtype) true g k = cc
        by (request.Resolve label regtype) true g k = cc
        by (request.Address families name) true g k = cc
        by (request.Update txt) true g k = cc
        by request.Stop true g k = cc

    of : (a b : Bool) → option_and_then (λ (call : Accepted). registration_from call.session call.op call.request) (accepted_call (event.Call session op q) (cond a outcome.Closed (cond b outcome.Cut (outcome.Code (call_code session op q past))))) ≡ Some r →
        nat_le most_over_life (registered_count past) ≡ false
    of true b f = cc
    of false true f = cc
    of false false f = coded q f

pub unbooted : (ev : Event) → is_boot ev ≡ false → booted ev ≡ None
unbooted (event.Boot config) h = cc
unbooted event.Attach h = refl
unbooted (event.Detach session) h = refl
unbooted (event.Call session op r) h = refl
unbooted (event.Hear from bytes) h = refl
unbooted event.Tick h = refl
unbooted (event.Take session max) h = refl
