-- The operations of registrations: each live group but the host's has one, and what becomes of its TXT data.
use Rattle.std.proofs.Common.{◌≡◌, ℕ, ◌==◌, eqb-true, Bool, true, false, cond, not, ◌&&◌, List, [], ◌∷◌, map, refl, ap, sym, subst, ◌∙◌, Option, Some, None}
use Rattle.std.specs.Prelude.{filter}
use Rattle.std.specs.List.{find}
use Rattle.std.specs.Ordering.{int_eq, is_lt}
use Rattle.std.specs.Option.{option_map, option_map_or, unwrap_or, is_some}
use Rattle.std.proofs.lemmas.Bool.{eq-eqb, ne_eqb, false≢true}
use Rattle.lists.specs.Lists.{insert_by}
use Rattle.sd_call.specs.declared.request.Request.{Request}
use Rattle.sd_call.specs.declared.request.Request.TheVariants as request
use Rattle.sd_call.specs.Requests.{no_error, bad_param, bad_reference, unsupported, name_conflict, invalid, refused, well_formed, is_start, is_register, with_txt}
use Rattle.mdns_history.specs.declared.event.Event.{Event}
use Rattle.mdns_history.specs.declared.event.Event.TheVariants as event
use Rattle.mdns_history.specs.declared.operation.Operation.{Operation}
use Rattle.mdns_history.specs.declared.entry.Entry.{Entry}
use Rattle.mdns_history.specs.declared.entry.Outcome.TheVariants as outcome
use Rattle.mdns_history.specs.Sessions.{Accepted, accepted_call, is_attached, is_cut, has_op, by_op, updated, after_request, after_call, operations_of, operation_request, txt_of, is_stop, stops}
use Rattle.mdns_history.specs.Outcomes.{may_update, is_bad_reference, is_unsupported, is_refused, is_name_conflict, call_code, early_outcome}
use Rattle.mdns_renewals.specs.Occasions.{updated_txt}

-- a call that is accepted is the event, and has the code 0
pub record IsCall (ev : Event) (past : List Entry) (call : Accepted) : Type 0 where
  pub called : ev ≡ event.Call call.session call.op call.request
  pub good : int_eq (call_code call.session call.op call.request past) no_error ≡ true

pub accepted_is : (ev : Event) (past : List Entry) (call : Accepted) → accepted_call ev (early_outcome ev past) ≡ Some call → IsCall ev past call
unfolding early_outcome
accepted_is (event.Boot config) past call e = cc
accepted_is event.Attach past call e = cc
accepted_is (event.Detach session) past call e = cc
accepted_is (event.Hear from bytes) past call e = cc
accepted_is event.Tick past call e = cc
accepted_is (event.Take session max) past call e = cc
accepted_is (event.Call session op r) past call e = of (not (is_attached session past)) (is_cut session past) (int_eq (call_code session op r past) no_error) refl e
  where
    here : Accepted
    here = record { session = session; op = op; request = r }

    of : (a b c : Bool) → int_eq (call_code session op r past) no_error ≡ c →
        accepted_call (event.Call session op r) (cond a outcome.Closed (cond b outcome.Cut (outcome.Code (call_code session op r past)))) ≡ Some call → IsCall (event.Call session op r) past call
    of true b c f h = cc
    of false true c f h = cc
    of false false false f h = let none : ◌≡◌ {A = Option Accepted} None (Some call) = sym (ap (λ b. cond b (Some here) None) f) ∙ h in cc
    of false false true f h =
        let some : ◌≡◌ {A = Option Accepted} (Some here) (Some call) = sym (ap (λ b. cond b (Some here) None) f) ∙ h in
        let same : here ≡ call = ap (λ (o : Option Accepted). unwrap_or o here) some in
        subst (λ (c : Accepted). IsCall (event.Call session op r) past c) same (record { called = refl; good = f })

-- a start that is accepted is of a free number
pub started_new : (session op : ℕ) (r : Request) (past : List Entry) → int_eq (call_code session op r past) no_error ≡ true → is_start r ≡ true → is_some (operation_request session op past) ≡ false
unfolding call_code
started_new session op r past h starts = of (is_start r) (is_some (operation_request session op past)) starts h
  where
    of : (a b : Bool) → a ≡ true → int_eq (cond (a && b) invalid (cond (is_bad_reference session op r past) bad_reference (cond (not (well_formed r)) bad_param (cond (is_unsupported r past) unsupported (cond (is_refused session r past) refused (cond (is_name_conflict r past) name_conflict no_error)))))) no_error ≡ true → b ≡ false
    of true true e k = cc
    of true false e k = refl
    of false b e k = cc

-- an update that is accepted is of a registration
updates_one : (session op : ℕ) (txt : List ℕ) (past : List Entry) → int_eq (call_code session op (request.Update txt) past) no_error ≡ true → may_update session op (operation_request session op past) past ≡ true
unfolding call_code
updates_one session op txt past h = of (may_update session op (operation_request session op past) past) h
  where
    of : (b : Bool) → int_eq (cond (not b) bad_reference (cond (not (well_formed (request.Update txt))) bad_param no_error)) no_error ≡ true → b ≡ true
    of true k = refl
    of false k = cc

found_is : (op : ℕ) (os : List Operation) (o : Operation) → find (has_op op) os ≡ Some o → (o.op == op) ≡ true
found_is op [] o e = cc
found_is op (p ∷ os) o e = of (p.op == op) refl e (found_is op os o)
  where
    of : (b : Bool) → (p.op == op) ≡ b → cond b (Some p) (find (has_op op) os) ≡ Some o → (find (has_op op) os ≡ Some o → (o.op == op) ≡ true) → (o.op == op) ≡ true
    of true t h rest = let same : p ≡ o = ap (λ (x : Option Operation). unwrap_or x p) h in subst (λ (x : Operation). (x.op == op) ≡ true) same t
    of false t h rest = rest h

find_updated : (op other : ℕ) (txt : List ℕ) (os : List Operation) → find (has_op op) (map (updated other txt) os) ≡ option_map (updated other txt) (find (has_op op) os)
find_updated op other txt [] = refl
find_updated op other txt (o ∷ os) = of (o.op == op) (find_updated op other txt os)
  where
    of : (b : Bool) → find (has_op op) (map (updated other txt) os) ≡ option_map (updated other txt) (find (has_op op) os) →
        cond b (Some (updated other txt o)) (find (has_op op) (map (updated other txt) os)) ≡ option_map (updated other txt) (cond b (Some o) (find (has_op op) os))
    of true ih = refl
    of false ih = ih

-- one number isn't two
other_number : (a b c : ℕ) → (a == b) ≡ true → (c == b) ≡ false → (a == c) ≡ false
other_number a b c e f = ne_eqb a c (λ k. absurd (false≢true (sym f ∙ eq-eqb c b (sym k ∙ eqb-true a b e))))

find_without : (op other : ℕ) (os : List Operation) → (other == op) ≡ false → find (has_op op) (filter (λ o. not (has_op other o)) os) ≡ find (has_op op) os
find_without op other [] h = refl
find_without op other (o ∷ os) h = of (o.op == other) refl (o.op == op) refl (find_without op other os h)
  where
    rest : List Operation
    rest = filter (λ p. not (has_op other p)) os

    of : (b : Bool) → (o.op == other) ≡ b → (c : Bool) → (o.op == op) ≡ c → find (has_op op) rest ≡ find (has_op op) os →
        find (has_op op) (cond (not b) (o ∷ rest) rest) ≡ cond c (Some o) (find (has_op op) os)
    of true e true f ih = absurd (false≢true (sym h ∙ eq-eqb other op (sym (eqb-true o.op other e) ∙ eqb-true o.op op f)))
    of true e false f ih = ih
    of false e c f ih = ap (λ x. cond x (Some o) (find (has_op op) rest)) f ∙ ap (cond c (Some o)) ih

find_inserted : (op : ℕ) (new : Operation) (os : List Operation) → (new.op == op) ≡ false → find (has_op op) (insert_by by_op new os) ≡ find (has_op op) os
find_inserted op new [] h = ap (λ b. cond b (Some new) None) h
find_inserted op new (o ∷ os) h = of (is_lt (by_op o new)) (find_inserted op new os h)
  where
    of : (b : Bool) → find (has_op op) (insert_by by_op new os) ≡ find (has_op op) os → find (has_op op) (cond b (o ∷ insert_by by_op new os) (new ∷ o ∷ os)) ≡ find (has_op op) (o ∷ os)
    of true ih = ap (cond (o.op == op) (Some o)) ih
    of false ih = ap (λ b. cond b (Some new) (find (has_op op) (o ∷ os))) h

pub found_inserted : (new : Operation) (os : List Operation) → is_some (find (has_op new.op) os) ≡ false → find (has_op new.op) (insert_by by_op new os) ≡ Some new
found_inserted new [] h = ap (λ b. cond b (Some new) None) (eq-eqb new.op new.op refl)
found_inserted new (o ∷ os) h = of (is_lt (by_op o new)) (o.op == new.op) refl h (found_inserted new os)
  where
    here : find (has_op new.op) (new ∷ o ∷ os) ≡ Some new
    here = ap (λ b. cond b (Some new) (find (has_op new.op) (o ∷ os))) (eq-eqb new.op new.op refl)

    of : (b c : Bool) → (o.op == new.op) ≡ c → is_some (cond c (Some o) (find (has_op new.op) os)) ≡ false →
        (is_some (find (has_op new.op) os) ≡ false → find (has_op new.op) (insert_by by_op new os) ≡ Some new) → find (has_op new.op) (cond b (o ∷ insert_by by_op new os) (new ∷ o ∷ os)) ≡ Some new
    of false c e k rest = here
    of true true e k rest = cc
    of true false e k rest = ap (λ c. cond c (Some o) (find (has_op new.op) (insert_by by_op new os))) e ∙ rest k

pub starts_with : (session op : ℕ) (r : Request) (before : List Operation) → is_start r ≡ true → after_request session op r before ≡ insert_by by_op (record { session = session; op = op; request = r }) before
starts_with session op (request.Query kind name) before h = refl
starts_with session op (request.Browse regtype) before h = refl
starts_with session op (request.Resolve label regtype) before h = refl
starts_with session op (request.Address families name) before h = refl
starts_with session op (request.Register label regtype port norename txt) before h = refl
starts_with session op (request.Update txt) before h = cc
starts_with session op request.Stop before h = cc

not_updated : (r : Request) → is_start r ≡ true → ◌≡◌ {A = Option (List ℕ)} (updated_txt r) None
not_updated (request.Query kind name) h = refl
not_updated (request.Browse regtype) h = refl
not_updated (request.Resolve label regtype) h = refl
not_updated (request.Address families name) h = refl
not_updated (request.Register label regtype port norename txt) h = refl
not_updated (request.Update txt) h = cc
not_updated request.Stop h = cc

-- the TXT data of an operation that may be there
abbrev pub txt_found : Option Operation → List ℕ
txt_found o = option_map_or txt_of (option_map (λ operation. operation.request) o) []

txt_replaced : (txt : List ℕ) (r : Request) → is_register r ≡ true → txt_of (with_txt txt r) ≡ txt
txt_replaced txt (request.Register label regtype port norename before) h = refl
txt_replaced txt (request.Query kind name) h = cc
txt_replaced txt (request.Browse regtype) h = cc
txt_replaced txt (request.Resolve label regtype) h = cc
txt_replaced txt (request.Address families name) h = cc
txt_replaced txt (request.Update other) h = cc
txt_replaced txt request.Stop h = cc

-- the TXT data that a call gives to an operation
abbrev pub given : ℕ → ℕ → Option Accepted → Option (List ℕ)
given session op None = None
given session op (Some call) = cond ((call.session == session) && (call.op == op)) (updated_txt call.request) None

module _ (past : List Entry) (session op : ℕ) where
  abbrev before : List Operation
  before = operations_of session past

  -- what is said of an operation behind a call that doesn't stop it
  pub record GoesOn (after : List Operation) (txt : Option (List ℕ)) : Type 0 where
    pub there : is_some (find (has_op op) after) ≡ true
    pub txts : txt_found (find (has_op op) after) ≡ unwrap_or txt (txt_found (find (has_op op) before))

  same_there : is_some (find (has_op op) before) ≡ true → (after : List Operation) → find (has_op op) after ≡ find (has_op op) before → GoesOn after None
  same_there live after e = record { there = ap is_some e ∙ live; txts = ap txt_found e }

  by_update : (other : ℕ) (txt : List ℕ) (b : Bool) → (other == op) ≡ b → (o : Option Operation) → find (has_op op) before ≡ o → is_some o ≡ true →
      (b ≡ true → may_update session op (option_map (λ operation. operation.request) o) past ≡ true) → GoesOn (map (updated other txt) before) (cond b (Some txt) None)
  by_update other txt b e None f live may = cc
  by_update other txt b e (Some o) f live may = record {
    there = ap is_some (find_updated op other txt before ∙ ap (option_map (updated other txt)) f);
    txts = ap txt_found (find_updated op other txt before ∙ ap (option_map (updated other txt)) f) ∙ of b e may ∙ ap (λ x. unwrap_or (cond b (Some txt) None) (txt_found x)) (sym f);
  }
    where
      here : (o.op == op) ≡ true
      here = found_is op before o f

      of : (b : Bool) → (other == op) ≡ b → (b ≡ true → may_update session op (Some o.request) past ≡ true) →
          txt_of (cond (o.op == other) (with_txt txt o.request) o.request) ≡ unwrap_or (cond b (Some txt) None) (txt_of o.request)
      of true e may =
          ap (λ c. txt_of (cond c (with_txt txt o.request) o.request)) (eq-eqb o.op other (eqb-true o.op op here ∙ sym (eqb-true other op e)))
          ∙ txt_replaced txt o.request (first_true (is_register o.request) _ (may refl))
        where
          first_true : (a c : Bool) → (a && c) ≡ true → a ≡ true
          first_true true c h = refl
          first_true false c h = cc
      of false e may = ap (λ c. txt_of (cond c (with_txt txt o.request) o.request)) (other_number o.op op other here e)

  by_start : (other : ℕ) (r : Request) (b : Bool) → (other == op) ≡ b → is_start r ≡ true → is_some (find (has_op op) before) ≡ true → (b ≡ true → is_some (find (has_op op) before) ≡ false) →
      GoesOn (after_request session other r before) (cond b (updated_txt r) None)
  by_start other r true e starts live new = absurd (false≢true (sym (new refl) ∙ live))
  by_start other r false e starts live new =
      same_there live (after_request session other r before)
      (ap (find (has_op op)) (starts_with session other r before starts) ∙ find_inserted op (record { session = session; op = other; request = r }) before e)

  is_new : (other : ℕ) (r : Request) (b : Bool) → (other == op) ≡ b → int_eq (call_code session other r past) no_error ≡ true → is_start r ≡ true → b ≡ true → is_some (find (has_op op) before) ≡ false
  unfolding operation_request
  is_new other r b e good starts t =
      sym (in_use (find (has_op op) before)) ∙ subst (λ n. is_some (operation_request session n past) ≡ false) (eqb-true other op (e ∙ t)) (started_new session other r past good starts)
    where
      in_use : (o : Option Operation) → is_some (option_map (λ operation. operation.request) o) ≡ is_some o
      in_use None = refl
      in_use (Some operation) = refl

  by_request : (other : ℕ) (r : Request) (b : Bool) → (other == op) ≡ b → int_eq (call_code session other r past) no_error ≡ true → (b && is_stop r) ≡ false → is_some (find (has_op op) before) ≡ true →
      GoesOn (after_request session other r before) (cond b (updated_txt r) None)
  unfolding operation_request
  by_request other (request.Update txt) b e good runs live =
      by_update other txt b e (find (has_op op) before) refl live (λ t. subst (λ n. may_update session n (operation_request session n past) past ≡ true) (eqb-true other op (e ∙ t)) (updates_one session other txt past good))
  by_request other request.Stop true e good runs live = cc
  by_request other request.Stop false e good runs live = same_there live (filter (λ o. not (has_op other o)) before) (find_without op other before e)
  by_request other (request.Query kind name) b e good runs live = by_start other (request.Query kind name) b e refl live (is_new other (request.Query kind name) b e good refl)
  by_request other (request.Browse regtype) b e good runs live = by_start other (request.Browse regtype) b e refl live (is_new other (request.Browse regtype) b e good refl)
  by_request other (request.Resolve label regtype) b e good runs live = by_start other (request.Resolve label regtype) b e refl live (is_new other (request.Resolve label regtype) b e good refl)
  by_request other (request.Address families name) b e good runs live = by_start other (request.Address families name) b e refl live (is_new other (request.Address families name) b e good refl)
  by_request other (request.Register label regtype port norename txt) b e good runs live =
      by_start other (request.Register label regtype port norename txt) b e refl live (is_new other (request.Register label regtype port norename txt) b e good refl)

  -- behind any call that is accepted and doesn't stop it
  pub by_call : (call : Option Accepted) → ((c : Accepted) → call ≡ Some c → int_eq (call_code c.session c.op c.request past) no_error ≡ true) → stops session op call ≡ false → is_some (find (has_op op) before) ≡ true →
      GoesOn (after_call session call before) (given session op call)
  by_call None good runs live = same_there live before refl
  by_call (Some call) good runs live = of (call.session == session) refl (call.op == op) refl runs
    where
      of : (a : Bool) → (call.session == session) ≡ a → (b : Bool) → (call.op == op) ≡ b → (a && b && is_stop call.request) ≡ false →
          GoesOn (cond a (after_request session call.op call.request before) before) (cond (a && b) (updated_txt call.request) None)
      of false e b f k = same_there live before refl
      of true e b f k = by_request call.op call.request b f (subst (λ s. int_eq (call_code s call.op call.request past) no_error ≡ true) (eqb-true call.session session e) (good call refl)) k live
