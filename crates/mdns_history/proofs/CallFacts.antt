-- What the outcomes of entries say of sessions and operations.
use Rattle.std.proofs.Common.{◌≡◌, ℕ, ℤ, ◌+◌, Bool, true, false, cond, not, ◌&&◌, ◌||◌, List, [], ◌∷◌, Option, Some, None, refl, ap, ◌∙◌, sym, arith, pos}
use Rattle.std.specs.Prelude.{take, length, nat_le}
use Rattle.std.specs.List.{find}
use Rattle.std.specs.Option.{option_map, is_some}
use Rattle.std.specs.Ordering.{int_eq}
use Rattle.sd_call.specs.declared.item.Item.{Item}
use Rattle.sd_call.specs.declared.request.Request.{Request}
use Rattle.sd_call.specs.Requests.{no_error, is_start}
use Rattle.mdns_history.specs.declared.event.Event.{Event}
use Rattle.mdns_history.specs.declared.event.Event.TheVariants as event
use Rattle.mdns_history.specs.declared.entry.Outcome.{Outcome}
use Rattle.mdns_history.specs.declared.entry.Outcome.TheVariants as outcome
use Rattle.mdns_history.specs.declared.entry.Entry.{Entry}
use Rattle.mdns_history.specs.Sessions.{Operation, has_op, opened, opened_count, attached_sessions, is_number, is_attached, is_cut, operations_of, operation_request}
use Rattle.mdns_history.specs.Items.{queue}
use Rattle.mdns_history.specs.Outcomes.{most_sessions, most_over_life, call_code, call_outcome, take_outcome, items_or_empty, early_outcome, late_outcome}

-- the outcome of a take opens nothing
pub opened-take : (session max : ℕ) (history : List Entry) → opened (take_outcome session max history) ≡ None
opened-take session max history = of (not (is_attached session history)) (is_cut session history) (take max (queue session history))
  where
    of : (a b : Bool) (items : List Item) → opened (cond a outcome.Closed (cond b outcome.Cut (items_or_empty items))) ≡ None
    of true b items = refl
    of false true items = refl
    of false false [] = refl
    of false false (item ∷ items) = refl

pub opened-late : (e : Event) (past history : List Entry) → opened (late_outcome e (early_outcome e past) history) ≡ opened (early_outcome e past)
unfolding early_outcome
opened-late (event.Boot config) past history = refl
opened-late event.Attach past history = refl
opened-late (event.Detach session) past history = refl
opened-late (event.Call session op request) past history = refl
opened-late (event.Hear from bytes) past history = refl
opened-late event.Tick past history = refl
opened-late (event.Take session max) past history = opened-take session max history

-- a call opens nothing
pub opened-call : (session op : ℕ) (r : Request) (past : List Entry) → opened (call_outcome session op r past) ≡ None
opened-call session op r past = of (not (is_attached session past)) (is_cut session past)
  where
    of : (a b : Bool) → opened (cond a outcome.Closed (cond b outcome.Cut (outcome.Code (call_code session op r past)))) ≡ None
    of true b = refl
    of false true = refl
    of false false = refl

-- the number of a session that is opened is the next one
pub opened_next : (e : Event) (past : List Entry) (session : ℕ) → is_number session (opened (early_outcome e past)) ≡ true → session ≡ opened_count past + 1
unfolding early_outcome
opened_next (event.Boot config) past session n = cc
opened_next event.Attach past session n = of (nat_le most_sessions (length (attached_sessions past)) || nat_le most_over_life (opened_count past)) n
  where
    of : (b : Bool) → is_number session (opened (cond b outcome.Full (outcome.Opened (opened_count past + 1)))) ≡ true → session ≡ opened_count past + 1
    of true h = cc
    of false h = grind arith
opened_next (event.Detach other) past session n = of (is_attached other past) n
  where
    of : (b : Bool) → is_number session (opened (cond b outcome.Ended outcome.Closed)) ≡ true → session ≡ opened_count past + 1
    of true h = cc
    of false h = cc
opened_next (event.Call other op r) past session n = let none : is_number session (opened (call_outcome other op r past)) ≡ false = ap (is_number session) (opened-call other op r past) in let no : true ≡ false = sym n ∙ none in cc
opened_next (event.Hear from bytes) past session n = cc
opened_next event.Tick past session n = cc
opened_next (event.Take other max) past session n = cc

code_in : Outcome → ℤ
code_in (outcome.Code code) = code
code_in _ = pos 0

is_code : Outcome → Bool
is_code (outcome.Code code) = true
is_code _ = false

-- a call that was answered with a code is of an attached session
pub coded_attached : (session op : ℕ) (r : Request) (past : List Entry) (code : ℤ) → call_outcome session op r past ≡ outcome.Code code → is_attached session past ≡ true
unfolding is_code
coded_attached session op r past code e = of (is_attached session past) (is_cut session past) refl (ap is_code e)
  where
    of : (a b : Bool) → is_attached session past ≡ a → is_code (cond (not a) outcome.Closed (cond b outcome.Cut (outcome.Code (call_code session op r past)))) ≡ true → is_attached session past ≡ true
    of true b f h = f
    of false b f h = cc

pub coded_with : (session op : ℕ) (r : Request) (past : List Entry) (code : ℤ) → call_outcome session op r past ≡ outcome.Code code → call_code session op r past ≡ code
unfolding code_in is_code
coded_with session op r past code e = of (not (is_attached session past)) (is_cut session past) (ap is_code e) (ap code_in e)
  where
    of : (a b : Bool) → is_code (cond a outcome.Closed (cond b outcome.Cut (outcome.Code (call_code session op r past)))) ≡ true →
        code_in (cond a outcome.Closed (cond b outcome.Cut (outcome.Code (call_code session op r past)))) ≡ code → call_code session op r past ≡ code
    of true b h f = cc
    of false true h f = cc
    of false false h f = f

-- a start that was answered with code 0 has a number that wasn't in use
pub started_new : (session op : ℕ) (r : Request) (past : List Entry) (code : ℤ) → call_outcome session op r past ≡ outcome.Code code → int_eq code no_error ≡ true → is_start r ≡ true →
    find (has_op op) (operations_of session past) ≡ None
unfolding call_code operation_request
started_new session op r past code e ok start = unused (find (has_op op) (operations_of session past)) refl
    (in_use (is_start r && is_some (operation_request session op past)) refl (ap (λ c. int_eq c no_error) (coded_with session op r past code e) ∙ ok))
  where
    in_use : (b : Bool) → (is_start r && is_some (operation_request session op past)) ≡ b → int_eq (call_code session op r past) no_error ≡ true →
        (is_start r && is_some (operation_request session op past)) ≡ false
    in_use true f h = let no : true ≡ false = sym h ∙ refused f in cc
      where
        refused : (is_start r && is_some (operation_request session op past)) ≡ true → int_eq (call_code session op r past) no_error ≡ false
        refused g = rw (call_code, g) refl
    in_use false f h = f

    unused : (o : Option Operation) → find (has_op op) (operations_of session past) ≡ o → (is_start r && is_some (operation_request session op past)) ≡ false → o ≡ None
    unused None f h = refl
    unused (Some operation) f h = let some : (is_start r && is_some (operation_request session op past)) ≡ true = used operation f in let no : true ≡ false = sym some ∙ h in cc
      where
        used : (o : Operation) → find (has_op op) (operations_of session past) ≡ Some o → (is_start r && is_some (operation_request session op past)) ≡ true
        used o g = ap (λ b. b && is_some (operation_request session op past)) start ∙ ap (λ x. is_some (option_map (λ operation. operation.request) x)) g
