-- The outcomes of events, by what is kept of the sessions.
use Rattle.std.proofs.Common.{◌≡◌, ℕ, suc, ◌+◌, ◌==◌, Bool, true, false, cond, not, ◌||◌, List, [], ◌∷◌, map, length, Option, Some, None, refl, ap, ◌∙◌, sym, arith}
use Rattle.std.specs.Prelude.{nat_le}
use Rattle.std.specs.List.{find}
use Rattle.std.specs.Option.{is_some}
use Rattle.sd_call.specs.declared.request.Request.{Request}
use Rattle.mdns_history.specs.declared.event.Event.{Event}
use Rattle.mdns_history.specs.declared.event.Event.TheVariants as event
use Rattle.mdns_history.specs.declared.entry.Outcome.TheVariants as outcome
use Rattle.mdns_history.specs.declared.entry.Entry.{Entry}
use Rattle.mdns_history.specs.InForce.{Duties}
use Rattle.mdns_history.specs.Sessions.{opened_count, is_attached, attached_sessions, is_cut, operations_of}
use Rattle.mdns_history.specs.Outcomes.{most_sessions, most_over_life, call_code, early_outcome}
use Rattle.mdns_history.specs.Fitting.{IsLegal}
use Rattle.sd_sessions.specs.Sessions.{Session, session_in, sessions_in}
use Rattle.sd_sessions.specs.Codes.{Knowing, has_number, call_outcome_of, kept_outcome}
use Rattle.sd_operations.specs.Codes.{kept_code}
use Rattle.sd_sessions.proofs.NumberLists.{has}
use Rattle.sd_sessions.proofs.Attached.{holds_legal, is_attached-has}

-- the session of a number among sessions of numbers
found-numbered : (history : List Entry) (n : ℕ) (ns : List ℕ) → find (has_number n) (map (session_in history) ns) ≡ cond (has n ns) (Some (session_in history n)) None
found-numbered history n [] = refl
found-numbered history n (m ∷ ns) = of (m == n) refl (found-numbered history n ns)
  where
    of : (b : Bool) → (m == n) ≡ b → find (has_number n) (map (session_in history) ns) ≡ cond (has n ns) (Some (session_in history n)) None →
        cond b (Some (session_in history m)) (find (has_number n) (map (session_in history) ns)) ≡ cond (b || has n ns) (Some (session_in history n)) None
    of true e rest = let here : m ≡ n = grind arith in ap (λ k. Some (session_in history k)) here
    of false e rest = rest

-- The attached session of a number is found among those that are kept.
pub found-session : (duties : Duties) (past : List Entry) → IsLegal duties past → (n : ℕ) → find (has_number n) (sessions_in past) ≡ cond (is_attached n past) (Some (session_in past n)) None
found-session duties past legal n =
    found-numbered past n (attached_sessions past) ∙ ap (λ b. cond b (Some (session_in past n)) None) (sym (is_attached-has past (holds_legal duties past legal) n))

length-sessions : (history : List Entry) (ns : List ℕ) → length (map (session_in history) ns) ≡ length ns
length-sessions history [] = refl
length-sessions history (n ∷ ns) = ap suc (length-sessions history ns)

-- The outcomes that the history decides are told by the sessions that are kept, where the codes of calls are told by their sessions' operations and what
-- is known of registrations.
pub early_outcome-is : (duties : Duties) (past : List Entry) → IsLegal duties past → (knowing : Knowing)
    → ((session op : ℕ) (r : Request) → call_code session op r past ≡ kept_code (knowing session op r) (operations_of session past) op r) → (ev : Event)
    → early_outcome ev past ≡ kept_outcome knowing (opened_count past) (sessions_in past) ev
unfolding early_outcome kept_outcome
early_outcome-is duties past legal knowing coded (event.Boot config) = refl
early_outcome-is duties past legal knowing coded event.Attach =
    ap (λ k. cond (nat_le most_sessions k || nat_le most_over_life (opened_count past)) outcome.Full (outcome.Opened (opened_count past + 1))) (sym (length-sessions past (attached_sessions past)))
early_outcome-is duties past legal knowing coded (event.Detach session) =
    of (is_attached session past) ∙ ap (λ (o : Option Session). cond (is_some o) outcome.Ended outcome.Closed) (sym (found-session duties past legal session))
  where
    of : (b : Bool) → cond b outcome.Ended outcome.Closed ≡ cond (is_some (cond b (Some (session_in past session)) None)) outcome.Ended outcome.Closed
    of true = refl
    of false = refl
early_outcome-is duties past legal knowing coded (event.Call session op r) =
    of (is_attached session past) ∙ ap (λ (o : Option Session). call_outcome_of (knowing session op r) o op r) (sym (found-session duties past legal session))
  where
    of : (b : Bool) → cond (not b) outcome.Closed (cond (is_cut session past) outcome.Cut (outcome.Code (call_code session op r past))) ≡ call_outcome_of (knowing session op r) (cond b (Some (session_in past session)) None) op r
    of true = ap (λ code. cond (is_cut session past) outcome.Cut (outcome.Code code)) (coded session op r)
    of false = refl
early_outcome-is duties past legal knowing coded (event.Hear from bytes) = refl
early_outcome-is duties past legal knowing coded event.Tick = refl
early_outcome-is duties past legal knowing coded (event.Take session max) = refl
