-- What an event amounts to begins nothing that is there, and asks for something well formed.
use Rattle.std.proofs.Common.{◌≡◌, ℕ, ℤ, ◌+◌, ◌==◌, Bool, true, false, cond, not, ◌&&◌, ◌||◌, List, [], ◌∷◌, length, Option, Some, None, refl, ap, subst, sym, arith}
use Rattle.std.specs.Prelude.{IsTrue, nat_lt, nat_le}
use Rattle.std.specs.List.{find, list_all, AllByRecursion}
use Rattle.std.specs.Option.{is_some, unwrap_or}
use Rattle.std.specs.Ordering.{int_eq}
use Rattle.sd_call.specs.declared.request.Request.{Request}
use Rattle.sd_call.specs.Requests.{no_error, invalid, bad_reference, bad_param, well_formed, is_start}
use Rattle.mdns_history.specs.declared.event.Event.{Event}
use Rattle.mdns_history.specs.declared.event.Event.TheVariants as event
use Rattle.mdns_history.specs.declared.entry.Outcome.TheVariants as outcome
use Rattle.mdns_history.specs.declared.mark.Mark.{Mark}
use Rattle.mdns_history.specs.declared.operation.Operation.{Operation}
use Rattle.mdns_history.specs.Sessions.{Accepted, accepted_call, opened, succeeded, has_op}
use Rattle.mdns_history.specs.Outcomes.{most_sessions, most_over_life}
use Rattle.mdns_happened.specs.Told.{Told, told_of}
use Rattle.sd_sessions.specs.Sessions.{Session, State}
use Rattle.sd_operations.specs.declared.codes.Registering.{Registering}
use Rattle.sd_sessions.specs.Codes.{Knowing, has_number, call_outcome_of, kept_outcome}
use Rattle.sd_operations.specs.Codes.{kept_code, is_running, refers_to_none}
use Rattle.sd_sessions.specs.Kept.{numbers_of, AreKept, IsNewIn, IsFresh, IsRising, IsWellFormedCall}
use Rattle.sd_sessions.specs.Planned.{IsTold}
use Rattle.sd_sessions.proofs.NumberLists.{all-more}

-- an accepted call starts what isn't there, and is well formed
module _ (known : Registering) (operations : List Operation) (op : ℕ) (r : Request) where
  accepted_new : int_eq (kept_code known operations op r) no_error ≡ true → is_start r ≡ true → find (has_op op) operations ≡ None
  unfolding kept_code
  accepted_new e starts = of (find (has_op op) operations) (is_start r) _ starts e
    where
      of : (found : Option Operation) (s : Bool) (rest : ℤ) → s ≡ true → int_eq (cond (s && is_some found) invalid rest) no_error ≡ true → found ≡ None
      of None s rest h g = refl
      of (Some o) true rest h g = cc
      of (Some o) false rest h g = cc

  accepted_formed : int_eq (kept_code known operations op r) no_error ≡ true → IsTrue (well_formed r)
  unfolding kept_code
  accepted_formed e = of (is_start r && is_running op operations) (refers_to_none known op r operations) (well_formed r) _ e
    where
      of : (a b w : Bool) (rest : ℤ) → int_eq (cond a invalid (cond b bad_reference (cond (not w) bad_param rest))) no_error ≡ true → w ≡ true
      of true b w rest g = cc
      of false true w rest g = cc
      of false false true rest g = refl
      of false false false rest g = cc

module _ (known : Registering) (number op : ℕ) (r : Request) where
  abbrev call : Accepted
  call = record { session = number; op = op; request = r }

  -- a session behind that of a call has another number
  others : (n : ℕ) (ys : List Session) → (n == number) ≡ true → list_all (nat_lt n) (numbers_of ys) ≡ true → AllByRecursion (IsNewIn (Some call)) ys
  others n [] here h = tt
  others n (y ∷ ys) here h = of (nat_lt n y.number) refl h (others n ys here)
    where
      of : (b : Bool) → nat_lt n y.number ≡ b → (b && list_all (nat_lt n) (numbers_of ys)) ≡ true →
          (list_all (nat_lt n) (numbers_of ys) ≡ true → AllByRecursion (IsNewIn (Some call)) ys) → AllByRecursion (IsNewIn (Some call)) (y ∷ ys)
      of true e g rest = ((λ same starts. let no : ⊥ = grind arith in absurd no), rest g)
      of false e g rest = absurd (cc)

  new_in : (sessions : List Session) → IsRising (numbers_of sessions) → succeeded (call_outcome_of known (find (has_number number) sessions) op r) ≡ true →
      AllByRecursion (IsNewIn (Some call)) sessions
  new_in [] rising e = tt
  new_in (x ∷ xs) rising e = of (x.number == number) refl e (new_in xs rising.1)
    where
      uncut : (cut : Bool) → succeeded (cond cut outcome.Cut (outcome.Code (kept_code known x.operations op r))) ≡ true → int_eq (kept_code known x.operations op r) no_error ≡ true
      uncut true h = cc
      uncut false h = h

      of : (b : Bool) → (x.number == number) ≡ b → succeeded (call_outcome_of known (cond b (Some x) (find (has_number number) xs)) op r) ≡ true →
          (succeeded (call_outcome_of known (find (has_number number) xs) op r) ≡ true → AllByRecursion (IsNewIn (Some call)) xs) → AllByRecursion (IsNewIn (Some call)) (x ∷ xs)
      of true here h rest = ((λ same starts. accepted_new known x.operations op r (uncut x.cut h) starts), others x.number xs here rising.0)
      of false here h rest = ((λ same starts. let no : ⊥ = grind arith in absurd no), rest h)

  all_new : (sessions : List Session) → IsRising (numbers_of sessions) → AllByRecursion (IsNewIn (accepted_call (event.Call number op r) (call_outcome_of known (find (has_number number) sessions) op r))) sessions
  all_new sessions rising = of (succeeded (call_outcome_of known (find (has_number number) sessions) op r)) (new_in sessions rising)
    where
      none : (ss : List Session) → AllByRecursion (IsNewIn None) ss
      none [] = tt
      none (s ∷ ss) = (tt, none ss)

      of : (b : Bool) → (b ≡ true → AllByRecursion (IsNewIn (Some call)) sessions) → AllByRecursion (IsNewIn (cond b (Some call) None)) sessions
      of true h = h refl
      of false h = none sessions

  none_opened : (found : Option Session) → opened (call_outcome_of known found op r) ≡ None
  none_opened None = refl
  none_opened (Some s) = of s.cut
    where
      of : (b : Bool) → opened (cond b outcome.Cut (outcome.Code (kept_code known s.operations op r))) ≡ None
      of true = refl
      of false = refl

  call_formed : (found : Option Session) → IsWellFormedCall (accepted_call (event.Call number op r) (call_outcome_of known found op r))
  call_formed None = tt
  call_formed (Some s) = of s.cut
    where
      at : (b : Bool) → int_eq (kept_code known s.operations op r) no_error ≡ b → IsWellFormedCall (cond b (Some call) None)
      at true e = accepted_formed known s.operations op r e
      at false e = tt

      of : (b : Bool) → IsWellFormedCall (accepted_call (event.Call number op r) (cond b outcome.Cut (outcome.Code (kept_code known s.operations op r))))
      of true = tt
      of false = at (int_eq (kept_code known s.operations op r) no_error) refl

none_new : (sessions : List Session) → AllByRecursion (IsNewIn None) sessions
none_new [] = tt
none_new (s ∷ ss) = (tt, none_new ss)

-- a session that is opened stands behind all others
behind : (count : ℕ) (full : Bool) (n : ℕ) (sessions : List Session) → list_all (λ m. nat_le m count) (numbers_of sessions) ≡ true →
    opened (cond full outcome.Full (outcome.Opened (count + 1))) ≡ Some n → list_all (λ m. nat_lt m n) (numbers_of sessions) ≡ true
behind count true n sessions within e = absurd (cc)
behind count false n sessions within e =
    subst (λ k. list_all (λ m. nat_lt m k) (numbers_of sessions) ≡ true) (ap (λ o. unwrap_or o 0) e)
    (all-more (λ m. nat_le m count) (λ m. nat_lt m (count + 1)) (λ m h. grind arith) (numbers_of sessions) within)

fresh_of : (knowing : Knowing) (ev : Event) (count : ℕ) (sessions : List Session) (marks : List Mark) → AreKept count sessions → IsFresh (told_of ev (kept_outcome knowing count sessions ev) marks) sessions
unfolding kept_outcome
fresh_of knowing (event.Boot config) count sessions marks are = record { operation = none_new sessions; session = λ n e. absurd (cc) }
fresh_of knowing event.Attach count sessions marks are =
    record { operation = none_new sessions; session = λ n e. behind count (nat_le most_sessions (length sessions) || nat_le most_over_life count) n sessions are.within e }
fresh_of knowing (event.Detach session) count sessions marks are = record { operation = none_new sessions; session = λ n e. absurd (ended (is_some (find (has_number session) sessions)) n e) }
  where
    ended : (b : Bool) (n : ℕ) → opened (cond b outcome.Ended outcome.Closed) ≡ Some n → ⊥
    ended true n e = cc
    ended false n e = cc
fresh_of knowing (event.Call session op r) count sessions marks are =
    record { operation = all_new (knowing session op r) session op r sessions are.numbers; session = λ n e. let none : opened (call_outcome_of (knowing session op r) (find (has_number session) sessions) op r) ≡ None = none_opened (knowing session op r) session op r (find (has_number session) sessions) in absurd (cc) }
fresh_of knowing (event.Hear from bytes) count sessions marks are = record { operation = none_new sessions; session = λ n e. absurd (cc) }
fresh_of knowing event.Tick count sessions marks are = record { operation = none_new sessions; session = λ n e. absurd (cc) }
fresh_of knowing (event.Take session max) count sessions marks are = record { operation = none_new sessions; session = λ n e. absurd (cc) }

formed_of : (knowing : Knowing) (ev : Event) (count : ℕ) (sessions : List Session) → IsWellFormedCall (accepted_call ev (kept_outcome knowing count sessions ev))
unfolding kept_outcome
formed_of knowing (event.Boot config) count sessions = tt
formed_of knowing event.Attach count sessions = tt
formed_of knowing (event.Detach session) count sessions = tt
formed_of knowing (event.Call session op r) count sessions = call_formed (knowing session op r) session op r (find (has_number session) sessions)
formed_of knowing (event.Hear from bytes) count sessions = tt
formed_of knowing event.Tick count sessions = tt
formed_of knowing (event.Take session max) count sessions = tt

-- What is told of an event on sessions begins nothing that they have.
pub told-fresh : (told : Told) (state : State) → IsTold told state → AreKept state.opened state.sessions → IsFresh told state.sessions
told-fresh told state is are = subst (λ (t : Told). IsFresh t state.sessions) (sym is.3) (fresh_of is.0 is.1 state.opened state.sessions is.2 are)

-- A call that it accepts is well formed.
pub told-formed : (told : Told) (state : State) → IsTold told state → IsWellFormedCall told.call
told-formed told state is = subst (λ (t : Told). IsWellFormedCall t.call) (sym is.3) (formed_of is.0 is.1 state.opened state.sessions)
