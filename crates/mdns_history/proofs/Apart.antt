-- The operations of a session have different numbers.
use Rattle.std.proofs.Common.{◌≡◌, ℕ, ℤ, ◌==◌, Bool, true, false, cond, not, ◌||◌, List, [], ◌∷◌, map, Some, None, refl, ap, ◌∙◌, arith}
use Rattle.std.proofs.lemmas.Bool.{or_from, or_parts}
use Rattle.std.specs.Prelude.{filter}
use Rattle.std.specs.List.{list_any, find}
use Rattle.std.specs.Ordering.{int_eq, is_lt}
use Rattle.lists.specs.Lists.{insert_by}
use Rattle.lists.proofs.InOrder.{any-insert, none-filter}
use Rattle.sd_call.specs.declared.request.Request.{Request}
use Rattle.sd_call.specs.declared.request.Request.TheVariants as request
use Rattle.sd_call.specs.Requests.{no_error, is_start}
use Rattle.sd_call.proofs.ReplayRuns.{is_at, is_at_symm, AreApart}
use Rattle.mdns_history.specs.declared.event.Event.{Event}
use Rattle.mdns_history.specs.declared.event.Event.TheVariants as event
use Rattle.mdns_history.specs.declared.entry.Outcome.{Outcome}
use Rattle.mdns_history.specs.declared.entry.Outcome.TheVariants as outcome
use Rattle.mdns_history.specs.Sessions.{Operation, has_op, by_op, updated, accepted_call, after_request, after_call}
use Rattle.mdns_history.proofs.ReplySteps.{number, at_eq}

-- a number that isn't in use is that of none
none_at : (op : ℕ) (os : List Operation) → find (has_op op) os ≡ None → list_any (λ p. is_at p.op op) os ≡ false
none_at op [] e = refl
none_at op (p ∷ os) e = of (p.op == op) refl e (none_at op os)
  where
    of : (b : Bool) → (p.op == op) ≡ b → cond b (Some p) (find (has_op op) os) ≡ None → (find (has_op op) os ≡ None → list_any (λ r. is_at r.op op) os ≡ false) →
        (is_at p.op op || list_any (λ r. is_at r.op op) os) ≡ false
    of true f h rest = cc
    of false f h rest = or_from (is_at p.op op) (list_any (λ r. is_at r.op op) os) (is_at_symm p.op op ∙ at_eq op p.op ∙ f) (rest h)

AreApart-insert : (o : Operation) (os : List Operation) → list_any (λ p. is_at p.op o.op) os ≡ false → AreApart number os → AreApart number (insert_by by_op o os)
AreApart-insert o [] none apart = (refl, tt)
AreApart-insert o (p ∷ os) none apart = placed (is_lt (by_op p o)) (AreApart-insert o os (or_parts (is_at p.op o.op) (list_any (λ r. is_at r.op o.op) os) none).1 apart.1)
  where
    other : is_at o.op p.op ≡ false
    other = is_at_symm o.op p.op ∙ (or_parts (is_at p.op o.op) (list_any (λ r. is_at r.op o.op) os) none).0

    placed : (c : Bool) → AreApart number (insert_by by_op o os) → AreApart number (cond c (p ∷ insert_by by_op o os) (o ∷ p ∷ os))
    placed true rest = (any-insert by_op (λ r. is_at r.op p.op) o os ∙ or_from (is_at o.op p.op) (list_any (λ r. is_at r.op p.op) os) other apart.0, rest)
    placed false rest = (none, apart)

AreApart-filter : (q : Operation → Bool) (os : List Operation) → AreApart number os → AreApart number (filter q os)
AreApart-filter q [] apart = tt
AreApart-filter q (o ∷ os) apart = kept (q o) (none-filter (λ p. is_at p.op o.op) q os apart.0) (AreApart-filter q os apart.1)
  where
    kept : (b : Bool) → list_any (λ p. is_at p.op o.op) (filter q os) ≡ false → AreApart number (filter q os) → AreApart number (cond b (o ∷ filter q os) (filter q os))
    kept true none rest = (none, rest)
    kept false none rest = rest

any-updated : (n op : ℕ) (txt : List ℕ) (os : List Operation) → list_any (λ p. is_at p.op n) (map (updated op txt) os) ≡ list_any (λ p. is_at p.op n) os
any-updated n op txt [] = refl
any-updated n op txt (o ∷ os) = ap (λ c. is_at o.op n || c) (any-updated n op txt os)

AreApart-updated : (op : ℕ) (txt : List ℕ) (os : List Operation) → AreApart number os → AreApart number (map (updated op txt) os)
AreApart-updated op txt [] apart = tt
AreApart-updated op txt (o ∷ os) apart = (any-updated o.op op txt os ∙ apart.0, AreApart-updated op txt os apart.1)

apart_request : (session op : ℕ) (r : Request) (before : List Operation) → AreApart number before → (is_start r ≡ true → find (has_op op) before ≡ None) → AreApart number (after_request session op r before)
apart_request session op (request.Query kind name) before apart new = AreApart-insert _ before (none_at op before (new refl)) apart
apart_request session op (request.Browse regtype) before apart new = AreApart-insert _ before (none_at op before (new refl)) apart
apart_request session op (request.Resolve label regtype) before apart new = AreApart-insert _ before (none_at op before (new refl)) apart
apart_request session op (request.Address families name) before apart new = AreApart-insert _ before (none_at op before (new refl)) apart
apart_request session op (request.Register label regtype port norename txt) before apart new = AreApart-insert _ before (none_at op before (new refl)) apart
apart_request session op (request.Update txt) before apart new = AreApart-updated op txt before apart
apart_request session op request.Stop before apart new = AreApart-filter (λ o. not (has_op op o)) before apart

-- operations with different numbers have them after any call
pub apart_call : (session : ℕ) (e : Event) (o : Outcome) (before : List Operation) → AreApart number before →
    ((op : ℕ) (r : Request) (code : ℤ) → e ≡ event.Call session op r → o ≡ outcome.Code code → int_eq code no_error ≡ true → is_start r ≡ true → find (has_op op) before ≡ None) →
    AreApart number (after_call session (accepted_call e o) before)
apart_call session (event.Call s op r) (outcome.Code code) before apart new = of (s == session) refl (int_eq code no_error) refl
  where
    of : (b : Bool) → (s == session) ≡ b → (z : Bool) → int_eq code no_error ≡ z → AreApart number (after_call session (accepted_call (event.Call s op r) (outcome.Code code)) before)
    of true e true z = let here : s ≡ session = grind arith in
        rw (z, e) (apart_request session op r before apart (new op r code (ap (λ n. event.Call n op r) here) refl z))
    of true e false z = rw z apart
    of false e true z = rw (z, e) apart
    of false e false z = rw z apart
apart_call session (event.Call s op r) outcome.Done before apart new = apart
apart_call session (event.Call s op r) (outcome.Opened n) before apart new = apart
apart_call session (event.Call s op r) outcome.Full before apart new = apart
apart_call session (event.Call s op r) outcome.Ended before apart new = apart
apart_call session (event.Call s op r) outcome.Closed before apart new = apart
apart_call session (event.Call s op r) outcome.Cut before apart new = apart
apart_call session (event.Call s op r) (outcome.Items items) before apart new = apart
apart_call session (event.Call s op r) outcome.Empty before apart new = apart
apart_call session (event.Boot config) o before apart new = apart
apart_call session event.Attach o before apart new = apart
apart_call session (event.Detach s) o before apart new = apart
apart_call session (event.Hear from bytes) o before apart new = apart
apart_call session event.Tick o before apart new = apart
apart_call session (event.Take s max) o before apart new = apart

-- a call that no session made leaves the operations
pub unmade_call : (session : ℕ) (e : Event) (o : Outcome) (before : List Operation) →
    ((op : ℕ) (r : Request) (code : ℤ) → e ≡ event.Call session op r → o ≡ outcome.Code code → ⊥) → after_call session (accepted_call e o) before ≡ before
unmade_call session (event.Call s op r) (outcome.Code code) before never = of (s == session) refl (int_eq code no_error) refl
  where
    of : (b : Bool) → (s == session) ≡ b → (z : Bool) → int_eq code no_error ≡ z → after_call session (accepted_call (event.Call s op r) (outcome.Code code)) before ≡ before
    of true e z f = let here : s ≡ session = grind arith in absurd (never op r code (ap (λ n. event.Call n op r) here) refl)
    of false e true z = rw (z, e) refl
    of false e false z = rw z refl
unmade_call session (event.Call s op r) outcome.Done before never = refl
unmade_call session (event.Call s op r) (outcome.Opened n) before never = refl
unmade_call session (event.Call s op r) outcome.Full before never = refl
unmade_call session (event.Call s op r) outcome.Ended before never = refl
unmade_call session (event.Call s op r) outcome.Closed before never = refl
unmade_call session (event.Call s op r) outcome.Cut before never = refl
unmade_call session (event.Call s op r) (outcome.Items items) before never = refl
unmade_call session (event.Call s op r) outcome.Empty before never = refl
unmade_call session (event.Boot config) o before never = refl
unmade_call session event.Attach o before never = refl
unmade_call session (event.Detach s) o before never = refl
unmade_call session (event.Hear from bytes) o before never = refl
unmade_call session event.Tick o before never = refl
unmade_call session (event.Take s max) o before never = refl
