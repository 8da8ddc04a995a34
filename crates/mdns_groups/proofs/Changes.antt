-- What an entry does to the registration of an operation: it leaves it, ends it, or begins it.
use Rattle.std.proofs.Common.{◌≡◌, ℕ, ◌==◌, ◌⊎◌, inl, inr, Bool, true, false, cond, not, ◌&&◌, ◌||◌, List, [], ◌∷◌, map, Option, Some, None, refl, ap, subst, ◌∙◌, sym, arith}
use Rattle.std.specs.Prelude.{filter}
use Rattle.std.specs.List.{find}
use Rattle.std.specs.Option.{option_map, option_map_or, option_and_then}
use Rattle.std.specs.Ordering.{is_lt}
use Rattle.lists.specs.Lists.{insert_by}
use Rattle.sd_call.specs.declared.request.Request.{Request}
use Rattle.sd_call.specs.declared.request.Request.TheVariants as request
use Rattle.sd_call.specs.Requests.{is_start, is_register, with_txt}
use Rattle.mdns_history.specs.declared.operation.Operation.{Operation}
use Rattle.mdns_history.specs.Sessions.{Accepted, has_op, by_op, is_number, updated, after_request, after_call, is_stop, stops}
use Rattle.mdns_history.specs.Groups.{registration_from}
use Rattle.mdns_asserts.proofs.Registered.{registration_of}
use Rattle.mdns_groups.specs.Registered.{is_registered_by}

-- whether an operation among others registers
abbrev pub registers_in : ℕ → List Operation → Bool
registers_in op os = option_map_or is_register (option_map (λ operation. operation.request) (find (has_op op) os)) false

register_stays : (txt : List ℕ) (r : Request) → is_register (with_txt txt r) ≡ is_register r
register_stays txt (request.Query kind name) = refl
register_stays txt (request.Browse regtype) = refl
register_stays txt (request.Resolve label regtype) = refl
register_stays txt (request.Address families name) = refl
register_stays txt (request.Register label regtype port norename before) = refl
register_stays txt (request.Update other) = refl
register_stays txt request.Stop = refl

-- an update leaves what registers
registers_updated : (n op : ℕ) (txt : List ℕ) (os : List Operation) → registers_in n (map (updated op txt) os) ≡ registers_in n os
registers_updated n op txt [] = refl
registers_updated n op txt (o ∷ os) = of (o.op == n) (registers_updated n op txt os)
  where
    one : (b : Bool) → is_register (cond b (with_txt txt o.request) o.request) ≡ is_register o.request
    one true = register_stays txt o.request
    one false = refl

    of : (b : Bool) → registers_in n (map (updated op txt) os) ≡ registers_in n os →
        option_map_or is_register (option_map (λ (operation : Operation). operation.request) (cond b (Some (updated op txt o)) (find (has_op n) (map (updated op txt) os)))) false
        ≡ option_map_or is_register (option_map (λ (operation : Operation). operation.request) (cond b (Some o) (find (has_op n) os))) false
    of true rest = one (has_op op o)
    of false rest = rest

-- a stop takes one out
registers_stopped : (n op : ℕ) (os : List Operation) → registers_in n (filter (λ o. not (has_op op o)) os) ≡ cond (op == n) false (registers_in n os)
registers_stopped n op [] = of (op == n)
  where
    of : (b : Bool) → false ≡ cond b false false
    of true = refl
    of false = refl
registers_stopped n op (o ∷ os) = of (o.op == op) refl (o.op == n) refl (op == n) refl (registers_stopped n op os)
  where
    of : (a : Bool) → (o.op == op) ≡ a → (b : Bool) → (o.op == n) ≡ b → (c : Bool) → (op == n) ≡ c →
        registers_in n (filter (λ o. not (has_op op o)) os) ≡ cond c false (registers_in n os) →
        registers_in n (cond (not a) (o ∷ filter (λ o. not (has_op op o)) os) (filter (λ o. not (has_op op o)) os))
        ≡ cond c false (option_map_or is_register (option_map (λ (operation : Operation). operation.request) (cond b (Some o) (find (has_op n) os))) false)
    of true e true f true g rest = rest
    of true e true f false g rest = let no : true ≡ false = grind (arith, e, f, g) in cc
    of true e false f true g rest = rest
    of true e false f false g rest = rest
    of false e true f true g rest = let no : true ≡ false = grind (arith, e, f, g) in cc
    of false e true f false g rest = ap (λ x. option_map_or is_register (option_map (λ (operation : Operation). operation.request) (cond x (Some o) (find (has_op n) (filter (λ o. not (has_op op o)) os)))) false) f
    of false e false f c g rest = ap (λ x. option_map_or is_register (option_map (λ (operation : Operation). operation.request) (cond x (Some o) (find (has_op n) (filter (λ o. not (has_op op o)) os)))) false) f ∙ rest

-- a start adds one
registers_started : (n : ℕ) (new : Operation) (os : List Operation) → find (has_op new.op) os ≡ None → registers_in n (insert_by by_op new os) ≡ cond (new.op == n) (is_register new.request) (registers_in n os)
registers_started n new [] free = of (new.op == n)
  where
    of : (b : Bool) → option_map_or is_register (option_map (λ (operation : Operation). operation.request) (cond b (Some new) None)) false ≡ cond b (is_register new.request) false
    of true = refl
    of false = refl
registers_started n new (o ∷ os) free = of (is_lt (by_op o new)) (o.op == new.op) refl free (registers_started n new os)
  where
    second : (a b c : Bool) → (o.op == n) ≡ b → (new.op == n) ≡ c → (o.op == new.op) ≡ false → registers_in n (insert_by by_op new os) ≡ cond c (is_register new.request) (registers_in n os) →
        option_map_or is_register (option_map (λ (operation : Operation). operation.request) (cond b (Some o) (find (has_op n) (insert_by by_op new os)))) false
        ≡ cond c (is_register new.request) (option_map_or is_register (option_map (λ (operation : Operation). operation.request) (cond b (Some o) (find (has_op n) os))) false)
    second a true true f g h rest = let no : true ≡ false = grind (arith, f, g, h) in cc
    second a true false f g h rest = refl
    second a false c f g h rest = rest

    first : (c : Bool) → option_map_or is_register (option_map (λ (operation : Operation). operation.request) (cond c (Some new) (find (has_op n) (o ∷ os)))) false ≡ cond c (is_register new.request) (registers_in n (o ∷ os))
    first true = refl
    first false = refl

    of : (a b : Bool) → (o.op == new.op) ≡ b → cond b (Some o) (find (has_op new.op) os) ≡ None →
        (find (has_op new.op) os ≡ None → registers_in n (insert_by by_op new os) ≡ cond (new.op == n) (is_register new.request) (registers_in n os)) →
        registers_in n (cond a (o ∷ insert_by by_op new os) (new ∷ o ∷ os)) ≡ cond (new.op == n) (is_register new.request) (registers_in n (o ∷ os))
    of a true e f rest = cc
    of true false e f rest = second true (o.op == n) (new.op == n) refl refl e (rest f)
    of false false e f rest = first (new.op == n)

-- An entry leaves a registration, or that there is none: this says so of whether there is one behind it and before it, whether the entry registers one,
-- and whether it ends the operation.
abbrev pub IsLeft : Bool → Bool → Bool → Bool → Type 0
IsLeft after before now ends = (after ≡ before) × (now ≡ false) × (ends ≡ false)

-- Behind the entry there is no registration, since it ended the operation or there was none.
abbrev pub IsGone : Bool → Bool → Bool → Bool → Type 0
IsGone after before now ends = (after ≡ false) × (now ≡ false) × ((ends ≡ true) ⊎ (before ≡ false))

-- The entry begins the registration.
abbrev pub IsBegun : Bool → Bool → Bool → Bool → Type 0
IsBegun after before now ends = (after ≡ true) × (now ≡ true) × (before ≡ false)

-- one of these
abbrev pub IsChange : Bool → Bool → Bool → Bool → Type 0
IsChange after before now ends = IsLeft after before now ends ⊎ (IsGone after before now ends ⊎ IsBegun after before now ends)

none_found : (op n : ℕ) (os : List Operation) → (op == n) ≡ true → find (has_op op) os ≡ None → registers_in n os ≡ false
none_found op n os e free =
    let same : op ≡ n = grind (arith, e) in
    ap (λ k. registers_in k os) (sym same) ∙ ap (λ (o : Option Operation). option_map_or is_register (option_map (λ (operation : Operation). operation.request) o) false) free

-- a start with a number of its own
started : (op called session : ℕ) (q : Request) (os : List Operation) → find (has_op called) os ≡ None →
    IsChange (registers_in op (insert_by by_op (record { session = session; op = called; request = q }) os)) (registers_in op os) (is_register q && (called == op)) false
started op called session q os free = of (called == op) refl (is_register q) refl
  where
    of : (b : Bool) → (called == op) ≡ b → (c : Bool) → is_register q ≡ c →
        IsChange (registers_in op (insert_by by_op (record { session = session; op = called; request = q }) os)) (registers_in op os) (c && b) false
    of true e true f =
        inr (inr (registers_started op (record { session = session; op = called; request = q }) os free ∙ ap (λ b. cond b (is_register q) (registers_in op os)) e ∙ f, refl, none_found called op os e free))
    of true e false f =
        inr (inl (registers_started op (record { session = session; op = called; request = q }) os free ∙ ap (λ b. cond b (is_register q) (registers_in op os)) e ∙ f, refl, inr (none_found called op os e free)))
    of false e true f = inl (registers_started op (record { session = session; op = called; request = q }) os free ∙ ap (λ b. cond b (is_register q) (registers_in op os)) e, refl, refl)
    of false e false f = inl (registers_started op (record { session = session; op = called; request = q }) os free ∙ ap (λ b. cond b (is_register q) (registers_in op os)) e, refl, refl)

-- no stop
unstopped : (b : Bool) → (b && false) ≡ false
unstopped true = refl
unstopped false = refl

started_plain : (op called session : ℕ) (q : Request) (os : List Operation) → is_register q ≡ false → find (has_op called) os ≡ None →
    IsChange (registers_in op (insert_by by_op (record { session = session; op = called; request = q }) os)) (registers_in op os) false ((called == op) && false)
started_plain op called session q os plain free =
    subst (λ ends. IsChange (registers_in op (insert_by by_op (record { session = session; op = called; request = q }) os)) (registers_in op os) false ends) (sym (unstopped (called == op)))
    (subst (λ now. IsChange (registers_in op (insert_by by_op (record { session = session; op = called; request = q }) os)) (registers_in op os) now false) (ap (λ b. b && (called == op)) plain)
    (started op called session q os free))

-- a call of the session itself
called_on : (session op caller called : ℕ) (q : Request) (os : List Operation) → (caller == session) ≡ true → (is_start q ≡ true → find (has_op called) os ≡ None) →
    IsChange (registers_in op (after_request session called q os)) (registers_in op os) (is_registered_by session op (registration_from caller called q)) ((called == op) && is_stop q)
called_on session op caller called (request.Update txt) os same new = inl (registers_updated op called txt os, refl, unstopped (called == op))
called_on session op caller called request.Stop os same new = of (called == op) refl
  where
    of : (b : Bool) → (called == op) ≡ b → IsChange (registers_in op (after_request session called request.Stop os)) (registers_in op os) false (b && true)
    of true e = inr (inl (registers_stopped op called os ∙ ap (λ b. cond b false (registers_in op os)) e, refl, inl refl))
    of false e = inl (registers_stopped op called os ∙ ap (λ b. cond b false (registers_in op os)) e, refl, refl)
called_on session op caller called (request.Register label regtype port norename txt) os same new =
    let q : Request = request.Register label regtype port norename txt in
    subst (λ ends. IsChange (registers_in op (after_request session called q os)) (registers_in op os) ((caller == session) && (called == op)) ends) (sym (unstopped (called == op)))
    (subst (λ b. IsChange (registers_in op (after_request session called q os)) (registers_in op os) (b && (called == op)) false) (sym same) (started op called session q os (new refl)))
called_on session op caller called (request.Query kind name) os same new = started_plain op called session (request.Query kind name) os refl (new refl)
called_on session op caller called (request.Browse regtype) os same new = started_plain op called session (request.Browse regtype) os refl (new refl)
called_on session op caller called (request.Resolve label regtype) os same new = started_plain op called session (request.Resolve label regtype) os refl (new refl)
called_on session op caller called (request.Address families name) os same new = started_plain op called session (request.Address families name) os refl (new refl)

-- a call of another session registers nothing here
other_session : (session op caller called : ℕ) (q : Request) → (caller == session) ≡ false → is_registered_by session op (registration_from caller called q) ≡ false
other_session session op caller called (request.Query kind name) e = refl
other_session session op caller called (request.Browse regtype) e = refl
other_session session op caller called (request.Resolve label regtype) e = refl
other_session session op caller called (request.Address families name) e = refl
other_session session op caller called (request.Register label regtype port norename txt) e = ap (λ b. b && (called == op)) e
other_session session op caller called (request.Update txt) e = refl
other_session session op caller called request.Stop e = refl

-- An entry may detach a session, or accept a call, but not both.
pub changed : (det : Option ℕ) (acc : Option Accepted) (session op : ℕ) (os : List Operation) → ((call : Accepted) → acc ≡ Some call → det ≡ None) →
    ((call : Accepted) → acc ≡ Some call → (call.session == session) ≡ true → is_start call.request ≡ true → find (has_op call.op) os ≡ None) →
    IsChange (registers_in op (cond (is_number session det) [] (after_call session acc os))) (registers_in op os) (is_registered_by session op (option_and_then registration_of acc)) (is_number session det || stops session op acc)
changed None None session op os alone new = inl (refl, refl, refl)
changed (Some s) None session op os alone new = of (s == session)
  where
    of : (b : Bool) → IsChange (registers_in op (cond b [] os)) (registers_in op os) false (b || false)
    of true = inr (inl (refl, refl, inl refl))
    of false = inl (refl, refl, refl)
changed (Some s) (Some call) session op os alone new = let no : Some s ≡ None = alone call refl in cc
changed None (Some call) session op os alone new = of (call.session == session) refl
  where
    of : (b : Bool) → (call.session == session) ≡ b →
        IsChange (registers_in op (cond b (after_request session call.op call.request os) os)) (registers_in op os) (is_registered_by session op (registration_of call)) (b && (call.op == op) && is_stop call.request)
    of true e = called_on session op call.session call.op call.request os e (new call refl e)
    of false e = inl (refl, other_session session op call.session call.op call.request e, refl)
