-- Accepted calls leave operations that ask for something well formed.
use Rattle.std.proofs.Common.{ℕ, Bool, true, false, cond, not, ◌&&◌, List, [], ◌∷◌, map, Option, Some, None}
use Rattle.std.specs.List.{find, AllByRecursion}
use Rattle.mdns_happened.specs.Told.{Told}
use Rattle.sd_sessions.specs.Answered.{Answering}
use Rattle.sd_sessions.specs.Sessions.{Session}
use Rattle.std.specs.Prelude.{filter, IsTrue, ◌==◌}
use Rattle.std.specs.Ordering.{is_lt}
use Rattle.lists.specs.Lists.{insert_by}
use Rattle.sd_call.specs.declared.request.Request.{Request}
use Rattle.sd_call.specs.declared.request.Request.TheVariants as request
use Rattle.sd_name.specs.ServiceTypes.{service_type, is_service_label}
use Rattle.sd_call.specs.Requests.{well_formed, has_subtypes_up_to, with_txt}
use Rattle.mdns_history.specs.declared.operation.Operation.{Operation}
use Rattle.mdns_history.specs.Sessions.{Accepted, by_op, has_op, updated, after_request}
use Rattle.sd_sessions.specs.Settling.{own_call, left_to, change_told, shifted_told, sessions_told}
use Rattle.sd_operations.specs.Operations.{after_own}
use Rattle.sd_sessions.proofs.Left.{HoldsCalled, have-left}
use Rattle.sd_sessions.specs.Kept.{AreWellFormed, HaveWellFormed, IsWellFormedCall, IsWellFormedOwn, operations_in}

formed-insert : (o : Operation) (os : List Operation) → IsTrue (well_formed o.request) → AreWellFormed os → AreWellFormed (insert_by by_op o os)
formed-insert o [] one all = (one, tt)
formed-insert o (p ∷ os) one all = at (is_lt (by_op p o)) (formed-insert o os one all.1)
  where
    at : (b : Bool) → AreWellFormed (insert_by by_op o os) → AreWellFormed (cond b (p ∷ insert_by by_op o os) (o ∷ p ∷ os))
    at true rest = (all.0, rest)
    at false rest = (one, all)

pub formed-filter : (test : Operation → Bool) (os : List Operation) → AreWellFormed os → AreWellFormed (filter test os)
formed-filter test [] all = tt
formed-filter test (o ∷ os) all = at (test o) (formed-filter test os all.1)
  where
    at : (b : Bool) → AreWellFormed (filter test os) → AreWellFormed (cond b (o ∷ filter test os) (filter test os))
    at true rest = (all.0, rest)
    at false rest = rest

last_of_four : (a b c d e : Bool) → IsTrue (a && b && c && d) → IsTrue e → IsTrue (a && b && c && e)
last_of_four true true true d e h k = k
last_of_four true true false d e h k = h
last_of_four true false c d e h k = h
last_of_four false b c d e h k = h

formed-txt : (txt : List ℕ) (r : Request) → IsTrue (well_formed (request.Update txt)) → IsTrue (well_formed r) → IsTrue (well_formed (with_txt txt r))
formed-txt txt (request.Query kind name) t h = h
formed-txt txt (request.Browse regtype) t h = h
formed-txt txt (request.Resolve label regtype) t h = h
formed-txt txt (request.Address families name) t h = h
formed-txt txt (request.Register label regtype port norename before) t h = last_of_four (is_service_label label) (has_subtypes_up_to 16 (service_type regtype)) (not (port == 0)) (well_formed (request.Update before)) (well_formed (request.Update txt)) h t
formed-txt txt (request.Update other) t h = h
formed-txt txt request.Stop t h = h

formed-updated : (op : ℕ) (txt : List ℕ) (os : List Operation) → IsTrue (well_formed (request.Update txt)) → AreWellFormed os → AreWellFormed (map (updated op txt) os)
formed-updated op txt [] t all = tt
formed-updated op txt (o ∷ os) t all = (at (has_op op o), formed-updated op txt os t all.1)
  where
    at : (b : Bool) → IsTrue (well_formed (cond b (with_txt txt o.request) o.request))
    at true = formed-txt txt o.request t all.0
    at false = all.0

pub formed-request : (session op : ℕ) (r : Request) (os : List Operation) → IsTrue (well_formed r) → AreWellFormed os → AreWellFormed (after_request session op r os)
formed-request session op (request.Query kind name) os h all = formed-insert _ os h all
formed-request session op (request.Browse regtype) os h all = formed-insert _ os h all
formed-request session op (request.Resolve label regtype) os h all = formed-insert _ os h all
formed-request session op (request.Address families name) os h all = formed-insert _ os h all
formed-request session op (request.Register label regtype port norename txt) os h all = formed-insert _ os h all
formed-request session op (request.Update txt) os h all = formed-updated op txt os h all
formed-request session op request.Stop os h all = formed-filter (λ o. not (has_op op o)) os all

-- the operations of a session after a call, or else before it
pub formed-called : (call : Option Accepted) (number : ℕ) (os : List Operation) → IsWellFormedCall call → AreWellFormed os → AreWellFormed (left_to call number os)
formed-called None number os h all = all
formed-called (Some call) number os h all = at (call.session == number)
  where
    at : (b : Bool) → AreWellFormed (after_own number (cond b (Some (record { op = call.op; request = call.request })) None) os)
    at true = formed-request number call.op call.request os h all
    at false = all

-- a session's own call, of one that was accepted
pub formed-own : (call : Option Accepted) (number : ℕ) → IsWellFormedCall call → IsWellFormedOwn (own_call call number)
formed-own None number h = tt
formed-own (Some call) number h = at (call.session == number)
  where
    at : (b : Bool) → IsWellFormedOwn (cond b (Some (record { op = call.op; request = call.request })) None)
    at true = h
    at false = tt

-- what a session asks for is well formed
pub formed-found : (test : Session → Bool) (sessions : List Session) → HaveWellFormed sessions → AreWellFormed (operations_in (find test sessions))
formed-found test [] formed = tt
formed-found test (session ∷ sessions) formed = of (test session) (formed-found test sessions formed.1)
  where
    of : (b : Bool) → AreWellFormed (operations_in (find test sessions)) → AreWellFormed (operations_in (cond b (Some session) (find test sessions)))
    of true others = formed.0
    of false others = others

-- the operations of the sessions that are left ask for something well formed
pub formed-left : (told : Told) (earlier later : Answering) (sessions : List Session) → IsWellFormedCall told.call → HaveWellFormed sessions
    → HaveWellFormed (sessions_told told.taking (shifted_told told sessions (map (change_told told earlier later) sessions)))
formed-left told earlier later sessions call all = have-left (λ n. AreWellFormed) told earlier later (λ n. tt) sessions (each sessions all)
  where
    each : (ss : List Session) → HaveWellFormed ss → AllByRecursion (HoldsCalled (λ n. AreWellFormed) told earlier later) ss
    each [] all = tt
    each (session ∷ ss) all = (formed-called told.call session.number session.operations call all.0, each ss all.1)
