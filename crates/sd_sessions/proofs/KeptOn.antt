-- What holds of the sessions that are kept holds of those that an event leaves.
use Rattle.std.proofs.Common.{◌≡◌, ℕ, ◌==◌, Bool, true, false, cond, not, ◌&&◌, List, [], ◌∷◌, ◌++◌, map, drop, Option, Some, None, refl, ap, subst, ◌∙◌, sym, arith}
use Rattle.std.specs.Prelude.{filter, nat_lt, nat_le}
use Rattle.std.specs.List.{list_all, AllByRecursion}
use Rattle.std.specs.Option.{unwrap_or}
use Rattle.std.proofs.lemmas.Bool.{and_from}
use Rattle.std.proofs.lemmas.List.{map-append}
use Rattle.std.proofs.lemmas.List.Folds.{list_all-append}
use Rattle.sd_call.specs.declared.request.Request.{Request}
use Rattle.sd_call.specs.declared.request.Request.TheVariants as request
use Rattle.mdns_history.specs.declared.operation.Operation.{Operation}
use Rattle.mdns_history.specs.Sessions.{Accepted, is_number, after_request, has_op, updated}
use Rattle.mdns_cache.proofs.ListLemmas.{each-filter}
use Rattle.mdns_happened.specs.Told.{Told, Taking}
use Rattle.sd_sessions.specs.Answered.{Answering}
use Rattle.sd_sessions.specs.Sessions.{Session}
use Rattle.sd_sessions.specs.Settling.{left_to, change_told, all_settled, remaining_but, with_opened, shifted_told, taken_from, sessions_told}
use Rattle.sd_operations.specs.Operations.{after_own, AreRising}
use Rattle.sd_sessions.specs.Kept.{numbers_of, AreKept, AreOwn, HaveOwn, HaveRising, IsNewIn, IsFresh, IsRising, IsWellFormedCall}
use Rattle.sd_sessions.proofs.Left.{HoldsCalled, have-left}
use Rattle.sd_sessions.proofs.Formed.{formed-left}
use Rattle.sd_sessions.proofs.Nexts.{filter_map_swap}
use Rattle.sd_sessions.proofs.Seen.{all-insert, all-map}
use Rattle.sd_operations.proofs.Rising.{rising_request}
use Rattle.sd_sessions.proofs.NumberLists.{all-filter, all-more, IsRising-filter, IsRising-last}

-- the operations that a new call leaves
pub rising-called : (call : Option Accepted) (session : Session) → AreRising session.operations → IsNewIn call session →
    AreRising (left_to call session.number session.operations)
rising-called None session rising new = rising
rising-called (Some call) session rising new = of (call.session == session.number) refl
  where
    of : (b : Bool) → (call.session == session.number) ≡ b →
        AreRising (after_own session.number (cond b (Some (record { op = call.op; request = call.request })) None) session.operations)
    of true e = rising_request session.number call.op call.request session.operations rising (new e)
    of false e = rising

all_called : (told : Told) (earlier later : Answering) (ss : List Session) → HaveRising ss → AllByRecursion (IsNewIn told.call) ss → AllByRecursion (HoldsCalled (λ n. AreRising) told earlier later) ss
all_called told earlier later [] rising new = tt
all_called told earlier later (session ∷ ss) rising new = (rising-called told.call session rising.0 new.0, all_called told earlier later ss rising.1 new.1)

-- a session's own operations stay its own
own-request : (number op : ℕ) (r : Request) (os : List Operation) → AreOwn number os → AreOwn number (after_request number op r os)
own-request number op (request.Query kind name) os own = all-insert (λ (o : Operation). o.session ≡ number) _ os refl own
own-request number op (request.Browse regtype) os own = all-insert (λ (o : Operation). o.session ≡ number) _ os refl own
own-request number op (request.Resolve label regtype) os own = all-insert (λ (o : Operation). o.session ≡ number) _ os refl own
own-request number op (request.Address families name) os own = all-insert (λ (o : Operation). o.session ≡ number) _ os refl own
own-request number op (request.Register label regtype port norename txt) os own = all-insert (λ (o : Operation). o.session ≡ number) _ os refl own
own-request number op (request.Update txt) os own = all-map (λ (o : Operation). o.session ≡ number) (updated op txt) (λ o h. h) os own
own-request number op request.Stop os own = each-filter (λ (o : Operation). o.session ≡ number) (λ o. not (has_op op o)) os own

own-called : (call : Option Accepted) (number : ℕ) (os : List Operation) → AreOwn number os → AreOwn number (left_to call number os)
own-called None number os own = own
own-called (Some call) number os own = of (call.session == number)
  where
    of : (b : Bool) → AreOwn number (after_own number (cond b (Some (record { op = call.op; request = call.request })) None) os)
    of true = own-request number call.op call.request os own
    of false = own

all-own : (told : Told) (earlier later : Answering) (ss : List Session) → HaveOwn ss → AllByRecursion (HoldsCalled AreOwn told earlier later) ss
all-own told earlier later [] own = tt
all-own told earlier later (session ∷ ss) own = (own-called told.call session.number session.operations own.0, all-own told earlier later ss own.1)

-- the numbers of the sessions that are left
abbrev with_number : Option ℕ → List ℕ → List ℕ
with_number None ns = ns
with_number (Some n) ns = ns ++ n ∷ []

numbers-taken : (number max : ℕ) (ss : List Session) → numbers_of (taken_from number max ss) ≡ numbers_of ss
numbers-taken number max [] = refl
numbers-taken number max (s ∷ ss) = of (s.number == number) (numbers-taken number max ss)
  where
    of : (b : Bool) → numbers_of (taken_from number max ss) ≡ numbers_of ss →
        numbers_of (cond b (record s { queue = drop max s.queue } ∷ ss) (s ∷ taken_from number max ss)) ≡ s.number ∷ numbers_of ss
    of true ih = refl
    of false ih = ap (λ ns. s.number ∷ ns) ih

numbers-told : (taking : Option Taking) (ss : List Session) → numbers_of (sessions_told taking ss) ≡ numbers_of ss
numbers-told None ss = refl
numbers-told (Some taking) ss = numbers-taken taking.session taking.max ss

numbers-opened : (o : Option ℕ) (ss : List Session) → numbers_of (with_opened o ss) ≡ with_number o (numbers_of ss)
numbers-opened None ss = refl
numbers-opened (Some n) ss = map-append (λ (s : Session). s.number) ss _

numbers-settled : (told : Told) (earlier later : Answering) (ss : List Session) → numbers_of (all_settled ss (map (change_told told earlier later) ss)) ≡ numbers_of ss
numbers-settled told earlier later [] = refl
numbers-settled told earlier later (s ∷ ss) = ap (λ ns. s.number ∷ ns) (numbers-settled told earlier later ss)

abbrev left : Told → List ℕ → List ℕ
left told ns = filter (λ n. not (is_number n told.detached)) ns

numbers-left : (told : Told) (earlier later : Answering) (ss : List Session) →
    numbers_of (sessions_told told.taking (shifted_told told ss (map (change_told told earlier later) ss))) ≡ with_number told.opened (left told (numbers_of ss))
numbers-left told earlier later ss =
    numbers-told told.taking (shifted_told told ss (map (change_told told earlier later) ss))
    ∙ numbers-opened told.opened (remaining_but told.detached (all_settled ss (map (change_told told earlier later) ss)))
    ∙ ap (with_number told.opened) (
    sym (filter_map_swap (λ n. not (is_number n told.detached)) (λ (s : Session). s.number) (all_settled ss (map (change_told told earlier later) ss)))
    ∙ ap (left told) (numbers-settled told earlier later ss))

rising-with : (o : Option ℕ) (p : ℕ → Bool) (ns : List ℕ) → IsRising ns → ((n : ℕ) → o ≡ Some n → list_all (λ m. nat_lt m n) ns ≡ true) → IsRising (with_number o (filter p ns))
rising-with None p ns rising new = IsRising-filter p ns rising
rising-with (Some n) p ns rising new = IsRising-last n (filter p ns) (all-filter p (λ m. nat_lt m n) ns (new n refl)) (IsRising-filter p ns rising)

within-with : (count : ℕ) (o : Option ℕ) (p : ℕ → Bool) (ns : List ℕ) → list_all (λ m. nat_le m count) ns ≡ true → ((n : ℕ) → o ≡ Some n → list_all (λ m. nat_lt m n) ns ≡ true) →
    list_all (λ m. nat_le m (unwrap_or o count)) (with_number o (filter p ns)) ≡ true
within-with count None p ns within new = all-filter p (λ m. nat_le m count) ns within
within-with count (Some n) p ns within new =
    let itself : nat_le n n ≡ true = grind arith in
    list_all-append (λ m. nat_le m n) (filter p ns) (n ∷ [])
    ∙ and_from (list_all (λ m. nat_le m n) (filter p ns)) (nat_le n n && true)
    (all-more (λ m. nat_lt m n) (λ m. nat_le m n) (λ m h. grind arith) (filter p ns) (all-filter p (λ m. nat_lt m n) ns (new n refl))) (and_from (nat_le n n) true itself refl)

-- What holds of the sessions holds of those that are left.
pub kept-left : (told : Told) (earlier later : Answering) (count : ℕ) (ss : List Session) → IsWellFormedCall told.call → IsFresh told ss → AreKept count ss →
    AreKept (unwrap_or told.opened count) (sessions_told told.taking (shifted_told told ss (map (change_told told earlier later) ss)))
kept-left told earlier later count ss call new are =
    record {
      formed = formed-left told earlier later ss call are.formed;
      rising = have-left (λ n. AreRising) told earlier later (λ n. tt) ss (all_called told earlier later ss are.rising new.operation);
      own = have-left AreOwn told earlier later (λ n. tt) ss (all-own told earlier later ss are.own);
      numbers = subst IsRising (sym (numbers-left told earlier later ss)) (rising-with told.opened (λ n. not (is_number n told.detached)) (numbers_of ss) are.numbers new.session);
      within = subst (λ (ns : List ℕ). list_all (λ m. nat_le m (unwrap_or told.opened count)) ns ≡ true) (sym (numbers-left told earlier later ss))
          (within-with count told.opened (λ n. not (is_number n told.detached)) (numbers_of ss) are.within new.session);
    }
