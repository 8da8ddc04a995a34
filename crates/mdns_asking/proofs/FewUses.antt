-- In a legal history a question has at most 4,096 uses: those of 64 operations of each of 64 sessions.
use Rattle.std.proofs.Common.{◌≡◌, ℕ, ℤ, suc, ◌+◌, ◌*◌, ◌<◌, ◌≤◌, ◌==◌, Bool, true, false, cond, not, ◌&&◌, ◌||◌, List, [], ◌∷◌, ◌++◌, map, length, Option, Some, None, refl, ap, ◌∙◌, sym, subst, arith}
use Rattle.std.specs.Prelude.{filter, nat_le}
use Rattle.std.specs.List.{flat_map}
use Rattle.std.specs.Option.{is_some}
use Rattle.std.specs.Ordering.{is_lt, int_eq}
use Rattle.lists.specs.Lists.{insert_by}
use Rattle.dns_record.specs.declared.record.Key.{Key}
use Rattle.dns_record.specs.Records.{key_eq}
use Rattle.sd_name.specs.ServiceTypes.{ServiceType, service_type}
use Rattle.sd_call.specs.declared.request.Request.{Request}
use Rattle.sd_call.specs.declared.request.Request.TheVariants as request
use Rattle.sd_call.specs.Requests.{no_error, bad_param, bad_reference, unsupported, name_conflict, invalid, refused, well_formed, is_start, is_register}
use Rattle.mdns_history.specs.declared.config.Config.{Config}
use Rattle.mdns_history.specs.declared.event.Event.{Event}
use Rattle.mdns_history.specs.declared.event.Event.TheVariants as event
use Rattle.mdns_history.specs.declared.entry.Outcome.{Outcome}
use Rattle.mdns_history.specs.declared.entry.Outcome.TheVariants as outcome
use Rattle.mdns_history.specs.declared.entry.Entry.{Entry}
use Rattle.mdns_history.specs.declared.operation.Operation.{Operation}
use Rattle.mdns_history.specs.InForce.{Duties}
use Rattle.mdns_history.specs.Groups.{registered_count}
use Rattle.mdns_history.specs.Sessions.{has_op, by_op, opened, opened_count, detached, is_number, is_attached, attached_sessions, operation_request, updated, accepted_call, after_request, after_call, operations_of, operations}
use Rattle.mdns_history.specs.Questions.{key_of, keys_of, browse_keys, resolve_keys}
use Rattle.mdns_history.specs.Outcomes.{most_over_life, is_bad_reference, is_unsupported, is_refused, is_name_conflict, call_code, call_outcome, early_outcome}
use Rattle.mdns_history.specs.Fitting.{boot_entry, IsLegalFrom, IsLegal}
use Rattle.mdns_history.proofs.CallFacts.{opened-call, coded_with}
use Rattle.mdns_question.specs.Standing.{uses}
use Rattle.mdns_question.specs.Tracking.{one_more}
use Rattle.sd_sessions.proofs.EntryParts.{marked, entry_after}
use Rattle.sd_sessions.proofs.Attached.{attached_sessions-next, attached-opened, attached-ended, attached-kept}
use Rattle.sd_sessions.proofs.Operations.{operations_of-next}
use Rattle.mdns_asking.proofs.KeyOrder.{key_eq-same}
use Rattle.mdns_asking.proofs.KeyUses.{times, times-append, asked_by, asked_by-append}

-- a request asks each question once at most
single : (q k : Key) → times q (k ∷ []) ≤ 1
single q k = of (key_eq q k)
  where
    of : (b : Bool) → cond b 1 0 ≤ 1
    of true = omega arith
    of false = omega arith

kinds : (a b : Key) → key_eq a b ≡ true → (a.kind == b.kind) ≡ true
unfolding key_eq
kinds a b h = second _ _ h
  where
    second : (x y : Bool) → (x && y) ≡ true → y ≡ true
    second true y g = g
    second false y g = absurd (cc)

pair : (q j k : Key) → (j.kind == k.kind) ≡ false → times q (j ∷ k ∷ []) ≤ 1
pair q j k other = of (key_eq q j) (key_eq q k) refl refl
  where
    of : (b c : Bool) → key_eq q j ≡ b → key_eq q k ≡ c → cond b (suc (cond c 1 0)) (cond c 1 0) ≤ 1
    of true true e f = let one : (j.kind == k.kind) ≡ true = kinds j k (sym (key_eq-same q j e k) ∙ f) in absurd (cc)
    of true false e f = omega arith
    of false true e f = omega arith
    of false false e f = omega arith

pub none_once : (q : Key) → times q [] ≤ 1
none_once q = omega arith

pub once : (q : Key) (r : Request) → times q (keys_of r) ≤ 1
unfolding keys_of
once q (request.Query kind name) = single q (key_of kind name)
once q (request.Address families name) = of (families == 1) (families == 2)
  where
    of : (b c : Bool) → times q (cond b (key_of 1 name ∷ []) (cond c (key_of 28 name ∷ []) (key_of 1 name ∷ key_of 28 name ∷ []))) ≤ 1
    of true c = single q (key_of 1 name)
    of false true = single q (key_of 28 name)
    of false false = pair q (key_of 1 name) (key_of 28 name) refl
once q (request.Browse regtype) = of (service_type regtype)
  where
    of : (o : Option ServiceType) → times q (browse_keys o) ≤ 1
    of None = none_once q
    of (Some type) = single q _
once q (request.Resolve label regtype) = of (service_type regtype)
  where
    of : (o : Option ServiceType) → times q (resolve_keys label o) ≤ 1
    of None = none_once q
    of (Some type) = pair q _ _ refl
once q (request.Register label regtype port norename txt) = none_once q
once q (request.Update txt) = none_once q
once q request.Stop = none_once q

-- lengths of lists with one more or without some
length-last : {X : Type 0} (xs : List X) (x : X) → length (xs ++ x ∷ []) ≡ suc (length xs)
length-last [] x = refl
length-last (y ∷ xs) x = ap suc (length-last xs x)

fewer : {X : Type 0} (p : X → Bool) (xs : List X) → length (filter p xs) ≤ length xs
fewer p [] = omega arith
fewer p (x ∷ xs) = of (p x) (fewer p xs)
  where
    of : (b : Bool) → length (filter p xs) ≤ length xs → length (cond b (x ∷ filter p xs) (filter p xs)) ≤ suc (length xs)
    of true h = omega (arith, h)
    of false h = omega (arith, h)

one_longer : (o : Operation) (os : List Operation) → length (insert_by by_op o os) ≡ suc (length os)
one_longer o [] = refl
one_longer o (p ∷ os) = of (is_lt (by_op p o)) (one_longer o os)
  where
    of : (b : Bool) → length (insert_by by_op o os) ≡ suc (length os) → length (cond b (p ∷ insert_by by_op o os) (o ∷ p ∷ os)) ≡ suc (suc (length os))
    of true h = ap suc h
    of false h = refl

as_many : {X Y : Type 0} (f : X → Y) (xs : List X) → length (map f xs) ≡ length xs
as_many f [] = refl
as_many f (x ∷ xs) = ap suc (as_many f xs)

-- a session is opened where there is room
room_opened : (e : Event) (past : List Entry) (k : ℕ) → opened (early_outcome e past) ≡ Some k → length (attached_sessions past) < 64
unfolding early_outcome
room_opened (event.Boot config) past k h = absurd (cc)
room_opened event.Attach past k h = of (nat_le 64 (length (attached_sessions past))) refl h
  where
    of : (b : Bool) → nat_le 64 (length (attached_sessions past)) ≡ b → opened (cond (b || nat_le most_over_life (opened_count past)) outcome.Full (outcome.Opened (opened_count past + 1))) ≡ Some k →
        length (attached_sessions past) < 64
    of true e f = absurd (cc)
    of false e f = grind arith
room_opened (event.Detach other) past k h = of (is_attached other past) h
  where
    of : (b : Bool) → opened (cond b outcome.Ended outcome.Closed) ≡ Some k → length (attached_sessions past) < 64
    of true f = absurd (cc)
    of false f = absurd (cc)
room_opened (event.Call other op r) past k h = let no : None ≡ Some k = sym (opened-call other op r past) ∙ h in absurd (cc)
room_opened (event.Hear from bytes) past k h = absurd (cc)
room_opened event.Tick past k h = absurd (cc)
room_opened (event.Take other max) past k h = absurd (cc)

-- whether a call's code is 0, by the tests of the codes
abbrev is_code_zero : Bool → Bool → Bool → Bool → Bool → Bool → Bool
is_code_zero a b c d f x = int_eq (cond a invalid (cond b bad_reference (cond c bad_param (cond d unsupported (cond x refused (cond f name_conflict no_error)))))) no_error

not_refused : (a b c d f : Bool) → is_code_zero a b c d f true ≡ false
not_refused true b c d f = refl
not_refused false true c d f = refl
not_refused false false true d f = refl
not_refused false false false true f = refl
not_refused false false false false f = refl

-- an operation starts where there is room
room_started : (session op : ℕ) (r : Request) (past : List Entry) (code : ℤ) → call_outcome session op r past ≡ outcome.Code code → int_eq code no_error ≡ true → is_start r ≡ true →
    length (operations_of session past) < 64
unfolding call_code
room_started session op r past code e ok start = of (nat_le 64 (length (operations_of session past))) refl (ap (λ c. int_eq c no_error) (coded_with session op r past code e) ∙ ok)
  where
    full : nat_le 64 (length (operations_of session past)) ≡ true → int_eq (call_code session op r past) no_error ≡ false
    full g =
        let is_full : is_refused session r past ≡ true =
        ap (λ b. b && (nat_le 64 (length (operations_of session past)) || (is_register r && nat_le most_over_life (registered_count past)))) start
        ∙ ap (λ b. b || (is_register r && nat_le most_over_life (registered_count past))) g in
        ap (is_code_zero (is_start r && is_some (operation_request session op past)) (is_bad_reference session op r past) (not (well_formed r)) (is_unsupported r past) (is_name_conflict r past)) is_full
        ∙ not_refused (is_start r && is_some (operation_request session op past)) (is_bad_reference session op r past) (not (well_formed r)) (is_unsupported r past) (is_name_conflict r past)

    of : (b : Bool) → nat_le 64 (length (operations_of session past)) ≡ b → int_eq (call_code session op r past) no_error ≡ true → length (operations_of session past) < 64
    of true g h = let no : true ≡ false = sym h ∙ full g in absurd (cc)
    of false g h = grind arith

few_request : (session op : ℕ) (r : Request) (before : List Operation) → length before ≤ 64 → (is_start r ≡ true → length before < 64) → length (after_request session op r before) ≤ 64
few_request session op (request.Query kind name) before few room = omega (arith, one_longer (record { session = session; op = op; request = request.Query kind name }) before, room refl)
few_request session op (request.Browse regtype) before few room = omega (arith, one_longer (record { session = session; op = op; request = request.Browse regtype }) before, room refl)
few_request session op (request.Resolve label regtype) before few room = omega (arith, one_longer (record { session = session; op = op; request = request.Resolve label regtype }) before, room refl)
few_request session op (request.Address families name) before few room = omega (arith, one_longer (record { session = session; op = op; request = request.Address families name }) before, room refl)
few_request session op (request.Register label regtype port norename txt) before few room =
    omega (arith, one_longer (record { session = session; op = op; request = request.Register label regtype port norename txt }) before, room refl)
few_request session op (request.Update txt) before few room = omega (arith, as_many (updated op txt) before, few)
few_request session op request.Stop before few room = omega (arith, fewer (λ o. not (has_op op o)) before, few)

few_call : (session : ℕ) (e : Event) (o : Outcome) (before : List Operation) → length before ≤ 64 →
    ((op : ℕ) (r : Request) (code : ℤ) → e ≡ event.Call session op r → o ≡ outcome.Code code → int_eq code no_error ≡ true → is_start r ≡ true → length before < 64) →
    length (after_call session (accepted_call e o) before) ≤ 64
few_call session (event.Call s op r) (outcome.Code code) before few room = of (s == session) refl (int_eq code no_error) refl
  where
    of : (b : Bool) → (s == session) ≡ b → (z : Bool) → int_eq code no_error ≡ z → length (after_call session (accepted_call (event.Call s op r) (outcome.Code code)) before) ≤ 64
    of true e true z = let here : s ≡ session = grind arith in
        rw (z, e) (few_request session op r before few (room op r code (ap (λ n. event.Call n op r) here) refl z))
    of true e false z = rw z few
    of false e true z = rw (z, e) few
    of false e false z = rw z few
few_call session (event.Call s op r) outcome.Done before few room = few
few_call session (event.Call s op r) (outcome.Opened n) before few room = few
few_call session (event.Call s op r) outcome.Full before few room = few
few_call session (event.Call s op r) outcome.Ended before few room = few
few_call session (event.Call s op r) outcome.Closed before few room = few
few_call session (event.Call s op r) outcome.Cut before few room = few
few_call session (event.Call s op r) (outcome.Items items) before few room = few
few_call session (event.Call s op r) outcome.Empty before few room = few
few_call session (event.Boot config) o before few room = few
few_call session event.Attach o before few room = few
few_call session (event.Detach s) o before few room = few
few_call session (event.Hear from bytes) o before few room = few
few_call session event.Tick o before few room = few
few_call session (event.Take s max) o before few room = few

module _ (duties : Duties) (past : List Entry) (moment word : ℕ) (ev : Event) where
  few_sessions-next : length (attached_sessions past) ≤ 64 → length (attached_sessions (entry_after duties past moment word ev ∷ past)) ≤ 64
  few_sessions-next few = subst (λ ns. length ns ≤ 64) (sym (attached_sessions-next duties past moment word ev)) (of (opened (early_outcome ev past)) (detached ev (early_outcome ev past)) refl refl)
    where
      of : (o d : Option ℕ) → opened (early_outcome ev past) ≡ o → detached ev (early_outcome ev past) ≡ d → length (attached_sessions (marked duties past moment word ev ∷ past)) ≤ 64
      of (Some k) d e f =
          subst (λ ns. length ns ≤ 64) (sym (attached-opened duties past moment word ev k e)) (omega (arith, length-last (attached_sessions past) k, room_opened ev past k e))
      of None (Some s) e f =
          subst (λ ns. length ns ≤ 64) (sym (attached-ended duties past moment word ev s e f)) (omega (arith, fewer (λ n. not (n == s)) (attached_sessions past), few))
      of None None e f = subst (λ ns. length ns ≤ 64) (sym (attached-kept duties past moment word ev e f)) few

  few_operations-next : (n : ℕ) → length (operations_of n past) ≤ 64 → length (operations_of n (entry_after duties past moment word ev ∷ past)) ≤ 64
  unfolding operations_of early_outcome
  few_operations-next n few = subst (λ os. length os ≤ 64) (sym (operations_of-next duties past moment word ev n)) (of (is_number n (detached ev (early_outcome ev past))))
    where
      room : (op : ℕ) (r : Request) (code : ℤ) → ev ≡ event.Call n op r → early_outcome ev past ≡ outcome.Code code → int_eq code no_error ≡ true → is_start r ≡ true → length (operations_of n past) < 64
      room op r code e o ok start = room_started n op r past code (ap (λ x. early_outcome x past) (sym e) ∙ o) ok start

      of : (b : Bool) → length (cond b [] (after_call n (accepted_call ev (early_outcome ev past)) (operations_of n past))) ≤ 64
      of true = omega arith
      of false = few_call n ev (early_outcome ev past) (operations_of n past) few room

few_sessions-boot : (moment word : ℕ) (config : Config) → length (attached_sessions (boot_entry moment word config ∷ [])) ≤ 64
unfolding attached_sessions
few_sessions-boot moment word config = omega arith

few_operations-boot : (n moment word : ℕ) (config : Config) → length (operations_of n (boot_entry moment word config ∷ [])) ≤ 64
unfolding operations_of
few_operations-boot n moment word config = omega arith

few_sessions : (duties : Duties) (entry : Entry) (past : List Entry) → IsLegalFrom duties entry past → length (attached_sessions (entry ∷ past)) ≤ 64
few_sessions duties entry [] legal = subst (λ e. length (attached_sessions (e ∷ [])) ≤ 64) (sym legal.3) (few_sessions-boot entry.moment entry.word legal.0)
few_sessions duties entry (before ∷ past) legal =
    subst (λ e. length (attached_sessions (e ∷ before ∷ past)) ≤ 64) (sym (legal.0).determined)
    (few_sessions-next duties (before ∷ past) entry.moment entry.word entry.event (few_sessions duties before past legal.1))

few_operations : (duties : Duties) (entry : Entry) (past : List Entry) → IsLegalFrom duties entry past → (n : ℕ) → length (operations_of n (entry ∷ past)) ≤ 64
few_operations duties entry [] legal n = subst (λ e. length (operations_of n (e ∷ [])) ≤ 64) (sym legal.3) (few_operations-boot n entry.moment entry.word legal.0)
few_operations duties entry (before ∷ past) legal n =
    subst (λ e. length (operations_of n (e ∷ before ∷ past)) ≤ 64) (sym (legal.0).determined)
    (few_operations-next duties (before ∷ past) entry.moment entry.word entry.event n (few_operations duties before past legal.1 n))

-- operations ask a question no more often than there are operations
asked_few : (q : Key) (os : List Operation) → asked_by q os ≤ length os
asked_few q [] = omega arith
asked_few q (o ∷ os) = subst (λ n. n ≤ suc (length os)) (sym (times-append q (keys_of o.request) (flat_map (λ p. keys_of p.request) os))) (omega (arith, once q o.request, asked_few q os))

uses_few : (q : Key) (history : List Entry) → ((n : ℕ) → length (operations_of n history) ≤ 64) → (ns : List ℕ) → asked_by q (flat_map (λ n. operations_of n history) ns) ≤ 64 * length ns
uses_few q history few [] = omega arith
uses_few q history few (n ∷ ns) =
    subst (λ m. m ≤ 64 * suc (length ns)) (sym (asked_by-append q (operations_of n history) (flat_map (λ m. operations_of m history) ns)))
    (omega (arith, asked_few q (operations_of n history), few n, uses_few q history few ns))

-- A question has few uses.
pub few_uses : (duties : Duties) (past : List Entry) → IsLegal duties past → (q : Key) → uses q past ≤ 4096
unfolding uses operations
few_uses duties [] legal q = absurd legal
few_uses duties (entry ∷ past) legal q =
    omega (arith, uses_few q (entry ∷ past) (few_operations duties entry past legal) (attached_sessions (entry ∷ past)), few_sessions duties entry past legal)

-- So its count gets one more.
pub counts_one_more : (duties : Duties) (past : List Entry) → IsLegal duties past → (q : Key) (users : ℕ) → users ≡ uses q past → one_more users ≡ users + 1
counts_one_more duties past legal q users e =
    let few : uses q past ≤ 4096 = few_uses duties past legal q in
    omega arith
