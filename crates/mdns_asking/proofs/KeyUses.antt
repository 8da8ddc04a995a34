-- How often the live operations ask a question, behind an entry.
use Rattle.std.proofs.Common.{◌≡◌, ℕ, ℤ, zero, suc, ◌+◌, ◌<◌, ◌≤◌, ◌==◌, Bool, true, false, cond, not, List, [], ◌∷◌, ◌++◌, map, Option, Some, None, refl, ap, ◌∙◌, sym, arith, append-nil}
use Rattle.std.specs.Prelude.{filter}
use Rattle.std.specs.List.{flat_map}
use Rattle.std.specs.Option.{is_some, option_or, unwrap_or}
use Rattle.std.specs.Ordering.{is_lt, int_eq}
use Rattle.std.proofs.lemmas.List.Concat.{flat_map-append}
use Rattle.lists.specs.Lists.{insert_by, count_where, count_up}
use Rattle.dns_record.specs.declared.record.Key.{Key}
use Rattle.dns_record.specs.Records.{key_eq}
use Rattle.sd_call.specs.declared.request.Request.{Request}
use Rattle.sd_call.specs.declared.request.Request.TheVariants as request
use Rattle.sd_call.specs.Requests.{no_error, with_txt}
use Rattle.mdns_history.specs.declared.event.Event.{Event}
use Rattle.mdns_history.specs.declared.event.Event.TheVariants as event
use Rattle.mdns_history.specs.declared.entry.Outcome.{Outcome}
use Rattle.mdns_history.specs.declared.entry.Outcome.TheVariants as outcome
use Rattle.mdns_history.specs.declared.entry.Entry.{Entry}
use Rattle.mdns_history.specs.declared.operation.Operation.{Operation}
use Rattle.mdns_history.specs.History.{latest}
use Rattle.mdns_history.specs.Sessions.{Accepted, has_op, by_op, opened, opened_count, detached, is_number, attaching, is_attached, attached_sessions, accepted_call, accepted_in, updated, after_request, after_call, operations_of, operations}
use Rattle.mdns_history.specs.Questions.{keys_of}
use Rattle.mdns_history.specs.Outcomes.{early_outcome}
use Rattle.mdns_history.specs.Fitting.{IsLegal}
use Rattle.mdns_history.specs.InForce.{Duties}
use Rattle.mdns_history.proofs.CallFacts.{opened_next, opened-call, coded_attached}
use Rattle.mdns_history.proofs.LegalReplay.{Holds}
use Rattle.mdns_question.specs.Standing.{uses}
use Rattle.sd_sessions.specs.Sessions.{session_in, sessions_in}
use Rattle.mdns_asking.specs.Asked.{begun_keys, stopped_in, stopped_by, ended_with, ended_keys}
use Rattle.sd_sessions.specs.Kept.{operations_in}
use Rattle.sd_sessions.proofs.Attached.{holds_legal}
use Rattle.sd_sessions.proofs.KeptOutcome.{found-session}

-- An entry is of an event with the outcome that the history decides, as far as sessions and calls see it.
pub record IsMove (past : List Entry) (ev : Event) (entry : Entry) : Type 0 where
  pub accepts : accepted_in entry ≡ accepted_call ev (early_outcome ev past)
  pub ends : detached entry.event entry.outcome ≡ detached ev (early_outcome ev past)
  pub opens : opened entry.outcome ≡ opened (early_outcome ev past)

-- how often questions are one
abbrev pub times : Key → List Key → ℕ
times q keys = count_where (key_eq q) keys

-- how often operations ask a question
abbrev pub asked_by : Key → List Operation → ℕ
asked_by q os = times q (flat_map (λ o. keys_of o.request) os)

count-append : {X : Type 0} (p : X → Bool) (xs ys : List X) → count_where p (xs ++ ys) ≡ count_where p xs + count_where p ys
count-append p [] ys = omega arith
count-append p (x ∷ xs) ys = of (p x) (count-append p xs ys)
  where
    of : (b : Bool) → count_where p (xs ++ ys) ≡ count_where p xs + count_where p ys → cond b (suc (count_where p (xs ++ ys))) (count_where p (xs ++ ys)) ≡ cond b (suc (count_where p xs)) (count_where p xs) + count_where p ys
    of true ih = omega arith
    of false ih = ih

pub times-append : (q : Key) (js ks : List Key) → times q (js ++ ks) ≡ times q js + times q ks
times-append q js ks = count-append (key_eq q) js ks

asked_by-cons : (q : Key) (o : Operation) (os : List Operation) → asked_by q (o ∷ os) ≡ times q (keys_of o.request) + asked_by q os
asked_by-cons q o os = times-append q (keys_of o.request) (flat_map (λ p. keys_of p.request) os)

pub asked_by-append : (q : Key) (os ps : List Operation) → asked_by q (os ++ ps) ≡ asked_by q os + asked_by q ps
asked_by-append q os ps = ap (times q) (flat_map-append (λ o. keys_of o.request) os ps) ∙ times-append q (flat_map (λ o. keys_of o.request) os) (flat_map (λ o. keys_of o.request) ps)

-- what a call makes of it
inserted : (q : Key) (o : Operation) (os : List Operation) → asked_by q (insert_by by_op o os) ≡ asked_by q os + times q (keys_of o.request)
inserted q o [] = asked_by-cons q o [] ∙ turned (times q (keys_of o.request))
  where
    turned : (n : ℕ) → n + 0 ≡ 0 + n
    turned n = omega arith
inserted q o (p ∷ os) = of (is_lt (by_op p o)) (inserted q o os)
  where
    there : (n m k : ℕ) → n + (m + k) ≡ (n + m) + k
    there n m k = omega arith

    here : (n m : ℕ) → n + m ≡ m + n
    here n m = omega arith

    of : (b : Bool) → asked_by q (insert_by by_op o os) ≡ asked_by q os + times q (keys_of o.request) →
        asked_by q (cond b (p ∷ insert_by by_op o os) (o ∷ p ∷ os)) ≡ asked_by q (p ∷ os) + times q (keys_of o.request)
    of true ih =
        asked_by-cons q p (insert_by by_op o os) ∙ ap (λ n. times q (keys_of p.request) + n) ih
        ∙ there (times q (keys_of p.request)) (asked_by q os) (times q (keys_of o.request)) ∙ ap (λ n. n + times q (keys_of o.request)) (sym (asked_by-cons q p os))
    of false ih = asked_by-cons q o (p ∷ os) ∙ here (times q (keys_of o.request)) (asked_by q (p ∷ os))

same_keys : (txt : List ℕ) (r : Request) → keys_of (with_txt txt r) ≡ keys_of r
unfolding keys_of
same_keys txt (request.Query kind name) = refl
same_keys txt (request.Browse regtype) = refl
same_keys txt (request.Resolve label regtype) = refl
same_keys txt (request.Address families name) = refl
same_keys txt (request.Register label regtype port norename before) = refl
same_keys txt (request.Update other) = refl
same_keys txt request.Stop = refl

updated_keys : (op : ℕ) (txt : List ℕ) (os : List Operation) → flat_map (λ o. keys_of o.request) (map (updated op txt) os) ≡ flat_map (λ o. keys_of o.request) os
updated_keys op txt [] = refl
updated_keys op txt (o ∷ os) = ap (λ ks. ks ++ flat_map (λ p. keys_of p.request) (map (updated op txt) os)) (of (has_op op o)) ∙ ap (λ ks. keys_of o.request ++ ks) (updated_keys op txt os)
  where
    of : (b : Bool) → keys_of (cond b (with_txt txt o.request) o.request) ≡ keys_of o.request
    of true = same_keys txt o.request
    of false = refl

parted : (q : Key) (p : Operation → Bool) (os : List Operation) → asked_by q (filter (λ o. not (p o)) os) + asked_by q (filter p os) ≡ asked_by q os
parted q p [] = omega arith
parted q p (o ∷ os) = of (p o) (parted q p os)
  where
    outside : (n m k a : ℕ) → m + k ≡ a → (n + m) + k ≡ n + a
    outside n m k a e = omega arith

    inside : (n m k a : ℕ) → m + k ≡ a → m + (n + k) ≡ n + a
    inside n m k a e = omega arith

    rest : List Operation
    rest = filter (λ x. not (p x)) os

    of : (b : Bool) → asked_by q rest + asked_by q (filter p os) ≡ asked_by q os →
        asked_by q (cond (not b) (o ∷ rest) rest) + asked_by q (cond b (o ∷ filter p os) (filter p os)) ≡ asked_by q (o ∷ os)
    of true ih = ap (λ n. asked_by q rest + n) (asked_by-cons q o (filter p os)) ∙ inside (times q (keys_of o.request)) (asked_by q rest) (asked_by q (filter p os)) (asked_by q os) ih ∙ sym (asked_by-cons q o os)
    of false ih = ap (λ n. n + asked_by q (filter p os)) (asked_by-cons q o rest) ∙ outside (times q (keys_of o.request)) (asked_by q rest) (asked_by q (filter p os)) (asked_by q os) ih ∙ sym (asked_by-cons q o os)

plus_none : (n : ℕ) → n + 0 ≡ n
plus_none n = omega arith

requested : (q : Key) (session op : ℕ) (r : Request) (os : List Operation) →
    asked_by q (after_request session op r os) + asked_by q (stopped_in r op os) ≡ asked_by q os + times q (keys_of r)
unfolding keys_of
requested q session op (request.Query kind name) os = plus_none _ ∙ inserted q (record { session = session; op = op; request = request.Query kind name }) os
requested q session op (request.Browse regtype) os = plus_none _ ∙ inserted q (record { session = session; op = op; request = request.Browse regtype }) os
requested q session op (request.Resolve label regtype) os = plus_none _ ∙ inserted q (record { session = session; op = op; request = request.Resolve label regtype }) os
requested q session op (request.Address families name) os = plus_none _ ∙ inserted q (record { session = session; op = op; request = request.Address families name }) os
requested q session op (request.Register label regtype port norename txt) os = plus_none _ ∙ inserted q (record { session = session; op = op; request = request.Register label regtype port norename txt }) os
requested q session op (request.Update txt) os = plus_none _ ∙ ap (times q) (updated_keys op txt os) ∙ sym (plus_none _)
requested q session op request.Stop os = parted q (has_op op) os ∙ sym (plus_none _)

-- sums over numbers
abbrev total : (ℕ → ℕ) → List ℕ → ℕ
total f [] = 0
total f (n ∷ ns) = f n + total f ns

total-same : (f g : ℕ → ℕ) (first many : ℕ) → ((n : ℕ) → first ≤ n → n < first + many → f n ≡ g n) → total f (count_up first many) ≡ total g (count_up first many)
total-same f g first zero same = refl
total-same f g first (suc many) same =
    ap (λ n. n + total f (count_up (first + 1) many)) (same first (omega arith) (omega arith))
    ∙ ap (λ n. g first + n) (total-same f g (first + 1) many (λ n low high. same n (omega arith) (omega arith)))

total-but : (f g : ℕ → ℕ) (s d b first many : ℕ) → first ≤ s → s < first + many → ((n : ℕ) → (n == s) ≡ false → f n ≡ g n) → f s + d ≡ g s + b →
    total f (count_up first many) + d ≡ total g (count_up first many) + b
total-but f g s d b first zero low high same here = let no : ⊥ = omega arith in absurd no
total-but f g s d b first (suc many) low high same here = of (first == s) refl (λ l. total-but f g s d b (first + 1) many l (omega arith) same here)
  where
    head : (m n k x y : ℕ) → m + x ≡ n + y → (m + k) + x ≡ (n + k) + y
    head m n k x y e = omega arith

    tail : (m k l x y : ℕ) → k + x ≡ l + y → (m + k) + x ≡ (m + l) + y
    tail m k l x y e = omega arith

    of : (c : Bool) → (first == s) ≡ c → (first + 1 ≤ s → total f (count_up (first + 1) many) + d ≡ total g (count_up (first + 1) many) + b) →
        (f first + total f (count_up (first + 1) many)) + d ≡ (g first + total g (count_up (first + 1) many)) + b
    of true e rest =
        let at : first ≡ s = grind arith in
        ap (λ n. (f first + n) + d) (total-same f g (first + 1) many (λ n l h. same n (grind arith)))
        ∙ head (f first) (g first) (total g (count_up (first + 1) many)) d b (ap (λ n. f n + d) at ∙ here ∙ sym (ap (λ n. g n + b) at))
    of false e rest =
        ap (λ n. (n + total f (count_up (first + 1) many)) + d) (same first e)
        ∙ tail (g first) (total f (count_up (first + 1) many)) (total g (count_up (first + 1) many)) d b (rest (grind arith))

total-last : (f : ℕ → ℕ) (first many : ℕ) → total f (count_up first (suc many)) ≡ total f (count_up first many) + f (first + many)
total-last f first zero = turned (f first) ∙ ap (λ n. 0 + f n) (sym (plus_none first))
  where
    turned : (n : ℕ) → n + 0 ≡ 0 + n
    turned n = omega arith
total-last f first (suc many) =
    ap (λ n. f first + n) (total-last f (first + 1) many)
    ∙ ap (λ k. f first + (total f (count_up (first + 1) many) + f k)) (moved first many)
    ∙ grouped (f first) (total f (count_up (first + 1) many)) (f (first + suc many))
  where
    moved : (a m : ℕ) → a + 1 + m ≡ a + suc m
    moved a m = omega arith

    grouped : (a b c : ℕ) → a + (b + c) ≡ (a + b) + c
    grouped a b c = omega arith

-- how often the operations of a session that is attached ask a question
abbrev share : Key → List Entry → ℕ → ℕ
share q history n = cond (is_attached n history) (asked_by q (operations_of n history)) 0

uses-shares : (q : Key) (history : List Entry) → uses q history ≡ total (share q history) (count_up 1 (opened_count history))
unfolding uses operations attached_sessions
uses-shares q history = of (count_up 1 (opened_count history))
  where
    of : (ns : List ℕ) → asked_by q (flat_map (λ n. operations_of n history) (filter (λ n. is_attached n history) ns)) ≡ total (share q history) ns
    of [] = refl
    of (n ∷ ns) = at (is_attached n history) (of ns)
      where
        at : (b : Bool) → asked_by q (flat_map (λ m. operations_of m history) (filter (λ m. is_attached m history) ns)) ≡ total (share q history) ns →
            asked_by q (flat_map (λ m. operations_of m history) (cond b (n ∷ filter (λ m. is_attached m history) ns) (filter (λ m. is_attached m history) ns)))
            ≡ cond b (asked_by q (operations_of n history)) 0 + total (share q history) ns
        at true ih =
            asked_by-append q (operations_of n history) (flat_map (λ m. operations_of m history) (filter (λ m. is_attached m history) ns))
            ∙ ap (λ k. asked_by q (operations_of n history) + k) ih
        at false ih = ih ∙ plus (total (share q history) ns)
          where
            plus : (k : ℕ) → k ≡ 0 + k
            plus k = omega arith

-- sessions behind an entry
opened_count-is : (entry : Entry) (past : List Entry) (o : Option ℕ) → opened entry.outcome ≡ o → opened_count (entry ∷ past) ≡ cond (is_some o) (suc (opened_count past)) (opened_count past)
opened_count-is entry past o e = ap (λ x. cond (is_some x) (suc (opened_count past)) (opened_count past)) e

is_attached-is : (entry : Entry) (past : List Entry) (o d : Option ℕ) → opened entry.outcome ≡ o → detached entry.event entry.outcome ≡ d → (n : ℕ) →
    is_attached n (entry ∷ past) ≡ cond (is_number n o) true (cond (is_number n d) false (is_attached n past))
unfolding is_attached
is_attached-is entry past o d e f n =
    ap (λ x. unwrap_or (option_or (cond (is_number n x) (Some true) (cond (is_number n (detached entry.event entry.outcome)) (Some false) None)) (latest (attaching n) past)) false) e
    ∙ ap (λ x. unwrap_or (option_or (cond (is_number n o) (Some true) (cond (is_number n x) (Some false) None)) (latest (attaching n) past)) false) f
    ∙ of (is_number n o) (is_number n d)
  where
    of : (b c : Bool) → unwrap_or (option_or (cond b (Some true) (cond c (Some false) None)) (latest (attaching n) past)) false ≡ cond b true (cond c false (unwrap_or (latest (attaching n) past) false))
    of true c = refl
    of false true = refl
    of false false = refl

operations_of-is : (entry : Entry) (past : List Entry) (d : Option ℕ) (a : Option Accepted) → detached entry.event entry.outcome ≡ d → accepted_in entry ≡ a → (n : ℕ) →
    operations_of n (entry ∷ past) ≡ cond (is_number n d) [] (after_call n a (operations_of n past))
unfolding operations_of
operations_of-is entry past d a e f n =
    ap (λ x. cond (is_number n x) [] (after_call n (accepted_in entry) (operations_of n past))) e
    ∙ ap (λ x. cond (is_number n d) [] (after_call n x (operations_of n past))) f

module _ (q : Key) (entry : Entry) (past : List Entry) where
  -- an entry that opens, ends and accepts nothing
  uses-kept : opened entry.outcome ≡ None → detached entry.event entry.outcome ≡ None → accepted_in entry ≡ None → uses q (entry ∷ past) ≡ uses q past
  uses-kept o d a =
      uses-shares q (entry ∷ past)
      ∙ ap (λ k. total (share q (entry ∷ past)) (count_up 1 k)) (opened_count-is entry past None o)
      ∙ total-same (share q (entry ∷ past)) (share q past) 1 (opened_count past) (λ n l h. each n)
      ∙ sym (uses-shares q past)
    where
      each : (n : ℕ) → share q (entry ∷ past) n ≡ share q past n
      each n =
          ap (λ b. cond b (asked_by q (operations_of n (entry ∷ past))) 0) (is_attached-is entry past None None o d n)
          ∙ ap (λ os. cond (is_attached n past) (asked_by q os) 0) (operations_of-is entry past None None d a n)

  -- one that opens a session
  uses-opened : Holds past → (k : ℕ) → k ≡ opened_count past + 1 → opened entry.outcome ≡ Some k → detached entry.event entry.outcome ≡ None → accepted_in entry ≡ None →
      uses q (entry ∷ past) ≡ uses q past
  uses-opened holds k number o d a =
      uses-shares q (entry ∷ past)
      ∙ ap (λ m. total (share q (entry ∷ past)) (count_up 1 m)) (opened_count-is entry past (Some k) o)
      ∙ total-last (share q (entry ∷ past)) 1 (opened_count past)
      ∙ ap (λ m. m + share q (entry ∷ past) (1 + opened_count past)) (total-same (share q (entry ∷ past)) (share q past) 1 (opened_count past) earlier)
      ∙ ap (λ m. total (share q past) (count_up 1 (opened_count past)) + m) last
      ∙ plus_none (total (share q past) (count_up 1 (opened_count past)))
      ∙ sym (uses-shares q past)
    where
      earlier : (n : ℕ) → 1 ≤ n → n < 1 + opened_count past → share q (entry ∷ past) n ≡ share q past n
      earlier n low high =
          let other : (k == n) ≡ false = grind arith in
          ap (λ b. cond b (asked_by q (operations_of n (entry ∷ past))) 0) (is_attached-is entry past (Some k) None o d n ∙ ap (λ b. cond b true (is_attached n past)) other)
          ∙ ap (λ os. cond (is_attached n past) (asked_by q os) 0) (operations_of-is entry past None None d a n)

      empty : operations_of (1 + opened_count past) (entry ∷ past) ≡ []
      empty = operations_of-is entry past None None d a (1 + opened_count past) ∙ (holds.unopened (1 + opened_count past) (omega arith)).1

      last : share q (entry ∷ past) (1 + opened_count past) ≡ 0
      last = ap (λ os. cond (is_attached (1 + opened_count past) (entry ∷ past)) (asked_by q os) 0) empty ∙ of (is_attached (1 + opened_count past) (entry ∷ past))
        where
          of : (b : Bool) → cond b (asked_by q []) 0 ≡ 0
          of true = refl
          of false = refl

  -- one that ends a session that is attached
  uses-ended : Holds past → (s : ℕ) → is_attached s past ≡ true → opened entry.outcome ≡ None → detached entry.event entry.outcome ≡ Some s → accepted_in entry ≡ None →
      uses q (entry ∷ past) + asked_by q (operations_of s past) ≡ uses q past + 0
  uses-ended holds s attached o d a =
      let range : (1 ≤ s) × (s ≤ opened_count past) = holds.numbered s attached in
      let high : s ≤ opened_count past = range.1 in
      ap (λ m. m + asked_by q (operations_of s past)) (uses-shares q (entry ∷ past) ∙ ap (λ k. total (share q (entry ∷ past)) (count_up 1 k)) (opened_count-is entry past None o))
      ∙ total-but (share q (entry ∷ past)) (share q past) s (asked_by q (operations_of s past)) 0 1 (opened_count past) range.0 (omega arith) others here
      ∙ sym (ap (λ m. m + 0) (uses-shares q past))
    where
      others : (n : ℕ) → (n == s) ≡ false → share q (entry ∷ past) n ≡ share q past n
      others n e =
          let other : (s == n) ≡ false = grind arith in
          ap (λ b. cond b (asked_by q (operations_of n (entry ∷ past))) 0) (is_attached-is entry past None (Some s) o d n ∙ ap (λ b. cond b false (is_attached n past)) other)
          ∙ ap (λ os. cond (is_attached n past) (asked_by q os) 0) (operations_of-is entry past (Some s) None d a n ∙ ap (λ b. cond b [] (operations_of n past)) other)

      plus : (m : ℕ) → 0 + m ≡ m + 0
      plus m = omega arith

      here : share q (entry ∷ past) s + asked_by q (operations_of s past) ≡ share q past s + 0
      here =
          let itself : (s == s) ≡ true = grind arith in
          ap (λ b. cond b (asked_by q (operations_of s (entry ∷ past))) 0 + asked_by q (operations_of s past)) (is_attached-is entry past None (Some s) o d s ∙ ap (λ b. cond b false (is_attached s past)) itself)
          ∙ plus (asked_by q (operations_of s past))
          ∙ sym (ap (λ b. cond b (asked_by q (operations_of s past)) 0 + 0) attached)

  -- one that accepts a call of a session that is attached
  uses-called : Holds past → (call : Accepted) → is_attached call.session past ≡ true → opened entry.outcome ≡ None → detached entry.event entry.outcome ≡ None → accepted_in entry ≡ Some call →
      uses q (entry ∷ past) + asked_by q (stopped_in call.request call.op (operations_of call.session past)) ≡ uses q past + times q (keys_of call.request)
  uses-called holds call attached o d a =
      let range : (1 ≤ call.session) × (call.session ≤ opened_count past) = holds.numbered call.session attached in
      let high : call.session ≤ opened_count past = range.1 in
      ap (λ m. m + asked_by q (stopped_in call.request call.op (operations_of call.session past)))
      (uses-shares q (entry ∷ past) ∙ ap (λ k. total (share q (entry ∷ past)) (count_up 1 k)) (opened_count-is entry past None o))
      ∙ total-but (share q (entry ∷ past)) (share q past) call.session (asked_by q (stopped_in call.request call.op (operations_of call.session past))) (times q (keys_of call.request)) 1 (opened_count past) range.0 (omega arith) others here
      ∙ sym (ap (λ m. m + times q (keys_of call.request)) (uses-shares q past))
    where
      share-is : (n : ℕ) (b : Bool) → (call.session == n) ≡ b → share q (entry ∷ past) n ≡ cond (is_attached n past) (asked_by q (cond b (after_request n call.op call.request (operations_of n past)) (operations_of n past))) 0
      share-is n b e =
          ap (λ c. cond c (asked_by q (operations_of n (entry ∷ past))) 0) (is_attached-is entry past None None o d n)
          ∙ ap (λ os. cond (is_attached n past) (asked_by q os) 0) (operations_of-is entry past None (Some call) d a n ∙ ap (λ c. cond c (after_request n call.op call.request (operations_of n past)) (operations_of n past)) e)

      others : (n : ℕ) → (n == call.session) ≡ false → share q (entry ∷ past) n ≡ share q past n
      others n e = share-is n false (grind arith)

      here : share q (entry ∷ past) call.session + asked_by q (stopped_in call.request call.op (operations_of call.session past)) ≡ share q past call.session + times q (keys_of call.request)
      here =
          ap (λ m. m + asked_by q (stopped_in call.request call.op (operations_of call.session past))) (share-is call.session true (grind arith))
          ∙ ap (λ b. cond b (asked_by q (after_request call.session call.op call.request (operations_of call.session past))) 0 + asked_by q (stopped_in call.request call.op (operations_of call.session past))) attached
          ∙ requested q call.session call.op call.request (operations_of call.session past)
          ∙ sym (ap (λ b. cond b (asked_by q (operations_of call.session past)) 0 + times q (keys_of call.request)) attached)

-- The questions that get a user and those that lose one tell how often a question is asked behind an entry.
pub uses-next : (duties : Duties) (past : List Entry) → IsLegal duties past → (ev : Event) (entry : Entry) → IsMove past ev entry → (q : Key) →
    uses q (entry ∷ past) + times q (ended_keys ev (early_outcome ev past) (sessions_in past)) ≡ uses q past + times q (begun_keys (accepted_call ev (early_outcome ev past)))
unfolding early_outcome
uses-next duties past legal (event.Boot config) entry move q = ap (λ m. m + 0) (uses-kept q entry past move.opens move.ends move.accepts)
uses-next duties past legal event.Attach entry move q = ap (λ m. m + 0) (of (opened (early_outcome event.Attach past)) refl)
  where
    of : (o : Option ℕ) → opened (early_outcome event.Attach past) ≡ o → uses q (entry ∷ past) ≡ uses q past
    of None e = uses-kept q entry past (move.opens ∙ e) move.ends move.accepts
    of (Some k) e =
        let itself : (k == k) ≡ true = grind arith in
        uses-opened q entry past (holds_legal duties past legal) k (opened_next event.Attach past k (ap (is_number k) e ∙ itself)) (move.opens ∙ e) move.ends move.accepts
uses-next duties past legal (event.Detach session) entry move q = of (is_attached session past) refl move.opens move.ends
  where
    of : (b : Bool) → is_attached session past ≡ b → opened entry.outcome ≡ opened (cond b outcome.Ended outcome.Closed) →
        detached entry.event entry.outcome ≡ detached (event.Detach session) (cond b outcome.Ended outcome.Closed) →
        uses q (entry ∷ past) + asked_by q (ended_with (detached (event.Detach session) (cond b outcome.Ended outcome.Closed)) (sessions_in past)) ≡ uses q past + 0
    of true e o d =
        ap (λ x. uses q (entry ∷ past) + asked_by q (operations_in x)) (found-session duties past legal session ∙ ap (λ b. cond b (Some (session_in past session)) None) e)
        ∙ uses-ended q entry past (holds_legal duties past legal) session e o d move.accepts
    of false e o d = ap (λ m. m + 0) (uses-kept q entry past o d move.accepts)
uses-next duties past legal (event.Call session op r) entry move q =
    of (accepted_call (event.Call session op r) (early_outcome (event.Call session op r) past)) refl
  where
    early : Outcome
    early = early_outcome (event.Call session op r) past

    none_opened : opened entry.outcome ≡ None
    none_opened = move.opens ∙ opened-call session op r past

    coded : (o : Outcome) (call : Accepted) → early ≡ o → accepted_call (event.Call session op r) o ≡ Some call → (is_attached session past ≡ true) × (call ≡ record { session = session; op = op; request = r })
    coded (outcome.Code code) call e f = (coded_attached session op r past code e, at (accepted_code code) f)
      where
        accepted_code : ℤ → Bool
        accepted_code c = int_eq c no_error

        at : (b : Bool) → cond b (Some (record { session = session; op = op; request = r })) None ≡ Some call → call ≡ record { session = session; op = op; request = r }
        at true g = cc
        at false g = absurd (cc)
    coded outcome.Done call e f = absurd (cc)
    coded (outcome.Opened n) call e f = absurd (cc)
    coded outcome.Full call e f = absurd (cc)
    coded outcome.Ended call e f = absurd (cc)
    coded outcome.Closed call e f = absurd (cc)
    coded outcome.Cut call e f = absurd (cc)
    coded (outcome.Items items) call e f = absurd (cc)
    coded outcome.Empty call e f = absurd (cc)

    of : (a : Option Accepted) → accepted_call (event.Call session op r) early ≡ a →
        uses q (entry ∷ past) + asked_by q (stopped_by (accepted_call (event.Call session op r) early) (sessions_in past) ++ []) ≡ uses q past + times q (begun_keys (accepted_call (event.Call session op r) early))
    of None e =
        ap (λ x. uses q (entry ∷ past) + asked_by q (stopped_by x (sessions_in past) ++ [])) e ∙ ap (λ m. m + 0) (uses-kept q entry past none_opened move.ends (move.accepts ∙ e))
        ∙ sym (ap (λ x. uses q past + times q (begun_keys x)) e)
    of (Some call) e =
        let facts = coded early call refl e in
        let attached : is_attached call.session past ≡ true = ap (λ (c : Accepted). is_attached c.session past) facts.1 ∙ facts.0 in
        ap (λ x. uses q (entry ∷ past) + asked_by q (stopped_by x (sessions_in past) ++ [])) e
        ∙ ap (λ x. uses q (entry ∷ past) + asked_by q (stopped_in call.request call.op (operations_in x) ++ [])) (found-session duties past legal call.session ∙ ap (λ b. cond b (Some (session_in past call.session)) None) attached)
        ∙ ap (λ os. uses q (entry ∷ past) + asked_by q os) (append-nil (stopped_in call.request call.op (operations_of call.session past)))
        ∙ uses-called q entry past (holds_legal duties past legal) call attached none_opened move.ends (move.accepts ∙ e)
        ∙ sym (ap (λ x. uses q past + times q (begun_keys x)) e)
uses-next duties past legal (event.Hear from bytes) entry move q = ap (λ m. m + 0) (uses-kept q entry past move.opens move.ends move.accepts)
uses-next duties past legal event.Tick entry move q = ap (λ m. m + 0) (uses-kept q entry past move.opens move.ends move.accepts)
uses-next duties past legal (event.Take session max) entry move q = ap (λ m. m + 0) (uses-kept q entry past move.opens move.ends move.accepts)
