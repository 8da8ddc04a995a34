-- In a legal history at most 64 sessions are attached, each with at most 64 operations, and no other session has any.
use Rattle.std.proofs.Common.{◌≡◌, ℕ, zero, suc, ◌+◌, ◌<◌, ◌≤◌, ◌==◌, Bool, true, false, cond, not, List, [], ◌∷◌, map, length, Option, Some, None, refl, ap, subst, ◌∙◌, sym, arith}
use Rattle.std.specs.Prelude.{filter, nat_le}
use Rattle.std.specs.Option.{option_or, unwrap_or, is_some}
use Rattle.std.specs.Ordering.{is_lt}
use Rattle.lists.specs.Lists.{insert_by, count_up}
use Rattle.sd_call.specs.declared.request.Request.{Request}
use Rattle.sd_call.specs.declared.request.Request.TheVariants as request
use Rattle.sd_call.specs.Requests.{is_start}
use Rattle.mdns_history.specs.declared.config.Config.{Config}
use Rattle.mdns_history.specs.declared.event.Event.{Event}
use Rattle.mdns_history.specs.declared.entry.Entry.{Entry}
use Rattle.mdns_history.specs.InForce.{Duties}
use Rattle.mdns_history.specs.History.{latest}
use Rattle.mdns_history.specs.declared.operation.Operation.{Operation}
use Rattle.mdns_history.specs.Sessions.{Accepted, has_op, by_op, opened, opened_count, detached, is_number, attaching, is_attached, attached_sessions, updated, accepted_in, after_request, after_call, operations_of}
use Rattle.mdns_history.specs.Outcomes.{most_sessions, early_outcome}
use Rattle.mdns_history.specs.Fitting.{next_entry, boot_entry, IsLegalFrom, IsLegal}
use Rattle.mdns_history.proofs.CallFacts.{opened-late}
use Rattle.mdns_asserts.proofs.Numbered.{few_filter, length_map}
use Rattle.mdns_asserts.proofs.Registered.{accepted-next}
use Rattle.mdns_groups.proofs.Accepted.{Says, accepted_says, opened_says}

-- what holds of the sessions of a legal history
pub record AreLimited (history : List Entry) : Type 0 where
  pub idle : (session : ℕ) → is_attached session history ≡ false → operations_of session history ≡ []
  pub operations : (session : ℕ) → length (operations_of session history) ≤ 64
  pub sessions : length (attached_sessions history) ≤ 64

inserted : (o : Operation) (os : List Operation) → length (insert_by by_op o os) ≡ suc (length os)
inserted o [] = refl
inserted o (p ∷ os) = of (is_lt (by_op p o)) (inserted o os)
  where
    of : (b : Bool) → length (insert_by by_op o os) ≡ suc (length os) → length (cond b (p ∷ insert_by by_op o os) (o ∷ p ∷ os)) ≡ suc (suc (length os))
    of true e = ap suc e
    of false e = refl

-- a call leaves no more operations than there is room for
few_more : (o : Operation) (os : List Operation) → nat_le 64 (length os) ≡ false → length (insert_by by_op o os) ≤ 64
few_more o os room = let one : length (insert_by by_op o os) ≡ suc (length os) = inserted o os in let few : length os < 64 = grind (arith, room) in omega (arith, one, few)

few_request : (session op : ℕ) (q : Request) (os : List Operation) → length os ≤ 64 → (is_start q ≡ true → nat_le 64 (length os) ≡ false) → length (after_request session op q os) ≤ 64
few_request session op (request.Update txt) os few room = let same : length (map (updated op txt) os) ≡ length os = length_map (updated op txt) os in omega (arith, same, few)
few_request session op request.Stop os few room = let less : length (filter (λ o. not (has_op op o)) os) ≤ length os = few_filter (λ o. not (has_op op o)) os in omega (arith, less, few)
few_request session op (request.Query kind name) os few room = few_more _ os (room refl)
few_request session op (request.Browse regtype) os few room = few_more _ os (room refl)
few_request session op (request.Resolve label regtype) os few room = few_more _ os (room refl)
few_request session op (request.Address families name) os few room = few_more _ os (room refl)
few_request session op (request.Register label regtype port norename txt) os few room = few_more _ os (room refl)

-- of the numbers in a range those that pass one test are no more than those that pass a wider one
few_pass : (p q : ℕ → Bool) (many first : ℕ) → ((n : ℕ) → n < first + many → p n ≡ true → q n ≡ true) → length (filter p (count_up first many)) ≤ length (filter q (count_up first many))
few_pass p q zero first wider = omega arith
few_pass p q (suc many) first wider =
    of (p first) refl (q first) (wider first (omega arith)) (few_pass p q many (first + 1) (λ n l h. wider n (omega (arith, l)) h))
  where
    of : (b : Bool) → p first ≡ b → (c : Bool) → (p first ≡ true → c ≡ true) → length (filter p (count_up (first + 1) many)) ≤ length (filter q (count_up (first + 1) many)) →
        length (cond b (first ∷ filter p (count_up (first + 1) many)) (filter p (count_up (first + 1) many))) ≤ length (cond c (first ∷ filter q (count_up (first + 1) many)) (filter q (count_up (first + 1) many)))
    of true e true h l = omega (arith, l)
    of true e false h l = let no : false ≡ true = h e in cc
    of false e true h l = omega (arith, l)
    of false e false h l = l

-- one number more
one_more : (p : ℕ → Bool) (many first : ℕ) → length (filter p (count_up first (suc many))) ≤ length (filter p (count_up first many)) + 1
one_more p zero first = of (p first)
  where
    of : (b : Bool) → length (cond b (first ∷ []) []) ≤ 1
    of true = omega arith
    of false = omega arith
one_more p (suc many) first = of (p first) (one_more p many (first + 1))
  where
    of : (b : Bool) → length (filter p (count_up (first + 1) (suc many))) ≤ length (filter p (count_up (first + 1) many)) + 1 →
        length (cond b (first ∷ filter p (count_up (first + 1) (suc many))) (filter p (count_up (first + 1) (suc many)))) ≤ length (cond b (first ∷ filter p (count_up (first + 1) many)) (filter p (count_up (first + 1) many))) + 1
    of true l = omega (arith, l)
    of false l = l

-- what an entry accepts and opens is decided by the history before
pub accepts : (duties : Duties) (entry : Entry) (past : List Entry) → entry ≡ next_entry duties past entry.moment entry.word entry.event →
    (call : Accepted) → accepted_in entry ≡ Some call → Says call past
accepts duties entry past determined call e =
    accepted_says entry.event past call (sym (ap accepted_in determined ∙ accepted-next duties past entry.moment entry.word entry.event) ∙ e)

opens_late : (duties : Duties) (past : List Entry) (moment word : ℕ) (ev : Event) → opened (next_entry duties past moment word ev).outcome ≡ opened (early_outcome ev past)
unfolding next_entry
opens_late duties past moment word ev = opened-late ev past _

opens : (duties : Duties) (entry : Entry) (past : List Entry) → entry ≡ next_entry duties past entry.moment entry.word entry.event → opened entry.outcome ≡ opened (early_outcome entry.event past)
opens duties entry past determined = ap (λ e. opened e.outcome) determined ∙ opens_late duties past entry.moment entry.word entry.event

module _ (duties : Duties) (entry : Entry) (past : List Entry) (determined : entry ≡ next_entry duties past entry.moment entry.word entry.event) (before : AreLimited past) where
  -- a session that wasn't opened just now was attached before
  attached_before : (n : ℕ) → is_number n (opened entry.outcome) ≡ false → is_attached n (entry ∷ past) ≡ true → is_attached n past ≡ true
  unfolding is_attached
  attached_before n old h = of (is_number n (opened entry.outcome)) old (is_number n (detached entry.event entry.outcome)) h
    where
      of : (b : Bool) → b ≡ false → (c : Bool) → unwrap_or (option_or (cond b (Some true) (cond c (Some false) None)) (latest (attaching n) past)) false ≡ true → is_attached n past ≡ true
      of true g c f = cc
      of false g true f = cc
      of false g false f = f

  sessions_next : length (attached_sessions (entry ∷ past)) ≤ 64
  unfolding attached_sessions
  sessions_next = of (opened entry.outcome) refl
    where
      other : (k n : ℕ) → k ≡ opened_count past + 1 → n < 1 + opened_count past → (k == n) ≡ false
      other k n e l = grind (arith, e, l)

      of : (o : Option ℕ) → opened entry.outcome ≡ o → length (filter (λ n. is_attached n (entry ∷ past)) (count_up 1 (cond (is_some o) (suc (opened_count past)) (opened_count past)))) ≤ 64
      of None e =
          let less : length (filter (λ n. is_attached n (entry ∷ past)) (count_up 1 (opened_count past))) ≤ length (attached_sessions past) =
          few_pass (λ n. is_attached n (entry ∷ past)) (λ n. is_attached n past) (opened_count past) 1 (λ n l h. attached_before n (ap (is_number n) e) h) in
          omega (arith, less, before.sessions)
      of (Some k) e =
          let says : (k ≡ opened_count past + 1) × (nat_le most_sessions (length (attached_sessions past)) ≡ false) = opened_says entry.event past k (sym (opens duties entry past determined) ∙ e) in
          let more : length (filter (λ n. is_attached n (entry ∷ past)) (count_up 1 (suc (opened_count past)))) ≤ length (filter (λ n. is_attached n (entry ∷ past)) (count_up 1 (opened_count past))) + 1 =
          one_more (λ n. is_attached n (entry ∷ past)) (opened_count past) 1 in
          let less : length (filter (λ n. is_attached n (entry ∷ past)) (count_up 1 (opened_count past))) ≤ length (attached_sessions past) =
          few_pass (λ n. is_attached n (entry ∷ past)) (λ n. is_attached n past) (opened_count past) 1 (λ n l h. attached_before n (ap (is_number n) e ∙ other k n says.0 l) h) in
          let room : length (attached_sessions past) < 64 = grind (arith, says.1) in
          omega (arith, more, less, room)

  idle_next : (session : ℕ) → is_attached session (entry ∷ past) ≡ false → operations_of session (entry ∷ past) ≡ []
  unfolding operations_of is_attached
  idle_next session h = of (is_number session (opened entry.outcome)) (is_number session (detached entry.event entry.outcome)) h
    where
      called : is_attached session past ≡ false → (acc : Option Accepted) → accepted_in entry ≡ acc → after_call session acc (operations_of session past) ≡ []
      called off None e = before.idle session off
      called off (Some call) e = by (call.session == session) refl
        where
          by : (b : Bool) → (call.session == session) ≡ b → cond b (after_request session call.op call.request (operations_of session past)) (operations_of session past) ≡ []
          by true f =
              let same : call.session ≡ session = grind (arith, f) in
              let no : true ≡ false = sym (accepts duties entry past determined call e).attached ∙ ap (λ s. is_attached s past) same ∙ off in cc
          by false f = before.idle session off

      of : (b c : Bool) → unwrap_or (option_or (cond b (Some true) (cond c (Some false) None)) (latest (attaching session) past)) false ≡ false → cond c [] (after_call session (accepted_in entry) (operations_of session past)) ≡ []
      of true c f = cc
      of false true f = refl
      of false false f = called f (accepted_in entry) refl

  operations_next : (session : ℕ) → length (operations_of session (entry ∷ past)) ≤ 64
  unfolding operations_of
  operations_next session = of (is_number session (detached entry.event entry.outcome)) (accepted_in entry) refl
    where
      of : (b : Bool) (acc : Option Accepted) → accepted_in entry ≡ acc → length (cond b [] (after_call session acc (operations_of session past))) ≤ 64
      of true acc e = omega arith
      of false None e = before.operations session
      of false (Some call) e = by (call.session == session) refl
        where
          by : (b : Bool) → (call.session == session) ≡ b → length (cond b (after_request session call.op call.request (operations_of session past)) (operations_of session past)) ≤ 64
          by true f =
              let same : call.session ≡ session = grind (arith, f) in
              few_request session call.op call.request (operations_of session past) (before.operations session)
              (λ start. sym (ap (λ s. nat_le 64 (length (operations_of s past))) same) ∙ (accepts duties entry past determined call e).room start)
          by false f = before.operations session

  limited_next : AreLimited (entry ∷ past)
  limited_next = record { idle = idle_next; operations = operations_next; sessions = sessions_next }

limited_boot : (moment word : ℕ) (config : Config) → AreLimited (boot_entry moment word config ∷ [])
unfolding operations_of attached_sessions
limited_boot moment word config = record { idle = λ session h. refl; operations = λ session. omega arith; sessions = omega arith }

limited_from : (duties : Duties) (entry : Entry) (past : List Entry) → IsLegalFrom duties entry past → AreLimited (entry ∷ past)
limited_from duties entry [] legal = subst (λ e. AreLimited (e ∷ [])) (sym legal.3) (limited_boot entry.moment entry.word legal.0)
limited_from duties entry (before ∷ past) legal = limited_next duties entry (before ∷ past) (legal.0).determined (limited_from duties before past legal.1)

pub are_limited : (duties : Duties) (history : List Entry) → IsLegal duties history → AreLimited history
are_limited duties [] legal = absurd legal
are_limited duties (entry ∷ past) legal = limited_from duties entry past legal
