-- What the reply to a session's call makes of the sets that are replayed.
use Rattle.std.proofs.Common.{◌≡◌, ℕ, ℤ, ◌==◌, Bool, true, false, cond, not, ◌&&◌, ◌||◌, List, [], ◌∷◌, map, Some, None, refl, ap, ◌∙◌, sym, arith}
use Rattle.std.specs.Prelude.{filter}
use Rattle.std.specs.List.{list_any, find}
use Rattle.std.specs.Option.{option_map_or, option_to_list}
use Rattle.std.specs.Ordering.{nat_cmp, int_eq}
use Rattle.std.specs.Cmp.{nat_cmp_total, Equal-is, unsigned_tied, nat_eq_equiv}
use Rattle.std.specs.FinMap as fin
use Rattle.std.specs.FinSet as set
use Rattle.lists.specs.Lists.{insert_by}
use Rattle.lists.proofs.InOrder.{any-insert}
use Rattle.sd_call.specs.declared.answer.Answer.{Answer}
use Rattle.sd_call.specs.declared.request.Request.{Request}
use Rattle.sd_call.specs.declared.request.Request.TheVariants as request
use Rattle.sd_call.specs.declared.item.Item.TheVariants.{Reply}
use Rattle.sd_call.specs.Requests.{no_error, is_start}
use Rattle.sd_call.specs.Replay.{AnswerSet, AnswerSets, replay_from}
use Rattle.sd_call.proofs.ReplayLaws.{set_of}
use Rattle.sd_call.proofs.ReplayRuns.{is_at, found, sets_of, get-insert, get-sets_of, same_sets}
use Rattle.mdns_history.specs.declared.event.Event.{Event}
use Rattle.mdns_history.specs.declared.event.Event.TheVariants as event
use Rattle.mdns_history.specs.declared.entry.Outcome.{Outcome}
use Rattle.mdns_history.specs.declared.entry.Outcome.TheVariants as outcome
use Rattle.mdns_history.specs.Sessions.{Operation, has_op, by_op, updated, after_request, after_call, accepted_call}
use Rattle.mdns_history.specs.Items.{reply_of, verb_of}

abbrev pub number : Operation → ℕ
number operation = operation.op

-- whether an operation has a number
abbrev pub any_at : ℕ → List Operation → Bool
any_at q os = list_any (λ o. is_at q o.op) os

-- the answers of the operation of a number
abbrev pub answers_at : (Operation → List Answer) → ℕ → List Operation → List Answer
answers_at f q os = option_map_or f (find (has_op q) os) []

at_path : (q n : ℕ) → is_at q n ≡ true → q ≡ n
at_path q n e = fin.nat_cmp-IsAntisymmetric q n ((Equal-is (nat_cmp q n)).0 e)

pub at_eq : (q n : ℕ) → is_at q n ≡ (n == q)
at_eq q n = unsigned_tied q n ∙ nat_eq_equiv.symm q n

found-number : (g : ℕ → AnswerSet) (os : List Operation) (q : ℕ) → found number (λ o. g o.op) os q ≡ cond (any_at q os) (Some (g q)) None
found-number g [] q = refl
found-number g (o ∷ os) q = chosen (is_at q o.op) refl (found-number g os q)
  where
    chosen : (b : Bool) → is_at q o.op ≡ b → found number (λ p. g p.op) os q ≡ cond (any_at q os) (Some (g q)) None →
        cond b (Some (g o.op)) (found number (λ p. g p.op) os q) ≡ cond (b || any_at q os) (Some (g q)) None
    chosen true e rest = ap (λ n. Some (g n)) (sym (at_path q o.op e))
    chosen false e rest = rest

found-answers : (f : Operation → List Answer) (os : List Operation) (q : ℕ) → found number (λ o. set_of (f o)) os q ≡ cond (any_at q os) (Some (set_of (answers_at f q os))) None
found-answers f [] q = refl
found-answers f (o ∷ os) q = chosen (is_at q o.op) (at_eq q o.op) (found-answers f os q)
  where
    chosen : (b : Bool) → b ≡ (o.op == q) → found number (λ p. set_of (f p)) os q ≡ cond (any_at q os) (Some (set_of (answers_at f q os))) None →
        cond b (Some (set_of (f o))) (found number (λ p. set_of (f p)) os q) ≡ cond (b || any_at q os) (Some (set_of (option_map_or f (cond (o.op == q) (Some o) (find (has_op q) os)) []))) None
    chosen true e rest = ap (λ c. Some (set_of (option_map_or f (cond c (Some o) (find (has_op q) os)) []))) e
    chosen false e rest = rest ∙ ap (λ c. cond (any_at q os) (Some (set_of (option_map_or f (cond c (Some o) (find (has_op q) os)) []))) None) e

any_at-insert_by : (q : ℕ) (o : Operation) (os : List Operation) → any_at q (insert_by by_op o os) ≡ (is_at q o.op || any_at q os)
any_at-insert_by q o os = any-insert by_op (λ p. is_at q p.op) o os

any_at-filter : (q op : ℕ) (os : List Operation) → any_at q (filter (λ o. not (has_op op o)) os) ≡ (not (is_at q op) && any_at q os)
any_at-filter q op [] = none (is_at q op)
  where
    none : (b : Bool) → false ≡ (not b && false)
    none true = refl
    none false = refl
any_at-filter q op (o ∷ os) = kept (o.op == op) refl (any_at-filter q op os)
  where
    -- at one number both tests are one
    kept : (c : Bool) → (o.op == op) ≡ c → any_at q (filter (λ p. not (has_op op p)) os) ≡ (not (is_at q op) && any_at q os) →
        any_at q (cond (not c) (o ∷ filter (λ p. not (has_op op p)) os) (filter (λ p. not (has_op op p)) os)) ≡ (not (is_at q op) && (is_at q o.op || any_at q os))
    kept true e rest = let here : o.op ≡ op = grind arith in rest ∙ ap (λ n. not (is_at q op) && any_at q os) here ∙ dropped (is_at q op) (is_at q o.op) (any_at q os) (ap (λ n. is_at q n) here)
      where
        dropped : (a b c : Bool) → b ≡ a → (not a && c) ≡ (not a && (b || c))
        dropped true b c e = refl
        dropped false true c e = cc
        dropped false false c e = refl
    kept false e rest = ap (λ c. is_at q o.op || c) rest ∙ apart (is_at q op) refl (is_at q o.op) refl
      where
        apart : (a : Bool) → is_at q op ≡ a → (b : Bool) → is_at q o.op ≡ b → (b || (not a && any_at q os)) ≡ (not a && (b || any_at q os))
        apart true f true h = let x : q ≡ op = at_path q op f in let y : q ≡ o.op = at_path q o.op h in let z : (o.op == op) ≡ true = grind arith in cc
        apart true f false h = refl
        apart false f b h = refl

any_at-updated : (q op : ℕ) (txt : List ℕ) (os : List Operation) → any_at q (map (updated op txt) os) ≡ any_at q os
any_at-updated q op txt [] = refl
any_at-updated q op txt (o ∷ os) = ap (λ c. is_at q o.op || c) (any_at-updated q op txt os)

module _ (f : Operation → List Answer) (before : List Operation) where
  -- the sets of the operations before a call, and those of the operations after it with what they had before
  abbrev pub had : AnswerSets
  had = sets_of number (λ o. set_of (f o)) before

  abbrev pub kept_for : List Operation → AnswerSets
  kept_for after = sets_of number (λ o. set_of (answers_at f o.op before)) after

  abbrev pub set_at : ℕ → AnswerSet
  set_at q = set_of (answers_at f q before)

  get-had : (q : ℕ) → fin.get had q ≡ cond (any_at q before) (Some (set_at q)) None
  get-had q = get-sets_of number (λ o. set_of (f o)) before q ∙ found-answers f before q

  get-kept_for : (after : List Operation) (q : ℕ) → fin.get (kept_for after) q ≡ cond (any_at q after) (Some (set_at q)) None
  get-kept_for after q = get-sets_of number (λ o. set_at o.op) after q ∙ found-number set_at after q

  -- the same operations
  kept_alike : (after : List Operation) → ((q : ℕ) → any_at q after ≡ any_at q before) → had ≡ kept_for after
  kept_alike after alike = same_sets had (kept_for after) (λ q. get-had q ∙ ap (λ b. cond b (Some (set_at q)) None) (sym (alike q)) ∙ sym (get-kept_for after q))

  -- an operation that is new has no answers
  started : (o : Operation) → find (has_op o.op) before ≡ None → fin.insert had o.op set.empty ≡ kept_for (insert_by by_op o before)
  started o new = same_sets (fin.insert had o.op set.empty) (kept_for (insert_by by_op o before)) (λ q.
      get-insert had o.op set.empty q ∙ ap (λ g. cond (is_at q o.op) (Some set.empty) g) (get-had q) ∙ chosen q (is_at q o.op) refl
      ∙ ap (λ b. cond b (Some (set_at q)) None) (sym (any_at-insert_by q o before)) ∙ sym (get-kept_for (insert_by by_op o before) q))
    where
      chosen : (q : ℕ) (b : Bool) → is_at q o.op ≡ b → cond b (Some set.empty) (cond (any_at q before) (Some (set_at q)) None) ≡ cond (b || any_at q before) (Some (set_at q)) None
      chosen q true e = ap (λ g. Some (set_of (option_map_or f g []))) (sym new) ∙ ap (λ n. Some (set_at n)) (sym (at_path q o.op e))
      chosen q false e = refl

  -- an operation that is stopped goes with its answers
  stopped : (op : ℕ) → fin.remove had op ≡ kept_for (filter (λ o. not (has_op op o)) before)
  stopped op = same_sets (fin.remove had op) (kept_for (filter (λ o. not (has_op op o)) before)) (λ q.
      fin.get-remove nat_cmp_total had op q ∙ ap (λ g. cond (is_at q op) None g) (get-had q) ∙ chosen (is_at q op) (any_at q before) (set_at q)
      ∙ ap (λ b. cond b (Some (set_at q)) None) (sym (any_at-filter q op before)) ∙ sym (get-kept_for (filter (λ o. not (has_op op o)) before) q))
    where
      chosen : (b c : Bool) (s : AnswerSet) → cond b None (cond c (Some s) None) ≡ cond (not b && c) (Some s) None
      chosen true c s = refl
      chosen false c s = refl

  -- a call of the session that was answered with code 0
  accepted : (session op : ℕ) (code : ℤ) → (r : Request) → int_eq code no_error ≡ true → (is_start r ≡ true → find (has_op op) before ≡ None) →
      replay_from (Some had) (Reply op (verb_of r) code ∷ []) ≡ Some (kept_for (after_request session op r before))
  accepted session op code (request.Query kind name) ok new = rw ok (ap Some (started (record { session = session; op = op; request = request.Query kind name }) (new refl)))
  accepted session op code (request.Browse regtype) ok new = rw ok (ap Some (started (record { session = session; op = op; request = request.Browse regtype }) (new refl)))
  accepted session op code (request.Resolve label regtype) ok new = rw ok (ap Some (started (record { session = session; op = op; request = request.Resolve label regtype }) (new refl)))
  accepted session op code (request.Address families name) ok new = rw ok (ap Some (started (record { session = session; op = op; request = request.Address families name }) (new refl)))
  accepted session op code (request.Register label regtype port norename txt) ok new = rw ok (ap Some (started (record { session = session; op = op; request = request.Register label regtype port norename txt }) (new refl)))
  accepted session op code (request.Update txt) ok new = ap Some (kept_alike (map (updated op txt) before) (λ q. any_at-updated q op txt before))
  accepted session op code request.Stop ok new = rw ok (ap Some (stopped op))

  -- one that was refused
  refused : (op : ℕ) (code : ℤ) → (r : Request) → int_eq code no_error ≡ false → replay_from (Some had) (Reply op (verb_of r) code ∷ []) ≡ Some had
  refused op code (request.Query kind name) bad = rw bad refl
  refused op code (request.Browse regtype) bad = rw bad refl
  refused op code (request.Resolve label regtype) bad = rw bad refl
  refused op code (request.Address families name) bad = rw bad refl
  refused op code (request.Register label regtype port norename txt) bad = rw bad refl
  refused op code (request.Update txt) bad = refl
  refused op code request.Stop bad = rw bad refl

  alike : had ≡ kept_for before
  alike = kept_alike before (λ q. refl)

  -- the reply to a call leads from the operations before it to those after it
  pub replied : (session : ℕ) (e : Event) (o : Outcome) →
      ((op : ℕ) (r : Request) (code : ℤ) → e ≡ event.Call session op r → o ≡ outcome.Code code → int_eq code no_error ≡ true → is_start r ≡ true → find (has_op op) before ≡ None) →
      replay_from (Some had) (option_to_list (reply_of session e o)) ≡ Some (kept_for (after_call session (accepted_call e o) before))
  replied session (event.Call s op r) (outcome.Code code) new = of_session (s == session) refl (int_eq code no_error) refl
    where
      of_session : (b : Bool) → (s == session) ≡ b → (z : Bool) → int_eq code no_error ≡ z →
          replay_from (Some had) (option_to_list (reply_of session (event.Call s op r) (outcome.Code code))) ≡ Some (kept_for (after_call session (accepted_call (event.Call s op r) (outcome.Code code)) before))
      of_session true e true z = let here : s ≡ session = grind arith in
          rw (z, e) (accepted session op code r z (new op r code (ap (λ n. event.Call n op r) here) refl z))
      of_session true e false z = rw (z, e) (refused op code r z ∙ ap Some alike)
      of_session false e true z = rw (z, e) (ap Some alike)
      of_session false e false z = rw (z, e) (ap Some alike)
  replied session (event.Call s op r) outcome.Done new = ap Some alike
  replied session (event.Call s op r) (outcome.Opened n) new = ap Some alike
  replied session (event.Call s op r) outcome.Full new = ap Some alike
  replied session (event.Call s op r) outcome.Ended new = ap Some alike
  replied session (event.Call s op r) outcome.Closed new = ap Some alike
  replied session (event.Call s op r) outcome.Cut new = ap Some alike
  replied session (event.Call s op r) (outcome.Items items) new = ap Some alike
  replied session (event.Call s op r) outcome.Empty new = ap Some alike
  replied session (event.Boot config) o new = ap Some alike
  replied session event.Attach o new = ap Some alike
  replied session (event.Detach s) o new = ap Some alike
  replied session (event.Hear from bytes) o new = ap Some alike
  replied session event.Tick o new = ap Some alike
  replied session (event.Take s max) o new = ap Some alike
