-- The operations that an event leaves, where it concerns none but of some numbers.
use Rattle.std.proofs.Common.{◌≡◌, ℕ, ◌==◌, inl, inr, Bool, true, false, cond, not, ◌||◌, List, [], ◌∷◌, ◌++◌, Option, Some, None, IsPermutation, refl, ap, subst, ◌∙◌, sym, true≢false, arith}
use Rattle.std.specs.List.{find, list_any, AllByRecursion}
use Rattle.std.specs.Option.{is_some}
use Rattle.std.specs.Str.{bytes_eq}
use Rattle.std.proofs.lemmas.Bool.{and_parts, or_left, or_right, eqb-true}
use Rattle.std.proofs.lemmas.List.Folds.{list_any-append}
use Rattle.std.proofs.lemmas.List.Sorted.{list_any-IsPermutation}
use Rattle.std.proofs.lemmas.Slice.Eq.{bytes_eq-Decides}
use Rattle.dns_record.specs.declared.record.Key.{Key}
use Rattle.sd_call.specs.declared.request.Request.{Request}
use Rattle.sd_call.specs.declared.request.Request.TheVariants as request
use Rattle.mdns_history.specs.declared.operation.Operation.{Operation}
use Rattle.mdns_history.specs.Questions.{keys_of}
use Rattle.mdns_history.specs.Sessions.{Accepted, after_request, has_op, updated}
use Rattle.mdns_cache.proofs.ListLemmas.{each-filter}
use Rattle.mdns_happened.specs.declared.around.Around.{Around}
use Rattle.mdns_happened.specs.declared.around.Registered.{Registered}
use Rattle.mdns_happened.specs.declared.walk.Walk.{Walk}
use Rattle.mdns_happened.specs.Registrations.{is_of, registered_in}
use Rattle.mdns_happened.specs.Walks.{is_for, walk_of}
use Rattle.by_name.specs.At.{At, owner_of}
use Rattle.sd_index.specs.declared.asker.Asker.{Asker}
use Rattle.sd_index.specs.Asked.{asker_eq, askers_of, asks}
use Rattle.sd_operations.specs.Codes.{is_running}
use Rattle.sd_sessions.specs.Sessions.{Session}
use Rattle.sd_sessions.specs.Settling.{own_call}
use Rattle.sd_sessions.specs.Kept.{HaveOwn, AreOwn}
use Rattle.sd_sessions.specs.Walked.{walk_for}
use Rattle.sd_sessions.specs.Indexed.{asker_for, AreIndexed}
use Rattle.sd_sessions.specs.Concerned.{asker_at, concerned, is_one_of, AreMore, AreToldMet, IsApart, IsCallMet, IsCovered, IsMet, IsOwnCovered, IsStill, IsUnmoved, IsWalkMet}
use Rattle.sd_operations.specs.Operations.{has_one}
use Rattle.sd_sessions.proofs.Asking.{holds-found, passes-found}
use Rattle.sd_sessions.proofs.IndexNamed.{IsFiled, all-filed, owner-alike}
use Rattle.sd_sessions.proofs.Seen.{all-insert, all-map, updated_asks, updated_registers}

-- ---- operations put behind others

module _ (old now filed : List Asker) (put : IsPermutation now (old ++ filed)) (one : Asker) where
  joined : is_one_of now one ≡ (is_one_of old one || is_one_of filed one)
  joined = list_any-IsPermutation (asker_eq one) now (old ++ filed) put ∙ list_any-append (asker_eq one) old filed

  pub stays-put : is_one_of old one ≡ true → is_one_of now one ≡ true
  stays-put h = joined ∙ or_left (is_one_of old one) (is_one_of filed one) h

  pub is-put : is_one_of filed one ≡ true → is_one_of now one ≡ true
  is-put h = joined ∙ or_right (is_one_of old one) (is_one_of filed one) h

-- a walk that is met stays so beside more
pub met-more : (entries : List (At × Asker)) (some more : List Asker) → AreMore some more → (walk : Walk) → IsWalkMet entries some walk → IsWalkMet entries more walk
met-more entries some more within walk (inl still) = inl still
met-more entries some more within walk (inr met) = inr (λ one h. within one (met one h))

-- and so do several
pub walks-more : (entries : List (At × Asker)) (some more : List Asker) → AreMore some more → (walks : List Walk) → AllByRecursion (IsWalkMet entries some) walks →
    AllByRecursion (IsWalkMet entries more) walks
walks-more entries some more within [] met = tt
walks-more entries some more within (walk ∷ walks) met = (met-more entries some more within walk met.0, walks-more entries some more within walks met.1)

-- those of whom something is told stay among more
pub told-more : (some more : List Asker) → AreMore some more → (told : List Registered) → AreToldMet some told → AreToldMet more told
told-more some more within [] met = tt
told-more some more within (one ∷ told) met = (within (asker_at one.session one.op) met.0, told-more some more within told met.1)

-- ---- what an index has, and what is told, leaves the others apart

module _ (entries : List (At × Asker)) (concerned : List Asker) (around : Around)
    (walked : AllByRecursion (IsWalkMet entries concerned) around.walks.now) (told : AreToldMet concerned around.registered.now) where
  module _ (o : Operation) (filed : IsFiled entries o) (none : is_one_of concerned (asker_for o) ≡ false) where
    unmoved : (question : Key) (more : List Key) → keys_of o.request ≡ question ∷ more → (found : Option Walk) → walk_of question.name around.walks.now ≡ found → IsUnmoved found
    unmoved question more asked None e = tt
    unmoved question more asked (Some walk) e = of (holds-found (IsWalkMet entries concerned) (is_for question.name) around.walks.now walk walked e)
      where
        alike : owner_of walk.name ≡ owner_of question.name
        alike = owner-alike walk.name question.name (passes-found (is_for question.name) around.walks.now walk e)

        first : list_any (λ (key : Key). bytes_eq (owner_of question.name) (owner_of key.name)) (question ∷ more) ≡ true
        first = or_left (bytes_eq (owner_of question.name) (owner_of question.name)) (list_any (λ (key : Key). bytes_eq (owner_of question.name) (owner_of key.name)) more)
            ((bytes_eq-Decides (owner_of question.name) (owner_of question.name)).1 refl)

        asks_it : asks (owner_of question.name) o.request ≡ true
        asks_it = ap (list_any (λ (key : Key). bytes_eq (owner_of question.name) (owner_of key.name))) asked ∙ first

        there : is_one_of (askers_of (owner_of walk.name) entries) (asker_for o) ≡ true
        there = subst (λ (owner : List ℕ). is_one_of (askers_of owner entries) (asker_for o) ≡ true) (sym alike) (filed (owner_of question.name) asks_it)

        of : IsWalkMet entries concerned walk → IsStill walk
        of (inl still) = still
        of (inr met) = absurd (true≢false (sym (met (asker_for o) there) ∙ none))

    unmoved-all : (keys : List Key) → keys_of o.request ≡ keys → IsUnmoved (walk_for keys around.walks.now)
    unmoved-all [] e = tt
    unmoved-all (question ∷ more) e = unmoved question more e (walk_of question.name around.walks.now) refl

    untold : (found : Option Registered) → registered_in around.registered.now o.session o.op ≡ found → found ≡ None
    untold None e = refl
    untold (Some one) e =
        let met : is_one_of concerned (asker_at one.session one.op) ≡ true =
        holds-found (λ (r : Registered). is_one_of concerned (asker_at r.session r.op) ≡ true) (is_of o.session o.op) around.registered.now one told e in
        let both = and_parts (one.session == o.session) (one.op == o.op) (passes-found (is_of o.session o.op) around.registered.now one e) in
        let session : one.session ≡ o.session = eqb-true one.session o.session both.0 in
        let op : one.op ≡ o.op = eqb-true one.op o.op both.1 in
        let same : is_one_of concerned (asker_for o) ≡ true = (λ i. is_one_of concerned (asker_at (sym session i) (sym op i))) ∙ met in
        absurd (true≢false (sym same ∙ none))

    apart : IsApart around o
    apart = record {
      walked = λ other. unmoved-all (keys_of o.request) refl;
      told = λ registers. untold (registered_in around.registered.now o.session o.op) refl;
    }

  operations-met : (number : ℕ) (os : List Operation) → AllByRecursion (IsFiled entries) os → AreOwn number os →
      AllByRecursion (λ (o : Operation). is_one_of concerned (asker_at number o.op) ≡ false → IsApart around o) os
  operations-met number [] filed own = tt
  operations-met number (o ∷ os) filed own = (
    λ none. apart o filed.0 (ap (λ (n : ℕ). is_one_of concerned (asker_at n o.op)) own.0 ∙ none),
    operations-met number os filed.1 own.1,
  )

  -- Of the operations that aren't among those that are found nothing was walked or told.
  pub all-met : (ss : List Session) → AreIndexed entries ss → HaveOwn ss → AllByRecursion (IsMet concerned around) ss
  all-met ss are own = of ss (all-filed entries ss are) own
    where
      of : (xs : List Session) → AllByRecursion (λ (s : Session). AllByRecursion (IsFiled entries) s.operations) xs → HaveOwn xs → AllByRecursion (IsMet concerned around) xs
      of [] filed k = tt
      of (s ∷ xs) filed k = (operations-met s.number s.operations filed.0 k.0, of xs filed.1 k.1)

-- ---- of one session

eqb-same : (n : ℕ) → (n == n) ≡ true
eqb-same n = grind arith

-- what runs runs beside one more
runs-beside : (op : ℕ) (o : Operation) (os : List Operation) → is_running op os ≡ true → is_running op (o ∷ os) ≡ true
runs-beside op o os runs = of (has_op op o)
  where
    of : (b : Bool) → is_some (cond b (Some o) (find (has_op op) os)) ≡ true
    of true = refl
    of false = runs

-- each operation of a list runs
all-running : (os : List Operation) → AllByRecursion (λ (o : Operation). is_running o.op os ≡ true) os
all-running [] = tt
all-running (o ∷ os) = (first, beside os (all-running os))
  where
    first : is_running o.op (o ∷ os) ≡ true
    first = ap (λ (b : Bool). is_some (cond b (Some o) (find (has_op o.op) os))) (eqb-same o.op)

    beside : (more : List Operation) → AllByRecursion (λ (p : Operation). is_running p.op os ≡ true) more → AllByRecursion (λ (p : Operation). is_running p.op (o ∷ os) ≡ true) more
    beside [] runs = tt
    beside (p ∷ more) runs = (runs-beside p.op o os runs.0, beside more runs.1)

module _ (askers : List Asker) (around : Around) (session : Session) (numbers : List ℕ) (are : (op : ℕ) → has_one numbers op ≡ is_one_of askers (asker_at session.number op)) where
  pub session-covered : IsMet askers around session → AllByRecursion (IsCovered numbers around session.operations) session.operations
  session-covered met = of session.operations met (all-running session.operations)
    where
      of : (os : List Operation) → AllByRecursion (λ (o : Operation). is_one_of askers (asker_at session.number o.op) ≡ false → IsApart around o) os →
          AllByRecursion (λ (o : Operation). is_running o.op session.operations ≡ true) os → AllByRecursion (IsCovered numbers around session.operations) os
      of [] h runs = tt
      of (o ∷ os) h runs = ((λ none. (h.0 (sym (are o.op) ∙ none), runs.0)), of os h.1 runs.1)

  pub call-covered : (call : Option Accepted) → IsCallMet askers call → IsOwnCovered numbers (own_call call session.number)
  call-covered None met = tt
  call-covered (Some call) met = of (call.session == session.number) refl
    where
      of : (b : Bool) → (call.session == session.number) ≡ b → IsOwnCovered numbers (cond b (Some (record { op = call.op; request = call.request })) None)
      of true e = are call.op ∙ ap (λ (n : ℕ). is_one_of askers (asker_at n call.op)) (sym (eqb-true call.session session.number e)) ∙ met
      of false e = tt

-- ---- after a call

module _ (numbers : List ℕ) (around : Around) (before : List Operation) where
  abbrev Covered : Operation → Type 0
  Covered operation = IsCovered numbers around before operation

  covered-updated : (op : ℕ) (txt : List ℕ) (o : Operation) → Covered o → Covered (updated op txt o)
  covered-updated op txt o h none =
      let apart : IsApart around o = (h none).0 in (
        record {
          walked = λ other. subst (λ (keys : List Key). IsUnmoved (walk_for keys around.walks.now)) (sym (updated_asks op txt o)) (apart.walked (sym (updated_registers op txt o) ∙ other));
          told = λ registers. apart.told (sym (updated_registers op txt o) ∙ registers);
        },
        (h none).1,
      )

  covered-insert : (o : Operation) (os : List Operation) → has_one numbers o.op ≡ true → AllByRecursion Covered os → AllByRecursion Covered (Rattle.lists.specs.Lists.insert_by Rattle.mdns_history.specs.Sessions.by_op o os)
  covered-insert o os has all = all-insert Covered o os (λ none. absurd (true≢false (sym has ∙ none))) all

  -- The operations that a call leaves are covered where it is.
  pub covered-request : (session op : ℕ) (r : Request) (os : List Operation) → has_one numbers op ≡ true → AllByRecursion Covered os → AllByRecursion Covered (after_request session op r os)
  covered-request session op (request.Query kind name) os has all = covered-insert _ os has all
  covered-request session op (request.Browse regtype) os has all = covered-insert _ os has all
  covered-request session op (request.Resolve label regtype) os has all = covered-insert _ os has all
  covered-request session op (request.Address families name) os has all = covered-insert _ os has all
  covered-request session op (request.Register label regtype port norename txt) os has all = covered-insert _ os has all
  covered-request session op (request.Update txt) os has all = all-map Covered (updated op txt) (covered-updated op txt) os all
  covered-request session op request.Stop os has all = each-filter Covered (λ o. not (has_op op o)) os all

pub all-concerned : (P : Operation → Type 0) (numbers : List ℕ) (os : List Operation) → AllByRecursion P os → AllByRecursion P (concerned numbers os)
all-concerned P [] os all = tt
all-concerned P (n ∷ numbers) os all = all
