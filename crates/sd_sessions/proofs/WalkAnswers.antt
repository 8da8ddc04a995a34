-- The answers of an operation before and after, by the walk of its name, or by what is told of it as a registration.
use Rattle.std.proofs.Common.{◌≡◌, ℕ, ◌==◌, Bool, true, false, cond, not, ◌||◌, List, [], ◌∷◌, ◌++◌, map, filter, take, Option, Some, None, refl, ap, subst, ◌∙◌, sym, arith, true≢false}
use Rattle.std.specs.List.{find, list_any, flat_map, AllByRecursion}
use Rattle.std.specs.Option.{is_some, option_map_or, option_to_list}
use Rattle.std.proofs.lemmas.Bool.{or_left, or_right, and_parts}
use Rattle.std.proofs.lemmas.List.Elements.{filter-append}
use Rattle.std.proofs.lemmas.Map.Text.{is_eq-slice_cmp}
use Rattle.std.proofs.lemmas.Slice.Eq.{bytes_eq-Decides}
use Rattle.dns_name.specs.Names.{folded_eq}
use Rattle.lists.specs.Lists.{without}
use Rattle.dns_name.proofs.Folding.{folded_eq-equivalence}
use Rattle.dns_record.specs.declared.record.Key.{Key}
use Rattle.dns_record.specs.declared.record.Rr.{Rr}
use Rattle.sd_call.specs.declared.answer.Answer.{Answer}
use Rattle.sd_call.specs.declared.item.Item.{Item}
use Rattle.sd_call.specs.declared.item.Item.TheVariants.{Add, Remove}
use Rattle.sd_call.specs.declared.request.Request.{Request}
use Rattle.sd_call.specs.Answers.{answer_bytes, answer_cmp, answer_eq}
use Rattle.sd_call.specs.Requests.{is_register}
use Rattle.sd_answer.specs.Known.{rrs_of}
use Rattle.sd_answer.proofs.Members.{of_its_name, nothing_unasked}
use Rattle.mdns_history.specs.declared.held.Held.{Held}
use Rattle.mdns_history.specs.declared.operation.Operation.{Operation}
use Rattle.mdns_history.specs.Sessions.{has_op, is_number}
use Rattle.mdns_history.specs.Questions.{keys_of}
use Rattle.mdns_history.specs.Answers.{answers_over}
use Rattle.mdns_cache.specs.Lifetimes.{held_of}
use Rattle.mdns_happened.specs.declared.around.Around.{Around}
use Rattle.mdns_happened.specs.declared.around.Registered.{Registered}
use Rattle.mdns_happened.specs.declared.walk.Walk.{Walk}
use Rattle.mdns_happened.specs.Registrations.{is_of, is_told, registered_in, IsRegistered}
use Rattle.mdns_happened.specs.Told.{Told}
use Rattle.mdns_happened.specs.Walks.{is_for, walk_of, is_walked, own_of, IsWalk, IsOwnWalk}
use Rattle.sd_sessions.specs.Answered.{Answering, View, known, answered}
use Rattle.sd_sessions.specs.Changes.{had, lost, gained, items_between}
use Rattle.sd_operations.specs.Codes.{is_running}
use Rattle.sd_sessions.specs.Settling.{left_to, brought_told}
use Rattle.sd_sessions.specs.Sessions.{Session}
use Rattle.sd_sessions.specs.Walked.{walk_for, IsOwnAlike, IsBeside, IsCarried, IsSeenOf}
use Rattle.sd_sessions.specs.Concerned.{concerned, IsApart, IsCovered, IsUnmoved}
use Rattle.sd_sessions.proofs.Covered.{all-concerned}
use Rattle.sd_sessions.proofs.Nexts.{filter_map_swap}

owner_alike : (one other owner : List (List ℕ)) → folded_eq one other ≡ true → folded_eq owner one ≡ folded_eq owner other
owner_alike one other owner same = folded_eq-equivalence.symm owner one ∙ folded_eq-equivalence.congr one other owner same ∙ folded_eq-equivalence.symm other owner

-- names that are the same, case aside, have the same records
held-alike : (one other : List (List ℕ)) → folded_eq one other ≡ true → (held : List Held) → held_of one held ≡ held_of other held
held-alike one other same [] = refl
held-alike one other same (h ∷ held) = λ i. cond (owner_alike one other h.rr.owner same i) (h ∷ held-alike one other same held i) (held-alike one other same held i)

own-alike : (one other : List (List ℕ)) → folded_eq one other ≡ true → (own : List Rr) → own_of one own ≡ own_of other own
own-alike one other same [] = refl
own-alike one other same (rr ∷ own) = λ i. cond (owner_alike one other rr.owner same i) (rr ∷ own-alike one other same own i) (own-alike one other same own i)

-- what holds of each element holds of one that is found, and it passes the test
module _ {X : Type 0} (P : X → Type 0) (test : X → Bool) where
  abbrev IsFound : Option X → Type 0
  IsFound None = Unit {0}
  IsFound (Some x) = P x × (test x ≡ true)

  all_found : (xs : List X) (x : X) → AllByRecursion P xs → find test xs ≡ Some x → P x × (test x ≡ true)
  all_found [] x all found = absurd (cc)
  all_found (y ∷ ys) x all found = of (test y) refl found (all_found ys x all.1)
    where
      of : (b : Bool) → test y ≡ b → cond b (Some y) (find test ys) ≡ Some x → (find test ys ≡ Some x → P x × (test x ≡ true)) → P x × (test x ≡ true)
      of true e f rest = subst IsFound f (all.0, e)
      of false e f rest = rest f

-- where none is found none is there
none_found : {X : Type 0} (test : X → Bool) (xs : List X) → find test xs ≡ None → list_any test xs ≡ false
none_found test [] none = refl
none_found {X} test (x ∷ xs) none = of (test x) none (none_found test xs)
  where
    of : (b : Bool) → cond b (Some x) (find test xs) ≡ None → (find test xs ≡ None → list_any test xs ≡ false) → (b || list_any test xs) ≡ false
    of true f rest = absurd (cc)
    of false f rest = rest f

-- a name without a walk was not walked
pub unwalked : (name : List (List ℕ)) (walks : List Walk) → walk_of name walks ≡ None → is_walked walks name ≡ false
unwalked name walks none = none_found (is_for name) walks none

-- the records of a name that are live or own
abbrev named : List (List ℕ) → View → List Rr
named name view = rrs_of (held_of name view.held) ++ own_of name view.own

-- they give the answers of a request that asks for the name
of_name : (r : Request) (question : Key) (more : List Key) (view : View) → keys_of r ≡ question ∷ more → answers_over r (named question.name view) ≡ answers_over r (known view)
of_name r question more view asked = ap (answers_over r) (sym named_is) ∙ of_its_name r question more (known view) asked
  where
    named_is : filter (λ (rr : Rr). folded_eq rr.owner question.name) (known view) ≡ named question.name view
    named_is =
        filter-append (λ (rr : Rr). folded_eq rr.owner question.name) (rrs_of view.held) view.own
        ∙ ap (λ (l : List Rr). l ++ own_of question.name view.own) (filter_map_swap (λ (rr : Rr). folded_eq rr.owner question.name) (λ (one : Held). one.rr) view.held)

module _ (before after : View) (around : Around) (operations : List Operation) (o : Operation) (seen : IsSeenOf before after around operations o) where
  -- what it had where it was there
  had-there : (view : View) → is_running o.op operations ≡ true → had (answered view) operations o.op ≡ answered view o
  had-there view runs = of (find (has_op o.op) operations) seen.carried runs
    where
      of : (found : Option Operation) → IsCarried before after around found o → is_some found ≡ true → option_map_or (answered view) found [] ≡ answered view o
      of None new e = absurd (cc)
      of (Some one) same e = same.0 view

  had-none : (view : View) → is_running o.op operations ≡ false → had (answered view) operations o.op ≡ []
  had-none view runs = of (find (has_op o.op) operations) runs
    where
      of : (found : Option Operation) → is_some found ≡ false → option_map_or (answered view) found [] ≡ []
      of None e = refl
      of (Some one) e = absurd (cc)

  -- ---- of an operation that is no registration
  module _ (other : is_register o.request ≡ false) where
    over_known : (view : View) → answered view o ≡ answers_over o.request (known view)
    over_known view = ap (λ (b : Bool). cond b (view.registered o.session o.op) (answers_over o.request (known view))) other

    -- a request without questions has no answers
    same-unasked : keys_of o.request ≡ [] → had (answered before) operations o.op ≡ answered after o
    same-unasked none = of (is_running o.op operations) refl ∙ sym (over_known after ∙ nothing_unasked o.request (known after) none)
      where
        of : (b : Bool) → is_running o.op operations ≡ b → had (answered before) operations o.op ≡ []
        of true e = had-there before e ∙ over_known before ∙ nothing_unasked o.request (known before) none
        of false e = had-none before e

    module _ (question : Key) (more : List Key) (asked : keys_of o.request ≡ question ∷ more) where
      -- an operation whose name was not walked has the answers that it had
      same-unwalked : walk_of question.name around.walks.now ≡ None → had (answered before) operations o.op ≡ answered after o
      same-unwalked none = of (find (has_op o.op) operations) seen.carried
        where
          not_walked : is_walked around.walks.now question.name ≡ false
          not_walked = unwalked question.name around.walks.now none

          held_stays : AllByRecursion (λ (key : Key). is_walked around.walks.now key.name ≡ false → held_of key.name after.held ≡ held_of key.name before.held) (question ∷ more)
          held_stays = subst (AllByRecursion (λ (key : Key). is_walked around.walks.now key.name ≡ false → held_of key.name after.held ≡ held_of key.name before.held)) asked seen.known

          own_alike : IsBeside before after around o → AllByRecursion (λ (key : Key). IsOwnAlike before after around.walks.now key.name) (question ∷ more)
          own_alike beside = subst (AllByRecursion (λ (key : Key). IsOwnAlike before after around.walks.now key.name)) asked beside.own

          of : (found : Option Operation) → IsCarried before after around found o → option_map_or (answered before) found [] ≡ answered after o
          of None new =
              let first : AllByRecursion (λ (key : Key). is_walked around.walks.now key.name ≡ true) (question ∷ more) = subst (AllByRecursion (λ (key : Key). is_walked around.walks.now key.name ≡ true)) asked new.walked in
              absurd (true≢false (sym first.0 ∙ not_walked))
          of (Some one) same =
              let held : held_of question.name after.held ≡ held_of question.name before.held = held_stays.0 not_walked in
              same.0 before ∙ over_known before ∙ sym (of_name o.request question more before asked)
              ∙ sym ((own_alike same.1).0 not_walked o.request)
              ∙ sym (λ i. answers_over o.request (rrs_of (held i) ++ own_of question.name after.own))
              ∙ of_name o.request question more after asked ∙ sym (over_known after)

      module _ (walk : Walk) (found : walk_of question.name around.walks.now ≡ Some walk) where
        walk_is : IsWalk before.held after.held walk × (is_for question.name walk ≡ true)
        walk_is = all_found (IsWalk before.held after.held) (is_for question.name) around.walks.now walk seen.walked found

        own_is : IsOwnWalk before.own after.own walk × (is_for question.name walk ≡ true)
        own_is = all_found (IsOwnWalk before.own after.own) (is_for question.name) around.walks.now walk seen.own found

        has-walked : answers_over o.request (rrs_of walk.later.items ++ walk.own.later) ≡ answered after o
        has-walked =
            let held : walk.later.items ≡ held_of question.name after.held = (walk_is.0).later ∙ held-alike walk.name question.name walk_is.1 after.held in
            let own : walk.own.later ≡ own_of question.name after.own = (own_is.0).later ∙ own-alike walk.name question.name own_is.1 after.own in
            (λ i. answers_over o.request (rrs_of (held i) ++ own i)) ∙ of_name o.request question more after asked ∙ sym (over_known after)

        had-walked : is_running o.op operations ≡ true → answers_over o.request (rrs_of walk.earlier.items ++ walk.own.earlier) ≡ had (answered before) operations o.op
        had-walked runs =
            let held : walk.earlier.items ≡ held_of question.name before.held = (walk_is.0).earlier ∙ held-alike walk.name question.name walk_is.1 before.held in
            let own : walk.own.earlier ≡ own_of question.name before.own = (own_is.0).earlier ∙ own-alike walk.name question.name own_is.1 before.own in
            (λ i. answers_over o.request (rrs_of (held i) ++ own i)) ∙ of_name o.request question more before asked ∙ sym (over_known before) ∙ sym (had-there before runs)

        new-walked : is_running o.op operations ≡ false → [] ≡ had (answered before) operations o.op
        new-walked runs = sym (had-none before runs)

    -- by the walk that is found for the questions, or not
    pub same-apart : walk_for (keys_of o.request) around.walks.now ≡ None → had (answered before) operations o.op ≡ answered after o
    same-apart none = of (keys_of o.request) refl none
      where
        of : (keys : List Key) → keys_of o.request ≡ keys → walk_for keys around.walks.now ≡ None → had (answered before) operations o.op ≡ answered after o
        of [] e f = same-unasked e
        of (question ∷ more) e f = same-unwalked question more e f

    module _ (walk : Walk) (found : walk_for (keys_of o.request) around.walks.now ≡ Some walk) where
      pub has-found : answers_over o.request (rrs_of walk.later.items ++ walk.own.later) ≡ answered after o
      has-found = of (keys_of o.request) refl found
        where
          of : (keys : List Key) → keys_of o.request ≡ keys → walk_for keys around.walks.now ≡ Some walk → answers_over o.request (rrs_of walk.later.items ++ walk.own.later) ≡ answered after o
          of [] e f = absurd (cc)
          of (question ∷ more) e f = has-walked question more e walk f

      pub had-found : cond (is_running o.op operations) (answers_over o.request (rrs_of walk.earlier.items ++ walk.own.earlier)) [] ≡ had (answered before) operations o.op
      had-found = of (keys_of o.request) refl found
        where
          at : (question : Key) (more : List Key) → keys_of o.request ≡ question ∷ more → walk_of question.name around.walks.now ≡ Some walk → (b : Bool) → is_running o.op operations ≡ b →
              cond b (answers_over o.request (rrs_of walk.earlier.items ++ walk.own.earlier)) [] ≡ had (answered before) operations o.op
          at question more e f true runs = had-walked question more e walk f runs
          at question more e f false runs = new-walked question more e walk f runs

          of : (keys : List Key) → keys_of o.request ≡ keys → walk_for keys around.walks.now ≡ Some walk →
              cond (is_running o.op operations) (answers_over o.request (rrs_of walk.earlier.items ++ walk.own.earlier)) [] ≡ had (answered before) operations o.op
          of [] e f = absurd (cc)
          of (question ∷ more) e f = at question more e f (is_running o.op operations) refl

    -- an operation that was there has the answers that it had where its name was not walked, or was and its records give the same
    pub same-unmoved : IsUnmoved (walk_for (keys_of o.request) around.walks.now) → is_running o.op operations ≡ true → had (answered before) operations o.op ≡ answered after o
    same-unmoved unmoved runs = of (walk_for (keys_of o.request) around.walks.now) refl unmoved
      where
        of : (found : Option Walk) → walk_for (keys_of o.request) around.walks.now ≡ found → IsUnmoved found → had (answered before) operations o.op ≡ answered after o
        of None e still = same-apart e
        of (Some walk) e still =
            sym (had-found walk e)
            ∙ ap (λ (b : Bool). cond b (answers_over o.request (rrs_of walk.earlier.items ++ walk.own.earlier)) []) runs
            ∙ still o.request ∙ has-found walk e

  -- ---- of a registration
  module _ (registers : is_register o.request ≡ true) where
    its_own : (view : View) → answered view o ≡ view.registered o.session o.op
    its_own view = ap (λ (b : Bool). cond b (view.registered o.session o.op) (answers_over o.request (known view))) registers

    -- one of which nothing is told has the answers that it had
    pub same-untold : registered_in around.registered.now o.session o.op ≡ None → had (answered before) operations o.op ≡ answered after o
    same-untold none = of (find (has_op o.op) operations) seen.carried
      where
        untold : is_told around.registered.now o.session o.op ≡ false
        untold = none_found (is_of o.session o.op) around.registered.now none

        of : (found : Option Operation) → IsCarried before after around found o → option_map_or (answered before) found [] ≡ answered after o
        of None new = sym (its_own after ∙ new.begun registers untold)
        of (Some one) same = same.0 before ∙ its_own before ∙ sym (same.1.registered registers untold) ∙ sym (its_own after)

    module _ (one : Registered) (found : registered_in around.registered.now o.session o.op ≡ Some one) where
      told_is : IsRegistered before.registered after.registered one × (is_of o.session o.op one ≡ true)
      told_is = all_found (IsRegistered before.registered after.registered) (is_of o.session o.op) around.registered.now one seen.registered found

      session_is : one.session ≡ o.session
      session_is = let both = and_parts (one.session == o.session) (one.op == o.op) told_is.1 in let first : (one.session == o.session) ≡ true = both.0 in grind arith

      op_is : one.op ≡ o.op
      op_is = let both = and_parts (one.session == o.session) (one.op == o.op) told_is.1 in let second : (one.op == o.op) ≡ true = both.1 in grind arith

      pub has-told : option_to_list one.has ≡ answered after o
      has-told = (told_is.0).has ∙ (λ i. after.registered (session_is i) (op_is i)) ∙ sym (its_own after)

      pub had-told : cond (is_running o.op operations) (option_to_list one.had) [] ≡ had (answered before) operations o.op
      had-told = of (is_running o.op operations) refl
        where
          of : (b : Bool) → is_running o.op operations ≡ b → cond b (option_to_list one.had) [] ≡ had (answered before) operations o.op
          of true runs = (told_is.0).had ∙ (λ i. before.registered (session_is i) (op_is i)) ∙ sym (its_own before) ∙ sym (had-there before runs)
          of false runs = sym (had-none before runs)

same_answer : (answer : Answer) → answer_eq answer answer ≡ true
unfolding answer_eq answer_cmp
same_answer answer = is_eq-slice_cmp (answer_bytes answer) (answer_bytes answer) ∙ (bytes_eq-Decides (answer_bytes answer) (answer_bytes answer)).1 refl

-- a list has nothing that it hasn't
none_without : (xs ys : List Answer) → ((test : Answer → Bool) → list_any test xs ≡ true → list_any test ys ≡ true) → without answer_eq xs ys ≡ []
none_without [] ys within = refl
none_without (x ∷ xs) ys within =
    ap (λ (b : Bool). cond (not b) (x ∷ without answer_eq xs ys) (without answer_eq xs ys)) (within (answer_eq x) (or_left (answer_eq x x) (list_any (answer_eq x) xs) (same_answer x)))
    ∙ none_without xs ys (λ test e. within test (or_right (test x) (list_any test xs) e))

pub without-same : (one other : List Answer) → one ≡ other → without answer_eq one other ≡ []
without-same one other same = ap (λ (l : List Answer). without answer_eq one l) (sym same) ∙ none_without one one (λ test e. e)

-- An operation that has the answers that it had loses and gains nothing.
pub none-lost : (before : List Operation) (earlier later : Answering) (o : Operation) → had earlier before o.op ≡ later o → lost earlier later before o ≡ []
none-lost before earlier later o same = ap (map (λ answer. Remove o.op answer)) (without-same (had earlier before o.op) (later o) same)

pub none-gained : (before : List Operation) (earlier later : Answering) (o : Operation) → had earlier before o.op ≡ later o → gained earlier later before o ≡ []
none-gained before earlier later o same = ap (map (λ answer. Add o.op answer)) (without-same (later o) (had earlier before o.op) (sym same))

module _ (before after : View) (around : Around) (operations : List Operation) where
  -- An operation that was there and that an event doesn't concern has the answers that it had.
  pub same-met : (o : Operation) → IsSeenOf before after around operations o → IsApart around o × (is_running o.op operations ≡ true) → had (answered before) operations o.op ≡ answered after o
  same-met o seen apart = of (is_register o.request) refl
    where
      of : (b : Bool) → is_register o.request ≡ b → had (answered before) operations o.op ≡ answered after o
      of true e = same-untold before after around operations o seen e (apart.0.told e)
      of false e = same-unmoved before after around operations o seen e (apart.0.walked e) apart.1

  -- Where no operation is concerned nothing is lost and gained.
  none_lost : (os : List Operation) → AllByRecursion (IsSeenOf before after around operations) os → AllByRecursion (IsCovered [] around operations) os →
      [] ≡ flat_map (lost (answered before) (answered after) operations) os
  none_lost [] seen covered = refl
  none_lost (o ∷ os) seen covered =
      none_lost os seen.1 covered.1
      ∙ ap (λ (l : List Item). l ++ flat_map (lost (answered before) (answered after) operations) os) (sym (none-lost operations (answered before) (answered after) o (same-met o seen.0 (covered.0 refl))))

  none_gained : (os : List Operation) → AllByRecursion (IsSeenOf before after around operations) os → AllByRecursion (IsCovered [] around operations) os →
      [] ≡ flat_map (gained (answered before) (answered after) operations) os
  none_gained [] seen covered = refl
  none_gained (o ∷ os) seen covered =
      none_gained os seen.1 covered.1
      ∙ ap (λ (l : List Item). l ++ flat_map (gained (answered before) (answered after) operations) os) (sym (none-gained operations (answered before) (answered after) o (same-met o seen.0 (covered.0 refl))))

  module _ (os : List Operation) (seen : AllByRecursion (IsSeenOf before after around operations) os) where
    lost-concerned : (numbers : List ℕ) → AllByRecursion (IsCovered numbers around operations) os →
        flat_map (lost (answered before) (answered after) operations) (concerned numbers os) ≡ flat_map (lost (answered before) (answered after) operations) os
    lost-concerned [] covered = none_lost os seen covered
    lost-concerned (n ∷ numbers) covered = refl

    gained-concerned : (numbers : List ℕ) → AllByRecursion (IsCovered numbers around operations) os →
        flat_map (gained (answered before) (answered after) operations) (concerned numbers os) ≡ flat_map (gained (answered before) (answered after) operations) os
    gained-concerned [] covered = none_gained os seen covered
    gained-concerned (n ∷ numbers) covered = refl

-- What is put for the operations that are concerned is what a session is brought.
pub items-assembled : (before after : View) (around : Around) (numbers : List ℕ) (operations os ops : List Operation) (n : ℕ) (reply : Option Item) (start brought adds items : List Item) →
    ops ≡ concerned numbers os → start ≡ option_to_list reply → take n ops ≡ ops → items ≡ brought ++ adds → AllByRecursion (IsCovered numbers around operations) os →
    AllByRecursion (IsSeenOf before after around operations) os →
    (AllByRecursion (IsSeenOf before after around operations) ops → brought ≡ start ++ flat_map (lost (answered before) (answered after) operations) (take n ops)) →
    (AllByRecursion (IsSeenOf before after around operations) ops → adds ≡ flat_map (gained (answered before) (answered after) operations) (take n ops)) →
    items ≡ items_between (answered before) (answered after) reply operations os
unfolding items_between
items-assembled before after around numbers operations os ops n reply start brought adds items are begins whole joined covered seen removes gains =
    joined ∙ (λ i. removes concerned_seen i ++ gains concerned_seen i)
    ∙ (λ i. (begins i ++ flat_map (lost (answered before) (answered after) operations) ((whole ∙ are) i)) ++ flat_map (gained (answered before) (answered after) operations) ((whole ∙ are) i))
    ∙ (λ i. (option_to_list reply ++ lost-concerned before after around operations os seen numbers covered i) ++ gained-concerned before after around operations os seen numbers covered i)
  where
    concerned_seen : AllByRecursion (IsSeenOf before after around operations) ops
    concerned_seen = subst (AllByRecursion (IsSeenOf before after around operations)) (sym are) (all-concerned (IsSeenOf before after around operations) numbers os seen)

-- a session that isn't cut or ended is brought what its operations change
pub brought-uncut : (told : Told) (earlier later : Answering) (session : Session) (items : List Item) → (session.cut || is_number session.number told.detached) ≡ false →
    items ≡ items_between earlier later (told.reply session.number) session.operations (left_to told.call session.number session.operations) →
    items ≡ brought_told told earlier later session
brought-uncut told earlier later session items uncut same =
    same ∙ sym (ap (λ (b : Bool). cond b [] (items_between earlier later (told.reply session.number) session.operations (left_to told.call session.number session.operations))) uncut)
