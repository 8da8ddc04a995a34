-- A session's own call, and its operations after it, of some numbers alone.
use Rattle.std.proofs.Common.{◌≡◌, ℕ, Bool, true, false, cond, not, ◌&&◌, ltb, List, [], ◌∷◌, ◌++◌, Option, Some, refl, ap, subst, ◌∙◌, sym, arith}
use Rattle.std.specs.Prelude.{filter, nat_lt, IsTrue}
use Rattle.std.specs.List.{flat_map, list_all, AllByRecursion}
use Rattle.std.specs.Option.{option_to_list}
use Rattle.std.specs.Ordering.{is_lt}
use Rattle.lists.specs.Lists.{insert_by}
use Rattle.sd_call.specs.declared.item.Item.{Item}
use Rattle.sd_call.specs.declared.request.Request.{Request}
use Rattle.sd_call.specs.declared.request.Request.TheVariants as request
use Rattle.sd_call.specs.Requests.{well_formed}
use Rattle.mdns_history.specs.declared.operation.Operation.{Operation}
use Rattle.mdns_history.specs.Sessions.{after_request, by_op, has_op, updated}
use Rattle.mdns_cache.proofs.ListLemmas.{each-filter}
use Rattle.mdns_happened.specs.declared.around.Around.{Around}
use Rattle.sd_operations.specs.declared.call.Call.{Call}
use Rattle.sd_sessions.specs.Answered.{View, answered}
use Rattle.sd_sessions.specs.Changes.{lost, gained, items_between}
use Rattle.sd_operations.specs.Operations.{after_own, AreRising, has_one, of_numbers}
use Rattle.sd_sessions.specs.Kept.{AreWellFormed}
use Rattle.sd_sessions.specs.Walked.{IsSeenOf}
use Rattle.sd_sessions.specs.Concerned.{IsCovered}
use Rattle.sd_sessions.proofs.Nexts.{filter_map_swap}
use Rattle.sd_operations.proofs.OperationPlaces.{below-lt}
use Rattle.sd_operations.proofs.Rising.{all_filter}
use Rattle.sd_sessions.proofs.Formed.{formed-filter, formed-request}
use Rattle.sd_sessions.proofs.Covered.{covered-request}
use Rattle.sd_sessions.proofs.WalkAnswers.{same-met, none-lost, none-gained}

-- ---- a call on some of the operations

-- one that is less than all others stands before them
in_front : (o : Operation) (os : List Operation) → list_all (λ p. not (is_lt (by_op p o))) os ≡ true → insert_by by_op o os ≡ o ∷ os
in_front o [] h = refl
in_front o (p ∷ os) h = of (is_lt (by_op p o)) h
  where
    of : (b : Bool) → (not b && list_all (λ q. not (is_lt (by_op q o))) os) ≡ true → cond b (p ∷ insert_by by_op o os) (o ∷ p ∷ os) ≡ o ∷ p ∷ os
    of true h = cc
    of false h = refl

-- those behind one that isn't less aren't either
none_below : (o p : Operation) (os : List Operation) → is_lt (by_op p o) ≡ false → list_all (λ q. nat_lt p.op q.op) os ≡ true → list_all (λ q. not (is_lt (by_op q o))) os ≡ true
none_below o p [] e h = refl
none_below o p (q ∷ os) e h = of (nat_lt p.op q.op) refl h (none_below o p os e)
  where
    least : ltb p.op o.op ≡ false
    least = sym (below-lt p.op o.op) ∙ e

    of : (b : Bool) → nat_lt p.op q.op ≡ b → (b && list_all (λ r. nat_lt p.op r.op) os) ≡ true →
        (list_all (λ r. nat_lt p.op r.op) os ≡ true → list_all (λ r. not (is_lt (by_op r o))) os ≡ true) → (not (is_lt (by_op q o)) && list_all (λ r. not (is_lt (by_op r o))) os) ≡ true
    of true f g rest =
        let more : ltb q.op o.op ≡ false = grind arith in
        ap (λ (c : Bool). not c && list_all (λ r. not (is_lt (by_op r o))) os) (below-lt q.op o.op ∙ more) ∙ rest g
    of false f g rest = cc

module _ (test : Operation → Bool) where
  -- one that passes is put among those that pass
  filter-insert : (o : Operation) (os : List Operation) → test o ≡ true → AreRising os → filter test (insert_by by_op o os) ≡ insert_by by_op o (filter test os)
  filter-insert o [] passes rising = ap (λ (b : Bool). cond b (o ∷ []) []) passes
  filter-insert o (p ∷ os) passes rising = of (is_lt (by_op p o)) refl (filter-insert o os passes rising.1)
    where
      among : (b : Bool) → filter test (insert_by by_op o os) ≡ insert_by by_op o (filter test os) → is_lt (by_op p o) ≡ true →
          cond b (p ∷ filter test (insert_by by_op o os)) (filter test (insert_by by_op o os)) ≡ insert_by by_op o (cond b (p ∷ filter test os) (filter test os))
      among true ih e = ap (λ (l : List Operation). p ∷ l) ih ∙ sym (ap (λ (c : Bool). cond c (p ∷ insert_by by_op o (filter test os)) (o ∷ p ∷ filter test os)) e)
      among false ih e = ih

      of : (b : Bool) → is_lt (by_op p o) ≡ b → filter test (insert_by by_op o os) ≡ insert_by by_op o (filter test os) →
          filter test (cond b (p ∷ insert_by by_op o os) (o ∷ p ∷ os)) ≡ insert_by by_op o (filter test (p ∷ os))
      of true e ih = among (test p) ih e
      of false e ih =
          let first : not (is_lt (by_op p o)) ≡ true = ap not e in
          let all : list_all (λ q. not (is_lt (by_op q o))) (p ∷ os) ≡ true = ap (λ (c : Bool). c && list_all (λ q. not (is_lt (by_op q o))) os) first ∙ none_below o p os e rising.0 in
          ap (λ (c : Bool). cond c (o ∷ filter test (p ∷ os)) (filter test (p ∷ os))) passes
          ∙ sym (in_front o (filter test (p ∷ os)) (all_filter (λ q. not (is_lt (by_op q o))) test (p ∷ os) all))

  -- two tests in either order
  filter-both : (other : Operation → Bool) (os : List Operation) → filter test (filter other os) ≡ filter other (filter test os)
  filter-both other [] = refl
  filter-both other (o ∷ os) = of (other o) refl (test o) refl (filter-both other os)
    where
      of : (b : Bool) → other o ≡ b → (c : Bool) → test o ≡ c → filter test (filter other os) ≡ filter other (filter test os) →
          filter test (cond b (o ∷ filter other os) (filter other os)) ≡ filter other (cond c (o ∷ filter test os) (filter test os))
      of true e true f ih =
          ap (λ (x : Bool). cond x (o ∷ filter test (filter other os)) (filter test (filter other os))) f ∙ ap (λ (l : List Operation). o ∷ l) ih
          ∙ sym (ap (λ (x : Bool). cond x (o ∷ filter other (filter test os)) (filter other (filter test os))) e)
      of true e false f ih = ap (λ (x : Bool). cond x (o ∷ filter test (filter other os)) (filter test (filter other os))) f ∙ ih
      of false e true f ih = ih ∙ sym (ap (λ (x : Bool). cond x (o ∷ filter other (filter test os)) (filter other (filter test os))) e)
      of false e false f ih = ih

-- What a call makes of the operations of some numbers, its own among them, is of those numbers what it makes of all.
pub some-request : (numbers : List ℕ) (session op : ℕ) (r : Request) (os : List Operation) → has_one numbers op ≡ true → AreRising os →
    after_request session op r (of_numbers numbers os) ≡ of_numbers numbers (after_request session op r os)
some-request numbers session op (request.Query kind name) os has rising = sym (filter-insert (λ o. has_one numbers o.op) _ os has rising)
some-request numbers session op (request.Browse regtype) os has rising = sym (filter-insert (λ o. has_one numbers o.op) _ os has rising)
some-request numbers session op (request.Resolve label regtype) os has rising = sym (filter-insert (λ o. has_one numbers o.op) _ os has rising)
some-request numbers session op (request.Address families name) os has rising = sym (filter-insert (λ o. has_one numbers o.op) _ os has rising)
some-request numbers session op (request.Register label regtype port norename txt) os has rising = sym (filter-insert (λ o. has_one numbers o.op) _ os has rising)
some-request numbers session op (request.Update txt) os has rising = sym (filter_map_swap (λ (o : Operation). has_one numbers o.op) (updated op txt) os)
some-request numbers session op request.Stop os has rising = filter-both (λ o. not (has_op op o)) (λ o. has_one numbers o.op) os

-- ---- what some of the operations bring

module _ (before after : View) (around : Around) (operations : List Operation) (numbers : List ℕ) where
  abbrev Lost : Operation → List Item
  Lost = lost (answered before) (answered after) operations

  abbrev Gained : Operation → List Item
  Gained = gained (answered before) (answered after) operations

  some-lost : (os : List Operation) → AllByRecursion (IsSeenOf before after around operations) os → AllByRecursion (IsCovered numbers around operations) os →
      flat_map Lost (of_numbers numbers os) ≡ flat_map Lost os
  some-lost [] seen covered = refl
  some-lost (o ∷ os) seen covered = of (has_one numbers o.op) refl (some-lost os seen.1 covered.1)
    where
      of : (b : Bool) → has_one numbers o.op ≡ b → flat_map Lost (of_numbers numbers os) ≡ flat_map Lost os →
          flat_map Lost (cond b (o ∷ of_numbers numbers os) (of_numbers numbers os)) ≡ Lost o ++ flat_map Lost os
      of true e ih = ap (λ (l : List Item). Lost o ++ l) ih
      of false e ih =
          ih ∙ ap (λ (l : List Item). l ++ flat_map Lost os)
          (sym (none-lost operations (answered before) (answered after) o (same-met before after around operations o seen.0 (covered.0 e))))

  some-gained : (os : List Operation) → AllByRecursion (IsSeenOf before after around operations) os → AllByRecursion (IsCovered numbers around operations) os →
      flat_map Gained (of_numbers numbers os) ≡ flat_map Gained os
  some-gained [] seen covered = refl
  some-gained (o ∷ os) seen covered = of (has_one numbers o.op) refl (some-gained os seen.1 covered.1)
    where
      of : (b : Bool) → has_one numbers o.op ≡ b → flat_map Gained (of_numbers numbers os) ≡ flat_map Gained os →
          flat_map Gained (cond b (o ∷ of_numbers numbers os) (of_numbers numbers os)) ≡ Gained o ++ flat_map Gained os
      of true e ih = ap (λ (l : List Item). Gained o ++ l) ih
      of false e ih =
          ih ∙ ap (λ (l : List Item). l ++ flat_map Gained os)
          (sym (none-gained operations (answered before) (answered after) o (same-met before after around operations o seen.0 (covered.0 e))))

  -- The operations that are concerned bring what all bring.
  pub some-items : (reply : Option Item) (os : List Operation) → AllByRecursion (IsSeenOf before after around operations) os → AllByRecursion (IsCovered numbers around operations) os →
      items_between (answered before) (answered after) reply operations (of_numbers numbers os) ≡ items_between (answered before) (answered after) reply operations os
  unfolding items_between
  some-items reply os seen covered = λ i. option_to_list reply ++ some-lost os seen covered i ++ some-gained os seen covered i

module _ (around : Around) (numbers : List ℕ) (number : ℕ) (call : Call) (os mine some : List Operation) (rising : AreRising os)
    (has : has_one numbers call.op ≡ true) (covered : AllByRecursion (IsCovered numbers around os) os) (same : mine ≡ os)
    (made : some ≡ after_request number call.op call.request (of_numbers numbers mine)) where
  abbrev left : List Operation
  left = after_request number call.op call.request os

  some-is : some ≡ of_numbers numbers left
  some-is = made ∙ ap (λ (l : List Operation). after_request number call.op call.request (of_numbers numbers l)) same ∙ some-request numbers number call.op call.request os has rising

  all-covered : AllByRecursion (IsCovered numbers around os) left
  all-covered = covered-request numbers around os number call.op call.request os has covered

  pub own-covered : AllByRecursion (IsCovered numbers around mine) some
  own-covered =
      subst (λ (l : List Operation). AllByRecursion (IsCovered numbers around l) some) (sym same)
      (subst (AllByRecursion (IsCovered numbers around os)) (sym some-is) (each-filter (IsCovered numbers around os) (λ o. has_one numbers o.op) left all-covered))

  pub own-formed : AreWellFormed os → IsTrue (well_formed call.request) → AreWellFormed some
  own-formed formed good = subst AreWellFormed (sym some-is) (formed-filter (λ o. has_one numbers o.op) left (formed-request number call.op call.request os good formed))

  -- What a call brings its session is told by the operations of some numbers.
  pub own-items : (before after : View) (reply : Option Item) (items : List Item) →
      (AllByRecursion (IsSeenOf before after around mine) some → items ≡ items_between (answered before) (answered after) reply mine some) → (given : Option Call) → given ≡ Some call →
      AllByRecursion (IsSeenOf before after around os) (after_own number given os) → items ≡ items_between (answered before) (answered after) reply os (after_own number given os)
  own-items before after reply items brings given is =
      subst (λ (g : Option Call). AllByRecursion (IsSeenOf before after around os) (after_own number g os) → items ≡ items_between (answered before) (answered after) reply os (after_own number g os)) (sym is)
      (λ seen.
      let some_seen : AllByRecursion (IsSeenOf before after around os) some =
      subst (AllByRecursion (IsSeenOf before after around os)) (sym some-is) (each-filter (IsSeenOf before after around os) (λ o. has_one numbers o.op) left seen) in
      brings (subst (λ (l : List Operation). AllByRecursion (IsSeenOf before after around l) some) (sym same) some_seen)
      ∙ (λ i. items_between (answered before) (answered after) reply (same i) (some-is i))
      ∙ some-items before after around os numbers reply left seen all-covered)
