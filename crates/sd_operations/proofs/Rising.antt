-- The numbers of operations rise where a call has made of them what it makes, or some were taken out.
use Rattle.std.proofs.Common.{◌≡◌, ℕ, ◌<◌, ◌==◌, Bool, true, false, cond, not, ◌&&◌, List, [], ◌∷◌, map, Some, None, refl, ap, ◌∙◌, arith, Less, Equal, Greater}
use Rattle.std.specs.Prelude.{filter, nat_lt}
use Rattle.std.specs.List.{list_all, find}
use Rattle.std.specs.Ordering.{is_lt}
use Rattle.lists.specs.Lists.{insert_by}
use Rattle.sd_call.specs.declared.request.Request.{Request}
use Rattle.sd_call.specs.declared.request.Request.TheVariants as request
use Rattle.sd_call.specs.Requests.{is_start}
use Rattle.mdns_history.specs.declared.operation.Operation.{Operation}
use Rattle.mdns_history.specs.Sessions.{has_op, by_op, updated, after_request}
use Rattle.sd_operations.specs.Operations.{AreRising}

-- operations that all pass a test, with one more or without some
pub all_insert : (p : Operation → Bool) (o : Operation) (os : List Operation) → p o ≡ true → list_all p os ≡ true → list_all p (insert_by by_op o os) ≡ true
all_insert p o [] h g = ap (λ b. b && true) h
all_insert p o (q ∷ os) h g = placed (is_lt (by_op q o)) (p q) refl g (all_insert p o os h)
  where
    placed : (c b : Bool) → p q ≡ b → (b && list_all p os) ≡ true → (list_all p os ≡ true → list_all p (insert_by by_op o os) ≡ true) →
        list_all p (cond c (q ∷ insert_by by_op o os) (o ∷ q ∷ os)) ≡ true
    placed true true e f rest = ap (λ b. b && list_all p (insert_by by_op o os)) e ∙ rest f
    placed false true e f rest = ap (λ b. b && (p q && list_all p os)) h ∙ ap (λ b. b && list_all p os) e ∙ f
    placed c false e f rest = cc

pub all_filter : (p q : Operation → Bool) (os : List Operation) → list_all p os ≡ true → list_all p (filter q os) ≡ true
all_filter p q [] h = refl
all_filter p q (o ∷ os) h = of (q o) (p o) refl h (all_filter p q os)
  where
    of : (b c : Bool) → p o ≡ c → (c && list_all p os) ≡ true → (list_all p os ≡ true → list_all p (filter q os) ≡ true) → list_all p (cond b (o ∷ filter q os) (filter q os)) ≡ true
    of true true e g rest = ap (λ x. x && list_all p (filter q os)) e ∙ rest g
    of false true e g rest = rest g
    of b false e g rest = cc

above_more : (k n : ℕ) (os : List Operation) → k < n → list_all (λ p. nat_lt n p.op) os ≡ true → list_all (λ p. nat_lt k p.op) os ≡ true
above_more k n [] l h = refl
above_more k n (o ∷ os) l h = of (nat_lt n o.op) refl h (above_more k n os l)
  where
    of : (b : Bool) → nat_lt n o.op ≡ b → (b && list_all (λ p. nat_lt n p.op) os) ≡ true → (list_all (λ p. nat_lt n p.op) os ≡ true → list_all (λ p. nat_lt k p.op) os ≡ true) →
        (nat_lt k o.op && list_all (λ p. nat_lt k p.op) os) ≡ true
    of true e g rest = let less : nat_lt k o.op ≡ true = grind arith in ap (λ b. b && list_all (λ p. nat_lt k p.op) os) less ∙ rest g
    of false e g rest = cc

AreRising-insert : (o : Operation) (os : List Operation) → find (has_op o.op) os ≡ None → AreRising os → AreRising (insert_by by_op o os)
AreRising-insert o [] new rising = (refl, tt)
AreRising-insert o (q ∷ os) new rising = of (nat_lt q.op o.op) refl (q.op == o.op) refl new (λ h. AreRising-insert o os h rising.1)
  where
    of : (b : Bool) → nat_lt q.op o.op ≡ b → (c : Bool) → (q.op == o.op) ≡ c → cond c (Some q) (find (has_op o.op) os) ≡ None →
        (find (has_op o.op) os ≡ None → AreRising (insert_by by_op o os)) →
        AreRising (cond (is_lt (cond b Less (cond c Equal Greater))) (q ∷ insert_by by_op o os) (o ∷ q ∷ os))
    of true e true f h rest = cc
    of true e false f h rest = (all_insert (λ p. nat_lt q.op p.op) o os e rising.0, rest h)
    of false e true f h rest = cc
    of false e false f h rest =
        let less : o.op < q.op = grind arith in
        let first : nat_lt o.op q.op ≡ true = grind arith in
        (ap (λ b. b && list_all (λ p. nat_lt o.op p.op) os) first ∙ above_more o.op q.op os less rising.0, rising)

pub AreRising-filter : (t : Operation → Bool) (os : List Operation) → AreRising os → AreRising (filter t os)
AreRising-filter t [] rising = tt
AreRising-filter t (o ∷ os) rising = of (t o) (AreRising-filter t os rising.1)
  where
    of : (b : Bool) → AreRising (filter t os) → AreRising (cond b (o ∷ filter t os) (filter t os))
    of true rest = (all_filter (λ p. nat_lt o.op p.op) t os rising.0, rest)
    of false rest = rest

all_updated : (n op : ℕ) (txt : List ℕ) (os : List Operation) → list_all (λ p. nat_lt n p.op) (map (updated op txt) os) ≡ list_all (λ p. nat_lt n p.op) os
all_updated n op txt [] = refl
all_updated n op txt (o ∷ os) = ap (λ b. nat_lt n o.op && b) (all_updated n op txt os)

AreRising-updated : (op : ℕ) (txt : List ℕ) (os : List Operation) → AreRising os → AreRising (map (updated op txt) os)
AreRising-updated op txt [] rising = tt
AreRising-updated op txt (o ∷ os) rising = (all_updated o.op op txt os ∙ rising.0, AreRising-updated op txt os rising.1)

pub rising_request : (session op : ℕ) (r : Request) (before : List Operation) → AreRising before → (is_start r ≡ true → find (has_op op) before ≡ None) → AreRising (after_request session op r before)
rising_request session op (request.Query kind name) before rising new = AreRising-insert _ before (new refl) rising
rising_request session op (request.Browse regtype) before rising new = AreRising-insert _ before (new refl) rising
rising_request session op (request.Resolve label regtype) before rising new = AreRising-insert _ before (new refl) rising
rising_request session op (request.Address families name) before rising new = AreRising-insert _ before (new refl) rising
rising_request session op (request.Register label regtype port norename txt) before rising new = AreRising-insert _ before (new refl) rising
rising_request session op (request.Update txt) before rising new = AreRising-updated op txt before rising
rising_request session op request.Stop before rising new = AreRising-filter (λ o. not (has_op op o)) before rising
