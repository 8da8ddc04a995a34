-- Operations of a session in the order of their numbers.
use Rattle.std.proofs.Common.{◌≡◌, ℕ, zero, suc, ◌<◌, ◌≤◌, Bool, true, false, cond, ltb, ◌&&◌, List, [], ◌∷◌, ◌++◌, map, take, drop, length, get_or, set, Some, None, nat_lt, refl, ap, ◌∙◌, sym, arith}
use Rattle.std.specs.Prelude.{◌==◌}
use Rattle.std.specs.List.{list_all, position, position_or_len}
use Rattle.std.specs.Ordering.{is_lt, nat_cmp}
use Rattle.std.specs.declared.cmp.Ordering.TheVariants.{Less, Equal, Greater}
use Rattle.std.proofs.lemmas.Bool.{ltb-false}
use Rattle.std.proofs.lemmas.List.Sums.{fails_before_first}
use Rattle.std.proofs.lemmas.List.Quantifiers.{position-Some}
use Rattle.lists.specs.Lists.{insert_by}
use Rattle.sd_call.specs.Requests.{with_txt}
use Rattle.mdns_history.specs.declared.operation.Operation.{Operation}
use Rattle.mdns_history.specs.Sessions.{by_op, has_op, updated}
use Rattle.sd_operations.specs.Operations.{AreRising, count_below}

pub below-lt : (a b : ℕ) → is_lt (nat_cmp a b) ≡ ltb a b
below-lt a b = at (ltb a b)
  where
    rest : (c : Bool) → is_lt (cond c Equal Greater) ≡ false
    rest true = refl
    rest false = refl

    at : (c : Bool) → is_lt (cond c Less (cond (a == b) Equal Greater)) ≡ c
    at true = refl
    at false = rest (a == b)

-- a new one stands behind those of lesser numbers
pub insert_place : (o : Operation) (os : List Operation) → insert_by by_op o os ≡ take (count_below o.op os) os ++ o ∷ drop (count_below o.op os) os
insert_place o [] = refl
insert_place o (p ∷ os) = at (ltb p.op o.op) (below-lt p.op o.op) (insert_place o os)
  where
    at : (c : Bool) → is_lt (by_op p o) ≡ c → insert_by by_op o os ≡ take (count_below o.op os) os ++ o ∷ drop (count_below o.op os) os
        → cond (is_lt (by_op p o)) (p ∷ insert_by by_op o os) (o ∷ p ∷ os) ≡ take (cond c (suc (count_below o.op os)) 0) (p ∷ os) ++ o ∷ drop (cond c (suc (count_below o.op os)) 0) (p ∷ os)
    at true e ih = ap (λ b. cond b (p ∷ insert_by by_op o os) (o ∷ p ∷ os)) e ∙ ap (λ xs. p ∷ xs) ih
    at false e ih = ap (λ b. cond b (p ∷ insert_by by_op o os) (o ∷ p ∷ os)) e

-- ---- an update

-- an operation of another number stays
stays : (op : ℕ) (txt : List ℕ) (o : Operation) → has_op op o ≡ false → updated op txt o ≡ o
stays op txt o e = ap (λ (b : Bool). record o { request = cond b (with_txt txt o.request) o.request }) e

-- and that of the number has the TXT
takes : (op : ℕ) (txt : List ℕ) (o : Operation) → has_op op o ≡ true → updated op txt o ≡ record o { request = with_txt txt o.request }
takes op txt o e = ap (λ (b : Bool). record o { request = cond b (with_txt txt o.request) o.request }) e

all_stay : (op : ℕ) (txt : List ℕ) (n : ℕ) (os : List Operation) → (n == op) ≡ true → list_all (λ p. nat_lt n p.op) os ≡ true → map (updated op txt) os ≡ os
all_stay op txt n [] e h = refl
all_stay op txt n (o ∷ os) e h = of (nat_lt n o.op) refl h (all_stay op txt n os e)
  where
    of : (b : Bool) → nat_lt n o.op ≡ b → (b && list_all (λ p. nat_lt n p.op) os) ≡ true → (list_all (λ p. nat_lt n p.op) os ≡ true → map (updated op txt) os ≡ os) →
        updated op txt o ∷ map (updated op txt) os ≡ o ∷ os
    of true f g rest =
        let other : has_op op o ≡ false = grind arith in
        λ i. stays op txt o other i ∷ rest g i
    of false f g rest = cc

updated_at : (op : ℕ) (txt : List ℕ) (os : List Operation) (i : ℕ) (d : Operation) → AreRising os → i < length os → has_op op (get_or os i d) ≡ true →
    ((k : ℕ) → k < i → has_op op (get_or os k d) ≡ false) → set os i (record (get_or os i d) { request = with_txt txt (get_or os i d).request }) ≡ map (updated op txt) os
updated_at op txt [] i d rising h hit miss = absurd (omega arith)
updated_at op txt (o ∷ os) zero d rising h hit miss = λ i. sym (takes op txt o hit) i ∷ sym (all_stay op txt o.op os hit rising.0) i
updated_at op txt (o ∷ os) (suc i) d rising h hit miss =
    let rest = updated_at op txt os i d rising.1 (omega arith) hit (λ k below. miss (suc k) (omega arith)) in
    let other : has_op op o ≡ false = miss zero (omega arith) in
    λ j. sym (stays op txt o other) j ∷ rest j

-- The operation at the place of a number has the TXT, and the others stay.
pub updated-at : (op : ℕ) (txt : List ℕ) (os : List Operation) (i : ℕ) (d : Operation) → AreRising os → Some i ≡ position (has_op op) os →
    set os i (record (get_or os i d) { request = with_txt txt (get_or os i d).request }) ≡ map (updated op txt) os
updated-at op txt os i d rising at = let place = position-Some (has_op op) os i d (sym at) in updated_at op txt os i d rising place.0 place.1 place.2

missed : (op : ℕ) (txt : List ℕ) (os : List Operation) (d : Operation) → ((k : ℕ) → k < length os → has_op op (get_or os k d) ≡ false) → os ≡ map (updated op txt) os
missed op txt [] d miss = refl
missed op txt (o ∷ os) d miss =
    let rest = missed op txt os d (λ k below. miss (suc k) (omega arith)) in
    let other : has_op op o ≡ false = miss zero (omega arith) in
    λ i. sym (stays op txt o other) i ∷ rest i

-- Where no operation has the number all stay.
pub updated-none : (op : ℕ) (txt : List ℕ) (os : List Operation) → None ≡ position (has_op op) os → os ≡ map (updated op txt) os
updated-none op txt [] none = refl
updated-none op txt (o ∷ os) none = missed op txt (o ∷ os) o (λ k below. fails_before_first (has_op op) (o ∷ os) k o (omega (arith, past)))
  where
    of : (b : Bool) → nat_lt (position_or_len (has_op op) (o ∷ os)) (length (o ∷ os)) ≡ b → None ≡ cond b (Some (position_or_len (has_op op) (o ∷ os))) None →
        length (o ∷ os) ≤ position_or_len (has_op op) (o ∷ os)
    of true t e = cc
    of false t e = ltb-false (position_or_len (has_op op) (o ∷ os)) (length (o ∷ os)) t

    past : length (o ∷ os) ≤ position_or_len (has_op op) (o ∷ os)
    past = of (nat_lt (position_or_len (has_op op) (o ∷ os)) (length (o ∷ os))) refl none
