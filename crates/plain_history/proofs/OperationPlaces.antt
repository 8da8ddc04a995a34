-- Operations of a session in the order of their numbers.
use Rattle.std.proofs.Common.{◌≡◌, ℕ, suc, Bool, true, false, cond, ltb, List, [], ◌∷◌, ◌++◌, take, drop, refl, ap, ◌∙◌}
use Rattle.std.specs.Prelude.{◌==◌}
use Rattle.std.specs.Ordering.{is_lt, nat_cmp}
use Rattle.std.specs.declared.cmp.Ordering.TheVariants.{Less, Equal, Greater}
use Rattle.lists.specs.Lists.{insert_by}
use Rattle.mdns_history.specs.declared.operation.Operation.{Operation}
use Rattle.mdns_history.specs.Sessions.{by_op}
use Rattle.plain_history.specs.Places.{count_below}

below-lt : (a b : ℕ) → is_lt (nat_cmp a b) ≡ ltb a b
below-lt a b = at (ltb a b)
  where
    rest : (c : Bool) → is_lt (cond c Equal Greater) ≡ false
    rest true = refl
    rest false = refl

    at : (c : Bool) → is_lt (cond c Less (cond (a == b) Equal Greater)) ≡ c
    at true = refl
    at false = rest (a == b)

-- a new one stands behind those of lesser numbers
pub insert_place : (o : Operation) (os : List Operation) → insert_by by_op o os ≡ take (count_below o.op os) os ++ o ∷ drop (count_below o.op os) os
insert_place o [] = refl
insert_place o (p ∷ os) = at (ltb p.op o.op) (below-lt p.op o.op) (insert_place o os)
  where
    at : (c : Bool) → is_lt (by_op p o) ≡ c → insert_by by_op o os ≡ take (count_below o.op os) os ++ o ∷ drop (count_below o.op os) os
        → cond (is_lt (by_op p o)) (p ∷ insert_by by_op o os) (o ∷ p ∷ os) ≡ take (cond c (suc (count_below o.op os)) 0) (p ∷ os) ++ o ∷ drop (cond c (suc (count_below o.op os)) 0) (p ∷ os)
    at true e ih = ap (λ b. cond b (p ∷ insert_by by_op o os) (o ∷ p ∷ os)) e ∙ ap (λ xs. p ∷ xs) ih
    at false e ih = ap (λ b. cond b (p ∷ insert_by by_op o os) (o ∷ p ∷ os)) e
