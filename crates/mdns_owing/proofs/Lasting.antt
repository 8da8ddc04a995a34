-- Whether one of several passes two tests.
use Rattle.std.proofs.Common.{◌≡◌, Bool, true, false, cond, ◌&&◌, ◌||◌, List, [], ◌∷◌, refl, ap, ◌∙◌, sym}
use Rattle.std.specs.Prelude.{filter}
use Rattle.std.specs.List.{list_any}
use Rattle.std.specs.Ordering.{is_eq}
use Rattle.std.specs.Cmp.{both_ways}
use Rattle.std.proofs.Common.{Ordering, Less, Equal, Greater}
use Rattle.lists.specs.Lists.{ordered}
use Rattle.lists.proofs.InOrder.{any-ordered}
use Rattle.dns_record.specs.declared.record.Rr.{Rr}
use Rattle.dns_record.specs.Records.{same, record_cmp}
use Rattle.dns_record.proofs.Same.{same_tells, record_cmp_equal, record_cmp_total}

and_true : (a : Bool) → (a && true) ≡ a
and_true true = refl
and_true false = refl

and_false : (a : Bool) → (a && false) ≡ false
and_false true = refl
and_false false = refl

pub any_filter : {X : Type 0} (p q : X → Bool) (xs : List X) → list_any p (filter q xs) ≡ list_any (λ x. p x && q x) xs
any_filter p q [] = refl
any_filter {X = X} p q (x ∷ xs) = one (any_filter p q xs) (q x)
  where
    one : list_any p (filter q xs) ≡ list_any (λ z. p z && q z) xs → (b : Bool) → list_any p (cond b (x ∷ filter q xs) (filter q xs)) ≡ (p x && b) || list_any (λ z. p z && q z) xs
    one ih true = ap (λ (c : Bool). p x || c) ih ∙ ap (λ (c : Bool). c || list_any (λ z. p z && q z) xs) (sym (and_true (p x)))
    one ih false = ih ∙ ap (λ (c : Bool). c || list_any (λ z. p z && q z) xs) (sym (and_false (p x)))

equal_is : (r : Ordering) → is_eq r ≡ true → r ≡ Equal
equal_is Less e = absurd (cc)
equal_is Equal e = refl
equal_is Greater e = absurd (cc)

-- records are the same where they compare equal
same_tied : (x y : Rr) → same x y ≡ is_eq (record_cmp x y)
same_tied x y =
    both_ways (same x y) (is_eq (record_cmp x y))
    (λ e. ap is_eq ((record_cmp_equal x y).1 ((same_tells x y).0 e)))
    (λ e. (same_tells x y).1 ((record_cmp_equal x y).0 (equal_is (record_cmp x y) e)))

any_tied : (rr : Rr) (rrs : List Rr) → list_any (same rr) rrs ≡ list_any (λ other. is_eq (record_cmp rr other)) rrs
any_tied rr [] = refl
any_tied rr (one ∷ rrs) = (λ i. same_tied rr one i || any_tied rr rrs i)

-- Records in order have what is among those that were put in order.
pub any_ordered : (rr : Rr) (rrs : List Rr) → list_any (same rr) (ordered record_cmp rrs) ≡ list_any (same rr) rrs
any_ordered rr rrs = any_tied rr (ordered record_cmp rrs) ∙ any-ordered record_cmp record_cmp_total rr rrs ∙ sym (any_tied rr rrs)
