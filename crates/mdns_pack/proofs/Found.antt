-- Whether a list in record order has a record is what a binary search finds.
use Rattle.std.proofs.Common.{◌≡◌, ℕ, true, false, List, length, get_or, refl, ap, ◌∙◌, sym, arith, inl, inr, Ordering, Less, Equal, Greater, Result, Ok, Err}
use Rattle.std.specs.List.{list_any}
use Rattle.std.specs.List.Sorted.{IsSorted, IsBinarySearchResult, IsSearchInRange}
use Rattle.std.specs.Ordering.{is_eq, ordering_reverse}
use Rattle.std.specs.Result.{is_ok}
use Rattle.std.specs.Cmp.{both_ways}
use Rattle.std.proofs.lemmas.Bool.{cases_lt}
use Rattle.std.proofs.lemmas.List.Sorted.{searchable_from_sorted}
use Rattle.std.proofs.lemmas.List.Folds.{list_any_at, list_any_none}
use Rattle.dns_record.specs.declared.record.Rr.{Rr}
use Rattle.dns_record.specs.Records.{same, record_cmp}
use Rattle.dns_record.proofs.Same.{same_tells, record_cmp_equal, record_cmp_total}

equal_is : (r : Ordering) → is_eq r ≡ true → r ≡ Equal
equal_is Less e = absurd (cc)
equal_is Equal e = refl
equal_is Greater e = absurd (cc)

-- records are the same where they compare equal
pub same-tied : (x y : Rr) → same x y ≡ is_eq (record_cmp x y)
same-tied x y =
    both_ways (same x y) (is_eq (record_cmp x y))
    (λ e. ap is_eq ((record_cmp_equal x y).1 ((same_tells x y).0 e)))
    (λ e. (same_tells x y).1 ((record_cmp_equal x y).0 (equal_is (record_cmp x y) e)))

equal_turned : (x y : Rr) → record_cmp y x ≡ Equal → same x y ≡ true
equal_turned x y e = same-tied x y ∙ ap is_eq (record_cmp_total.antisymm x y ∙ ap ordering_reverse e)

apart : (x y : Rr) (r : Ordering) → is_eq r ≡ false → record_cmp y x ≡ r → same x y ≡ false
apart x y r other e = same-tied x y ∙ ap is_eq (record_cmp_total.antisymm x y ∙ ap ordering_reverse e) ∙ turned r other
  where
    turned : (s : Ordering) → is_eq s ≡ false → is_eq (ordering_reverse s) ≡ false
    turned Less h = refl
    turned Equal h = absurd (cc)
    turned Greater h = refl

pub found : (rr : Rr) (rrs : List Rr) → IsSorted record_cmp rrs → (r : Result ℕ ℕ) → IsSearchInRange r (length rrs) →
    IsBinarySearchResult (λ other. record_cmp other rr) rrs r → is_ok r ≡ list_any (same rr) rrs
found rr rrs sorted (Ok i) within at = sym (list_any_at (same rr) rrs i rr within (equal_turned rr (get_or rrs i rr) (at rr)))
found rr rrs sorted (Err i) within at =
    let parts = at (searchable_from_sorted record_cmp_total (λ x. x) rrs rr sorted) in
    sym (list_any_none (same rr) rrs
    (λ k d h. elim (cases_lt k i) [ inl below ↦ apart rr (get_or rrs k d) Less refl (parts.0 k d (omega arith) below) | inr from ↦ apart rr (get_or rrs k d) Greater refl (parts.1 k d from h) ]))
