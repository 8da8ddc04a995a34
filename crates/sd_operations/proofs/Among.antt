-- Whether a list in order has an answer is what a binary search finds.
use Rattle.std.proofs.Common.{◌≡◌, ℕ, ◌<◌, Bool, true, false, List, length, get_or, refl, ap, ◌∙◌, sym, arith, inl, inr, Ordering, Less, Equal, Greater, Result, Ok, Err}
use Rattle.std.specs.List.{list_any}
use Rattle.std.specs.List.Sorted.{IsSorted, IsBinarySearchResult, IsSearchInRange}
use Rattle.std.specs.Ordering.{is_eq, ordering_reverse}
use Rattle.std.specs.Result.{is_ok}
use Rattle.std.specs.Cmp.{IsTotalOrder}
use Rattle.std.proofs.lemmas.Cmp.{on_total, nat_list_cmp_total}
use Rattle.std.proofs.lemmas.Bool.{cases_lt}
use Rattle.std.proofs.lemmas.List.Sorted.{searchable_from_sorted}
use Rattle.std.proofs.lemmas.List.Folds.{list_any_at, list_any_none}
use Rattle.sd_call.specs.declared.answer.Answer.{Answer}
use Rattle.sd_call.specs.Answers.{answer_bytes, answer_cmp, answer_eq}

answer_cmp-total : IsTotalOrder answer_cmp
unfolding answer_cmp
answer_cmp-total = on_total answer_bytes nat_list_cmp_total

equal_turned : (x y : Answer) → answer_cmp y x ≡ Equal → answer_eq x y ≡ true
unfolding answer_eq
equal_turned x y e = ap is_eq (answer_cmp-total.antisymm x y ∙ ap ordering_reverse e)

apart : (x y : Answer) (r : Ordering) → is_eq r ≡ false → answer_cmp y x ≡ r → answer_eq x y ≡ false
unfolding answer_eq
apart x y r other e = ap is_eq (answer_cmp-total.antisymm x y ∙ ap ordering_reverse e) ∙ turned r other
  where
    turned : (s : Ordering) → is_eq s ≡ false → is_eq (ordering_reverse s) ≡ false
    turned Less h = refl
    turned Equal h = absurd (cc)
    turned Greater h = refl

pub found : (answer : Answer) (others : List Answer) → IsSorted answer_cmp others → (r : Result ℕ ℕ) → IsSearchInRange r (length others) →
    IsBinarySearchResult (λ other. answer_cmp other answer) others r → is_ok r ≡ list_any (answer_eq answer) others
found answer others sorted (Ok i) within at = sym (list_any_at (answer_eq answer) others i answer within (equal_turned answer (get_or others i answer) (at answer)))
found answer others sorted (Err i) within at =
    let parts = at (searchable_from_sorted answer_cmp-total (λ x. x) others answer sorted) in
    sym (list_any_none (answer_eq answer) others
    (λ k d h. elim (cases_lt k i) [ inl below ↦ apart answer (get_or others k d) Less refl (parts.0 k d (omega arith) below) | inr from ↦ apart answer (get_or others k d) Greater refl (parts.1 k d from h) ]))

-- an answer that stands at a place is among them
pub found_at : (answer other : Answer) (others : List Answer) (i : ℕ) (order : Ordering) (equal : Bool) → i < length others → other ≡ get_or others i answer → order ≡ answer_cmp answer other →
    equal ≡ is_eq order → equal ≡ true → true ≡ list_any (answer_eq answer) others
unfolding answer_eq
found_at answer other others i order equal within is compared tested e =
    sym (list_any_at (answer_eq answer) others i answer within (sym (tested ∙ ap is_eq (compared ∙ ap (answer_cmp answer) is)) ∙ e))
