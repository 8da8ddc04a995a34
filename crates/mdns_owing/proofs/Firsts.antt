-- The first moment of several, one after another.
use Rattle.std.proofs.Common.{◌≡◌, ℕ, suc, ◌+◌, ◌<◌, min, List, [], ◌∷◌, ◌++◌, map, length, get_or, take, drop, ap, sym, ◌∙◌, Option, append-nil, add-one}
use Rattle.std.proofs.Math.Seq.{drop-cons}
use Rattle.std.specs.List.{flat_map}
use Rattle.std.proofs.lemmas.List.{take_more}
use Rattle.std.proofs.lemmas.List.Concat.{flat_map-append}
use Rattle.lists.specs.Lists.{least, least_of}
use Rattle.lists.proofs.Least.{least_of-min}

pub one_more : {X : Type 0} (f : X → List ℕ) (xs : List X) (n : ℕ) (x : X) (first then_first next : Option ℕ) → n < length xs → x ≡ get_or xs n x → next ≡ least (f x) →
    first ≡ least (flat_map f (take n xs)) → ((ones others : List ℕ) → first ≡ least ones → next ≡ least others → then_first ≡ least (ones ++ others)) → then_first ≡ least (flat_map f (take (n + 1) xs))
one_more f xs n x first then_first next within is e so_far joined =
    joined (flat_map f (take n xs)) (f x) so_far e
    ∙ ap (λ l. least (flat_map f (take n xs) ++ l)) (sym (append-nil (f x)))
    ∙ ap least (sym (flat_map-append f (take n xs) (x ∷ [])))
    ∙ ap (λ l. least (flat_map f l)) (ap (λ y. take n xs ++ y ∷ []) is ∙ sym (take_more xs n x within))

-- the least of those that are left, with one more
pub least_more : {X : Type 0} (f : X → ℕ) (xs : List X) (i : ℕ) (x : X) (n : ℕ) → i < length xs → x ≡ get_or xs i x →
    least_of n (map f (drop i xs)) ≡ least_of (min n (f x)) (map f (drop (i + 1) xs))
least_more f xs i x n within is =
    ap (λ l. least_of n (map f l)) (drop-cons xs i x within ∙ ap (λ y. y ∷ drop (suc i) xs) (sym is) ∙ ap (λ k. x ∷ drop k xs) (sym (add-one i)))
    ∙ sym (least_of-min n (f x) (map f (drop (i + 1) xs)))
