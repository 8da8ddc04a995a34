-- The least of two lists is the less of the least of each.
use Rattle.std.proofs.Common.{◌≡◌, ℕ, min, List, [], ◌∷◌, ◌++◌, arith, ap, sym, ◌∙◌, Some}
use Rattle.lists.specs.Lists.{least, least_of}
use Rattle.lists.proofs.Least.{least_of-min, least_of-append}

pub least-both : (one other : ℕ) (ones others : List ℕ) → Some one ≡ least ones → Some other ≡ least others → Some (min one other) ≡ least (ones ++ others)
least-both one other [] others e f = absurd (cc)
least-both one other (n ∷ ns) [] e f = absurd (cc)
least-both one other (n ∷ ns) (m ∷ ms) e f =
    let first : one ≡ least_of n ns = cc in
    let second : other ≡ least_of m ms = cc in
    ap (λ k. Some (min k other)) first
    ∙ ap (λ k. Some (min (least_of n ns) k)) second
    ∙ ap Some (sym (least_of-append n ns (m ∷ ms) ∙ sym (least_of-min (least_of n ns) m ms) ∙ ap (λ k. least_of k ms) (turned (least_of n ns) m) ∙ least_of-min m (least_of n ns) ms))
  where
    turned : (a b : ℕ) → min a b ≡ min b a
    turned a b = omega arith
