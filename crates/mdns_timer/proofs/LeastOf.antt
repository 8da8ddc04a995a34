-- The least number of a list is what no number is less than, and one is.
use Rattle.std.proofs.Common.{◌≡◌, ℕ, zero, suc, ◌+◌, ◌-◌, ◌*◌, ◌<◌, ◌≤◌, ◌^◌, ◌==◌, false, List, [], ◌∷◌, length, get_or, Some, ap, arith}
use Rattle.lists.specs.Lists.{least, least_of}
use Rattle.mdns_timer.specs.Tree.{moment_at, least_at, width, IsKept}
use Rattle.mdns_timer.proofs.Parted.{lower, reached}

lower_all : (m n : ℕ) (ns : List ℕ) → m ≤ n → ((k : ℕ) → k < length ns → m ≤ moment_at ns k) → m ≤ least_of n ns
lower_all m n [] h all = h
lower_all m n (x ∷ xs) h all =
    let here : m ≤ x = all 0 (omega arith) in
    let rest : m ≤ least_of n xs = lower_all m n xs h (λ k less. all (suc k) (omega arith)) in
    omega arith

upper_first : (n : ℕ) (ns : List ℕ) → least_of n ns ≤ n
upper_first n [] = omega arith
upper_first n (x ∷ xs) = let rest : least_of n xs ≤ n = upper_first n xs in omega arith

upper_at : (n : ℕ) (ns : List ℕ) (k : ℕ) → n ≤ 2 ^ 64 - 1 → least_of n ns ≤ moment_at ns k
upper_at n [] k h = h
upper_at n (x ∷ xs) zero h = let rest : least_of n xs ≤ n = upper_first n xs in omega arith
upper_at n (x ∷ xs) (suc k) h = let rest : least_of n xs ≤ moment_at xs k = upper_at n xs k h in omega arith

least_is : (xs : List ℕ) (m k : ℕ) → 1 ≤ length xs → get_or xs 0 0 < 2 ^ 64 → ((k : ℕ) → k < length xs → m ≤ moment_at xs k) → m ≡ moment_at xs k → Some m ≡ least xs
least_is [] m k some fits all is = absurd (omega arith)
least_is (x ∷ xs) m k some fits all is = ap (λ n. Some n) (both k is)
  where
    below : m ≤ least_of x xs
    below = lower_all m x xs (all 0 (omega arith)) (λ k less. all (suc k) (omega arith))

    both : (k : ℕ) → m ≡ moment_at (x ∷ xs) k → m ≡ least_of x xs
    both zero e = let up : least_of x xs ≤ x = upper_first x xs in omega (arith, e, up, below)
    both (suc k) e = let up : least_of x xs ≤ moment_at xs k = upper_at x xs k (omega arith) in omega (arith, e, up, below)

pub not_empty : (xs : List ℕ) → false ≡ (length xs == 0) → 1 ≤ length xs
not_empty [] h = absurd (cc)
not_empty (x ∷ xs) h = omega arith

-- the root of a tree has the least of its moments
pub root_least : (moments nodes : List ℕ) → IsKept moments nodes → 1 ≤ length moments → get_or moments 0 0 < 2 ^ 64 → Some (least_at nodes moments 1) ≡ least moments
root_least moments nodes kept some fits =
    least_is moments (least_at nodes moments 1) got.0 some fits (λ k less. lower moments nodes kept.tree wide.0 1 0 k stands all (omega arith) (omega (arith, less, room, wide.1))) got.1
  where
    room : length moments ≤ length nodes
    room = kept.room

    wide : (h : ℕ) × (length nodes ≡ width h)
    wide = kept.even (omega (arith, some, room))

    stands : 1 * width wide.0 ≡ length nodes + 0
    stands = let w : length nodes ≡ width wide.0 = wide.1 in omega (arith, w)

    all : 0 + width wide.0 ≤ length nodes
    all = let w : length nodes ≡ width wide.0 = wide.1 in omega (arith, w)

    got : (k : ℕ) × (least_at nodes moments 1 ≡ moment_at moments k)
    got = reached moments nodes kept.tree wide.0 1 0 stands all
