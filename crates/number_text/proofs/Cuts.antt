-- The parts of bytes round the first byte that equals another.
use Rattle.number_text.specs.Cut.{cut_of}
use Rattle.std.proofs.Common.{Some, None, suc, zero, ◌≡◌, ℕ, ◌+◌, ◌<◌, List, [], ◌∷◌, ◌∙◌, length, get_or, take, drop, eqb, false, refl, arith, eq-eqb, ap}
use Rattle.std.proofs.lemmas.Bool.{ne_eqb}
use Rattle.std.specs.List.{slice_split, position_or_len}
use Rattle.std.proofs.lemmas.List.Sums.{position_or_len_is}
use Rattle.std.proofs.lemmas.List.Splits.{slice_split_first, slice_split_none}
use Rattle.std.proofs.lemmas.List.Elements.{All-from_get_or}

-- where no byte before i equals c and the one at i does, the first part ends at i
pub cut_here : (xs : List ℕ) (c i : ℕ) → i < length xs → ((k : ℕ) → k < i → get_or xs k 0 ≡ c → ⊥) → get_or xs i 0 ≡ c → slice_split (λ b. eqb b c) xs ≡ take i xs ∷ slice_split (λ b. eqb b c) (drop (i + 1) xs)
cut_here xs c i within before here =
    let place : position_or_len (λ b. eqb b c) xs ≡ i =
    position_or_len_is (λ b. eqb b c) xs i 0 (omega arith) (λ k h. ne_eqb (get_or xs k 0) c (before k h)) (λ _. eq-eqb (get_or xs i 0) c here) in
    let inside : position_or_len (λ b. eqb b c) xs < length xs = omega arith in
    slice_split_first (λ b. eqb b c) xs 0 inside ∙ ap (λ n. take n xs ∷ slice_split (λ b. eqb b c) (drop (n + 1) xs)) place

-- where no byte equals c, there is one part
pub cut_nowhere : (xs : List ℕ) (c : ℕ) → ((k : ℕ) → k < length xs → get_or xs k 0 ≡ c → ⊥) → slice_split (λ b. eqb b c) xs ≡ xs ∷ []
cut_nowhere xs c none =
    slice_split_none (λ b. eqb b c) xs (All-from_get_or (λ x. eqb x c ≡ false) xs 0 (λ i h. ne_eqb (get_or xs i 0) c (none i h)))

pub cut_of-here : (xs : List ℕ) (c i : ℕ) → i < length xs → ((k : ℕ) → k < i → get_or xs k 0 ≡ c → ⊥) → get_or xs i 0 ≡ c → Some (take i xs, drop (i + 1) xs) ≡ cut_of c xs
unfolding cut_of
cut_of-here [] c i within before here = absurd (omega arith)
cut_of-here (x ∷ xs) c zero within before here = rw (eq-eqb x c here) refl
cut_of-here (x ∷ xs) c (suc i) within before here =
    let other : eqb x c ≡ false = ne_eqb x c (before 0 (omega arith)) in
    let ih : Some (take i xs, drop (i + 1) xs) ≡ cut_of c xs = cut_of-here xs c i (omega arith) (λ k h. before (suc k) (omega arith)) here in
    let next : suc i + 1 ≡ suc (i + 1) = omega arith in
    rw (other, ← ih, next) refl

pub cut_of-nowhere : (xs : List ℕ) (c : ℕ) → ((k : ℕ) → k < length xs → get_or xs k 0 ≡ c → ⊥) → None ≡ cut_of c xs
unfolding cut_of
cut_of-nowhere [] c none = refl
cut_of-nowhere (x ∷ xs) c none =
    let other : eqb x c ≡ false = ne_eqb x c (none 0 (omega arith)) in
    rw (other, ← cut_of-nowhere xs c (λ k h. none (suc k) (omega arith))) refl
