-- The longest front of a label that ends with a whole character.
use Rattle.std.proofs.Common.{◌≡◌, ℕ, zero, suc, ◌-◌, ◌<◌, ◌≤◌, Bool, true, false, cond, List, [], ◌∷◌, length, take, get_or, leb, ltb, refl, sym, subst, ⊎_elim, arith}
use Rattle.std.proofs.lemmas.Bool.{and_cases, leb-false, ltb-false, cases_lt}
use Rattle.std.proofs.lemmas.List.{take_all, get_or_past}
use Rattle.std.proofs.lemmas.Str.{IsUtf8-nil, IsUtf8-take}
use Rattle.std.specs.Str.{IsUtf8, IsCharBoundary}
use Rattle.sd_name.specs.Renaming.{is_continuation, cut_to}

-- the byte behind the front goes on with a character
pub cut_to-continued : (n : ℕ) (label : List ℕ) → 0 < n → is_continuation (get_or label n 0) ≡ true → cut_to n label ≡ cut_to (n - 1) label
cut_to-continued zero label some on = absurd (omega arith)
cut_to-continued (suc n) label some on =
    let back : suc n - 1 ≡ n = omega arith in
    rw (on, back) refl

pub cut_to-ended : (n : ℕ) (label : List ℕ) → 0 < n → is_continuation (get_or label n 0) ≡ false → cut_to n label ≡ take n label
cut_to-ended zero label some on = absurd (omega arith)
cut_to-ended (suc n) label some on = rw on refl

pub cut_to-all : (n : ℕ) (label : List ℕ) → length label ≤ n → cut_to n label ≡ label
cut_to-all zero [] fits = refl
cut_to-all zero (byte ∷ label) fits = absurd (omega arith)
cut_to-all (suc n) label fits = rw (get_or_past label (suc n) 0 fits) (take_all (suc n) label fits)

boundary : (n : ℕ) (label : List ℕ) → n < length label → is_continuation (get_or label n 0) ≡ false → IsCharBoundary label n
boundary n label within ended =
    (omega arith, λ _ high. ⊎_elim (λ low. absurd (omega (arith, leb-false 128 (get_or label n 0) low))) (λ lead. ltb-false (get_or label n 0) 192 lead) (and_cases (leb 128 (get_or label n 0)) (ltb (get_or label n 0) 192) ended))

whole_front : (n : ℕ) (label : List ℕ) → IsUtf8 label → is_continuation (get_or label n 0) ≡ false → IsUtf8 (take n label)
whole_front n label text ended =
    ⊎_elim (λ within. IsUtf8-take label n text (boundary n label within ended)) (λ (past : length label ≤ n). subst IsUtf8 (sym (take_all n label past)) text) (cases_lt n (length label))

-- a front of a text is a text
pub IsUtf8-cut_to : (n : ℕ) (label : List ℕ) → IsUtf8 label → IsUtf8 (cut_to n label)
IsUtf8-cut_to zero label text = IsUtf8-nil
IsUtf8-cut_to (suc n) label text = step (is_continuation (get_or label (suc n) 0)) refl (IsUtf8-cut_to n label text)
  where
    step : (b : Bool) → is_continuation (get_or label (suc n) 0) ≡ b → IsUtf8 (cut_to n label) → IsUtf8 (cond b (cut_to n label) (take (suc n) label))
    step true is rest = rest
    step false is rest = whole_front (suc n) label text is
