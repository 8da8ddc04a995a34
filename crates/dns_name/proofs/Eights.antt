-- Lists of bytes compared eight at a time.
use Rattle.std.proofs.Common.{◌≡◌, ℕ, ◌+◌, ◌-◌, ◌≤◌, ◌++◌, List, ◌∙◌, take, drop, ap, sym, arith}
use Rattle.std.proofs.lemmas.List.{take-take, drop-take}
use Rattle.std.proofs.Math.Seq.{take-add}
use Rattle.std.specs.Prelude.{◌↔◌}

-- lists whose first eight are the same begin alike
pub agree_within : (len : ℕ) (ours theirs : List ℕ) → len ≤ 8 → take 8 ours ≡ take 8 theirs → take len ours ≡ take len theirs
agree_within len ours theirs few same = sym (take-take len 8 ours few) ∙ ap (take len) same ∙ take-take len 8 theirs few

-- lists of which the first eight aren't the same are not either
pub not_unlike : (len : ℕ) (ours theirs : List ℕ) → 8 ≤ len → take len ours ≡ take len theirs → take 8 ours ≡ take 8 theirs
not_unlike len ours theirs more same = sym (take-take 8 len ours more) ∙ ap (take 8) same ∙ take-take 8 len theirs more

-- where the first eight are the same, the rest decides
pub agree_behind : (len : ℕ) (ours theirs : List ℕ) → 8 ≤ len → take 8 ours ≡ take 8 theirs
    → (take (len - 8) (drop 8 ours) ≡ take (len - 8) (drop 8 theirs)) ↔ (take len ours ≡ take len theirs)
agree_behind len ours theirs more same = (
  λ rest.
      ap (λ (n : ℕ). take n ours) whole ∙ take-add 8 (len - 8) ours
      ∙ ap (λ (l : List ℕ). l ++ take (len - 8) (drop 8 ours)) same ∙ ap (λ (l : List ℕ). take 8 theirs ++ l) rest
      ∙ sym (take-add 8 (len - 8) theirs) ∙ ap (λ (n : ℕ). take n theirs) (sym whole),
  λ all.
      sym (drop-take 8 (len - 8) ours) ∙ ap (λ (n : ℕ). drop 8 (take n ours)) (sym whole) ∙ ap (drop 8) all
      ∙ ap (λ (n : ℕ). drop 8 (take n theirs)) whole ∙ drop-take 8 (len - 8) theirs,
)
  where
    whole : len ≡ 8 + (len - 8)
    whole = omega (arith, more)
