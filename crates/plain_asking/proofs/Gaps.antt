-- The gaps of a series.
use Rattle.std.proofs.Common.{◌≡◌, ℕ, suc, ◌+◌, ◌*◌, ◌-◌, ◌^◌, ◌≤◌, min, refl, ap, sym, ◌∙◌, arith}
use Rattle.std.proofs.Math.Nat.{pow-succ'}
use Rattle.mdns_history.specs.Asking.{series_gap}

-- the first gap is a second
pub gap_first : series_gap (suc 0) ≡ 1000
gap_first = refl

-- the next gap is twice as long, an hour at most
pub gap_next : (n : ℕ) → series_gap (suc (n + 1)) ≡ min 3600000 (2 * series_gap (suc n))
gap_next n =
    let at : suc n - 1 ≡ n = omega arith in
    let next : suc (n + 1) - 1 ≡ suc n = omega arith in
    let twice : 2 ^ suc n ≡ 2 * 2 ^ n = pow-succ' 2 n in
    ap (λ k. min (1000 * 2 ^ k) 3600000) next ∙ ap (λ q. min (1000 * q) 3600000) twice ∙ step (2 ^ n) ∙ ap (λ k. min 3600000 (2 * min (1000 * 2 ^ k) 3600000)) (sym at)
  where
    step : (p : ℕ) → min (1000 * (2 * p)) 3600000 ≡ min 3600000 (2 * min (1000 * p) 3600000)
    step p = omega arith

-- no gap is longer than an hour
pub gap_bound : (n : ℕ) → series_gap n ≤ 3600000
gap_bound n = bound (1000 * 2 ^ (n - 1))
  where
    bound : (m : ℕ) → min m 3600000 ≤ 3600000
    bound m = omega arith
