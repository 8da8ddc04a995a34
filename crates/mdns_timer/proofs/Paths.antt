-- Paths to the root.
use Rattle.std.proofs.Common.{◌≡◌, ℕ, zero, suc, ◌+◌, ◌*◌, ◌/◌, ◌<◌, ◌≤◌, eqb, true, false, ⊎_elim, inl, inr, ◌⊎◌, refl, sym, arith, true≢false}
use Rattle.std.proofs.lemmas.Bool.{or_cases, or_left, or_right, eqb-true, eq-eqb}
use Rattle.mdns_timer.specs.Tree.{is_above, IsOn}

-- a node is on its own path
pub on_itself : (k : ℕ) → IsOn k k
on_itself k = (suc zero, or_left (eqb k k) false (eq-eqb k k refl))

pub on_up : (k j : ℕ) → IsOn (k / 2) j → IsOn k j
on_up k j on = (suc on.0, or_right (eqb k j) (is_above on.0 (k / 2) j) on.1)

-- a node on a path is where it begins, or on the path from the node above that
pub on_step : (k j : ℕ) → IsOn k j → (k ≡ j) ⊎ IsOn (k / 2) j
on_step k j on = of on.0 on.1
  where
    of : (steps : ℕ) → is_above steps k j ≡ true → (k ≡ j) ⊎ IsOn (k / 2) j
    of zero h = absurd (true≢false (sym h))
    of (suc steps) h = ⊎_elim (λ e. inl (eqb-true k j e)) (λ more. inr (steps, more)) (or_cases (eqb k j) (is_above steps (k / 2) j) h)

-- above the root there is nothing
pub none_above : (j : ℕ) → 1 ≤ j → IsOn 0 j → ⊥
none_above j some on = of on.0 on.1
  where
    of : (steps : ℕ) → is_above steps 0 j ≡ true → ⊥
    of zero h = true≢false (sym h)
    of (suc steps) h = ⊎_elim (λ e. let same : 0 ≡ j = eqb-true 0 j e in absurd (omega arith)) (of steps) (or_cases (eqb 0 j) (is_above steps (0 / 2) j) h)

pub half_even : (j : ℕ) → (2 * j) / 2 ≡ j
half_even j = omega arith

pub half_odd : (j : ℕ) → (2 * j + 1) / 2 ≡ j
half_odd j = omega arith

pub half_some : (k : ℕ) → 1 < k → 1 ≤ k / 2
half_some k h = omega arith

pub half_below : (k n : ℕ) → k < 2 * n → k / 2 < n
half_below k n h = omega arith
