-- Bytes at an offset.
use Rattle.std.proofs.Common.{◌≡◌, ℕ, ◌+◌, ◌-◌, List, take, drop, arith, ap}
use Rattle.std.specs.List.{slice_range}

pub range_chunk : (bytes : List ℕ) (at n : ℕ) → slice_range bytes at (at + n) ≡ take n (drop at bytes)
range_chunk bytes at n = let e : at + n - at ≡ n = omega arith in ap (λ k. take k (drop at bytes)) e
