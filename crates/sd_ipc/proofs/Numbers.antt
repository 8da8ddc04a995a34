-- Numbers of 16 bytes come back from their bytes.
use Rattle.std.proofs.Common.{◌≡◌, ℕ, ◌+◌, ◌*◌, ◌/◌, ◌%◌, ◌^◌, ◌<◌, arith}
use Rattle.std.specs.Int.{to_be_bytes, from_be_bytes, w128}
use native.Mathlib.Nat as nat

-- eight digits, and what is left above them
joined : (a b c d e f g h n p q r s t u v rest : ℕ) → n ≡ a + p * 256 → p ≡ b + q * 256 → q ≡ c + r * 256 → r ≡ d + s * 256
    → s ≡ e + t * 256 → t ≡ f + u * 256 → u ≡ g + v * 256 → v ≡ h + rest * 256
    → n ≡ a + b * 256 + c * 65536 + d * 16777216 + e * 4294967296 + f * 1099511627776 + g * 281474976710656 + h * 72057594037927936 + rest * 18446744073709551616
joined a b c d e f g h n p q r s t u v rest at_0 at_1 at_2 at_3 at_4 at_5 at_6 at_7 = omega arith

-- the digit at a place, and what is left above it
digit : (n p : ℕ) → n / p ≡ n / p % 256 + n / (p * 256) * 256
digit n p = omega (arith, nat.div-div-eq-div-mul n p 256)

pub from_be_bytes-to_be_bytes_16 : (n : ℕ) → n < 2 ^ 128 → from_be_bytes w128 (to_be_bytes w128 n) ≡ n
from_be_bytes-to_be_bytes_16 n fits =
    let low : n ≡ n % 256 + n / 256 * 256 = omega arith in
    let first = joined _ _ _ _ _ _ _ _ n _ _ _ _ _ _ _ _ low (digit n 256) (digit n (256 ^ 2)) (digit n (256 ^ 3)) (digit n (256 ^ 4)) (digit n (256 ^ 5)) (digit n (256 ^ 6)) (digit n (256 ^ 7)) in
    let second = joined _ _ _ _ _ _ _ _ (n / 256 ^ 8) _ _ _ _ _ _ _ _ (digit n (256 ^ 8)) (digit n (256 ^ 9)) (digit n (256 ^ 10)) (digit n (256 ^ 11)) (digit n (256 ^ 12)) (digit n (256 ^ 13)) (digit n (256 ^ 14)) (digit n (256 ^ 15)) in
    let top : n / 256 ^ 16 ≡ 0 = omega arith in
    omega (arith, first, second, top)
