-- Numbers of 16 bytes are read as they were written.
use Rattle.std.proofs.Common.{◌≡◌, ℕ, ◌+◌, ◌*◌, ◌/◌, ◌%◌, ◌^◌, ◌<◌, List, ◌∙◌, refl, arith, ap}
use Rattle.std.proofs.Math.Nat as nat
use Rattle.std.specs.Int.{to_be_bytes, from_be_bytes, w128}
use Rattle.dns_pointers.specs.Reading.{u128_in}
use Rattle.dns_pointers.proofs.Standing.{Stands, ranged}

-- one byte more
more : (n s p : ℕ) → s ≡ n / (p * 256) * (p * 256) → s + n / p % 256 * p ≡ n / p * p
more n s p e =
    let cut : n / p ≡ n / p % 256 + n / (p * 256) * 256 = omega (arith, nat.div-div-eq-div-mul n p 256) in
    e' (n / p) (n / p % 256) (n / (p * 256)) s cut e
  where
    e' : (m b h s : ℕ) → m ≡ b + h * 256 → s ≡ h * (p * 256) → s + b * p ≡ m * p
    e' m b h s f g = rw (f, g) grind arith

last : (n s : ℕ) → s ≡ n / 256 * 256 → s + n % 256 ≡ n
last n s e = omega arith

-- the first byte
top : (n : ℕ) → n < 2 ^ 128 → n / 2 ^ 120 % 256 * 2 ^ 120 ≡ n / 2 ^ 120 * 2 ^ 120
top n h = let small : n / 2 ^ 120 % 256 ≡ n / 2 ^ 120 = omega arith in ap (λ (m : ℕ). m * 2 ^ 120) small

pub from_be_bytes-to_be_bytes_16 : (n : ℕ) → n < 2 ^ 128 → from_be_bytes w128 (to_be_bytes w128 n) ≡ n
from_be_bytes-to_be_bytes_16 n h =
    last n _ (more n _ (2 ^ 8) (more n _ (2 ^ 16) (more n _ (2 ^ 24) (more n _ (2 ^ 32) (more n _ (2 ^ 40) (more n _ (2 ^ 48) (more n _ (2 ^ 56)
    (more n _ (2 ^ 64) (more n _ (2 ^ 72) (more n _ (2 ^ 80) (more n _ (2 ^ 88) (more n _ (2 ^ 96) (more n _ (2 ^ 104) (more n _ (2 ^ 112) (top n h)))))))))))))))

pub u128_is : (bytes : List ℕ) (at n : ℕ) → n < 2 ^ 128 → Stands bytes at (to_be_bytes w128 n) → u128_in bytes at ≡ n
u128_is bytes at n h s = ap (from_be_bytes w128) (ranged bytes at (at + 16) (to_be_bytes w128 n) s refl) ∙ from_be_bytes-to_be_bytes_16 n h
