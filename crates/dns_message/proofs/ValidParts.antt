-- Bytes of bytes: pieces of them, numbers that they are read as, and names.
use Rattle.std.proofs.Common.{◌≡◌, ℕ, zero, suc, ◌+◌, ◌-◌, ◌*◌, ◌^◌, ◌<◌, ◌≤◌, ◌++◌, List, [], ◌∷◌, ◌∙◌, true, length, take, drop, get_or, refl, arith, ap, sym, length-take, length-drop, lit<}
use Rattle.std.proofs.Math.Nat as nat
use Rattle.std.proofs.lemmas.Bool.{ltb-true, lt-ltb, and_from, and_parts}
use Rattle.std.proofs.lemmas.List.{take-append-drop}
use Rattle.std.proofs.lemmas.List.Folds.{list_all-append}
use Rattle.std.specs.List.{list_all, slice_range}
use Rattle.std.specs.Int.{from_be_bytes, w16, w32, w128}
use Rattle.dns_name.specs.Names.{wire_of, is_label}
use Rattle.dns_name.proofs.Wire.{label_most}
use Rattle.dns_pointers.specs.Reading.{u16_in, u32_in, u128_in}
use Rattle.dns_message.specs.Writing.{is_below, are_bytes}

pub is_below_from : (bits n : ℕ) → n < 2 ^ bits → is_below bits n ≡ true
is_below_from bits n h = lt-ltb n (2 ^ bits) h

-- a front and the rest
cut : (bytes : List ℕ) (n : ℕ) → are_bytes bytes ≡ true → (are_bytes (take n bytes) ≡ true) × (are_bytes (drop n bytes) ≡ true)
cut bytes n h =
    and_parts (are_bytes (take n bytes)) (are_bytes (drop n bytes))
    (sym (list_all-append (is_below 8) (take n bytes) (drop n bytes)) ∙ ap (λ (l : List ℕ). list_all (is_below 8) l) (take-append-drop n bytes) ∙ h)

-- a piece
pub piece_bytes : (bytes : List ℕ) (at stop : ℕ) → are_bytes bytes ≡ true → are_bytes (slice_range bytes at stop) ≡ true
piece_bytes bytes at stop h = (cut (drop at bytes) (stop - at) (cut bytes at h).1).0

pub piece_length : (bytes : List ℕ) (at stop size : ℕ) → stop ≡ at + size → stop ≤ length bytes → length (slice_range bytes at stop) ≡ size
piece_length bytes at stop size e h = omega (arith, length-take (stop - at) (drop at bytes), length-drop at bytes)

pub joined_bytes : (xs ys : List ℕ) → are_bytes xs ≡ true → are_bytes ys ≡ true → are_bytes (xs ++ ys) ≡ true
joined_bytes xs ys h k = list_all-append (is_below 8) xs ys ∙ and_from (are_bytes xs) (are_bytes ys) h k

-- each byte, and 0 past the end
pub each_byte : (bytes : List ℕ) → are_bytes bytes ≡ true → (i : ℕ) → get_or bytes i 0 < 256
each_byte [] h i = lit< tt
each_byte (b ∷ bytes) h zero = ltb-true b 256 (and_parts (is_below 8 b) (are_bytes bytes) h).0
each_byte (b ∷ bytes) h (suc i) = each_byte bytes (and_parts (is_below 8 b) (are_bytes bytes) h).1 i

pub are_bytes_from : (bytes : List ℕ) → ((i : ℕ) → i < length bytes → get_or bytes i 0 < 256) → are_bytes bytes ≡ true
are_bytes_from [] h = refl
are_bytes_from (b ∷ bytes) h =
    and_from (is_below 8 b) (are_bytes bytes) (is_below_from 8 b (h 0 (omega arith))) (are_bytes_from bytes (λ i k. h (suc i) (omega arith)))

-- a number with one byte more
more : (whole s b p : ℕ) → b < 256 → s + p * 256 ≤ whole → s + b * p + p ≤ whole
more whole s b p h k =
    let times : suc b * p ≤ 256 * p = nat.mul-le-mul_right p h in
    omega (arith, step b p)
  where
    step : (b p : ℕ) → suc b * p ≡ b * p + p
    step b p = grind arith

last : (whole s b : ℕ) → b < 256 → s + 256 ≤ whole → s + b < whole
last whole s b h k = omega arith

below_2 : (bytes : List ℕ) → are_bytes bytes ≡ true → from_be_bytes w16 bytes < 2 ^ 16
below_2 bytes h = last (2 ^ 16) _ _ (each_byte bytes h 1) (let first = each_byte bytes h 0 in omega arith)

below_4 : (bytes : List ℕ) → are_bytes bytes ≡ true → from_be_bytes w32 bytes < 2 ^ 32
below_4 bytes h =
    let byte = each_byte bytes h in
    let first : get_or bytes 0 0 * 2 ^ 24 + 2 ^ 24 ≤ 2 ^ 32 = omega (arith, byte 0) in
    last (2 ^ 32) _ _ (byte 3) (more (2 ^ 32) _ _ (2 ^ 8) (byte 2) (more (2 ^ 32) _ _ (2 ^ 16) (byte 1) first))

below_16 : (bytes : List ℕ) → are_bytes bytes ≡ true → from_be_bytes w128 bytes < 2 ^ 128
below_16 bytes h =
    let byte = each_byte bytes h in
    let w : ℕ = 2 ^ 128 in
    let first : get_or bytes 0 0 * 2 ^ 120 + 2 ^ 120 ≤ 2 ^ 128 = omega (arith, byte 0) in
    last w _ _ (byte 15) (more w _ _ (2 ^ 8) (byte 14) (more w _ _ (2 ^ 16) (byte 13) (more w _ _ (2 ^ 24) (byte 12) (more w _ _ (2 ^ 32) (byte 11)
    (more w _ _ (2 ^ 40) (byte 10) (more w _ _ (2 ^ 48) (byte 9) (more w _ _ (2 ^ 56) (byte 8) (more w _ _ (2 ^ 64) (byte 7) (more w _ _ (2 ^ 72) (byte 6)
    (more w _ _ (2 ^ 80) (byte 5) (more w _ _ (2 ^ 88) (byte 4) (more w _ _ (2 ^ 96) (byte 3) (more w _ _ (2 ^ 104) (byte 2) (more w _ _ (2 ^ 112) (byte 1) first))))))))))))))

pub u16_below : (bytes : List ℕ) (at : ℕ) → are_bytes bytes ≡ true → is_below 16 (u16_in bytes at) ≡ true
u16_below bytes at h = is_below_from 16 (u16_in bytes at) (below_2 (slice_range bytes at (at + 2)) (piece_bytes bytes at (at + 2) h))

pub u32_below : (bytes : List ℕ) (at : ℕ) → are_bytes bytes ≡ true → is_below 32 (u32_in bytes at) ≡ true
u32_below bytes at h = is_below_from 32 (u32_in bytes at) (below_4 (slice_range bytes at (at + 4)) (piece_bytes bytes at (at + 4) h))

pub u128_below : (bytes : List ℕ) (at : ℕ) → are_bytes bytes ≡ true → is_below 128 (u128_in bytes at) ≡ true
u128_below bytes at h = is_below_from 128 (u128_in bytes at) (below_16 (slice_range bytes at (at + 16)) (piece_bytes bytes at (at + 16) h))

-- the wire form of a name of bytes
pub wire_bytes : (name : List (List ℕ)) → list_all is_label name ≡ true → list_all are_bytes name ≡ true → are_bytes (wire_of name) ≡ true
wire_bytes [] h k = refl
wire_bytes (label ∷ rest) h k =
    let h1 = and_parts (is_label label) (list_all is_label rest) h in
    let k1 = and_parts (are_bytes label) (list_all are_bytes rest) k in
    let short : length label < 256 = omega (arith, label_most label h1.0) in
    and_from (is_below 8 (length label)) (are_bytes (label ++ wire_of rest)) (is_below_from 8 (length label) short)
    (joined_bytes label (wire_of rest) k1.0 (wire_bytes rest h1.1 k1.1))
