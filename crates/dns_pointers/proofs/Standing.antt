-- A piece that stands in the bytes at an offset, and what is read there.
use Rattle.std.proofs.Common.{◌≡◌, ℕ, ◌+◌, ◌<◌, ◌≤◌, ◌^◌, ◌++◌, List, ◌∷◌, ◌∙◌, length, take, get_or, refl, arith, ap, sym, subst, append_assoc, length-append, Some, Ok}
use Rattle.std.proofs.Math.Seq.{take-append_seam, drop-append_seam, get_or-append_seam}
use Rattle.std.proofs.lemmas.Option.{slice_get-get_or}
use Rattle.std.proofs.lemmas.Nat.{from_be_bytes-to_be_bytes_2, from_be_bytes-to_be_bytes_4}
use Rattle.std.specs.List.{slice_range}
use Rattle.std.specs.Int.{to_be_bytes, from_be_bytes, w16, w32}
use Rattle.dns_pointers.specs.Reading.{byte_at, byte_or_end, u16_in, u32_in}
use Rattle.dns_pointers.proofs.Chunks.{range_chunk}

pub record Stands (bytes : List ℕ) (at : ℕ) (piece : List ℕ) : Type 0 where
  pub front : List ℕ
  pub more : List ℕ
  pub is : bytes ≡ front ++ (piece ++ more)
  pub place : length front ≡ at

pub within : (bytes : List ℕ) (at : ℕ) (piece : List ℕ) → Stands bytes at piece → at + length piece ≤ length bytes
within bytes at piece s = omega (arith, ap length s.is, length-append s.front (piece ++ s.more), length-append piece s.more, s.place)

pub first_part : (bytes : List ℕ) (at : ℕ) (xs ys : List ℕ) → Stands bytes at (xs ++ ys) → Stands bytes at xs
first_part bytes at xs ys s =
    record { front = s.front; more = ys ++ s.more; is = s.is ∙ ap (λ (l : List ℕ). s.front ++ l) (append_assoc xs ys s.more); place = s.place }

pub last_part : (bytes : List ℕ) (at : ℕ) (xs ys : List ℕ) → Stands bytes at (xs ++ ys) → Stands bytes (at + length xs) ys
last_part bytes at xs ys s =
    record {
      front = s.front ++ xs;
      more = s.more;
      is = s.is ∙ ap (λ (l : List ℕ). s.front ++ l) (append_assoc xs ys s.more) ∙ sym (append_assoc s.front xs (ys ++ s.more));
      place = omega (arith, length-append s.front xs, s.place);
    }

-- the same at another spelling of the offset
pub moved : (bytes : List ℕ) (at other : ℕ) (piece : List ℕ) → Stands bytes at piece → at ≡ other → Stands bytes other piece
moved bytes at other piece s e = record { front = s.front; more = s.more; is = s.is; place = s.place ∙ e }

pub same_piece : (bytes : List ℕ) (at : ℕ) (piece other : List ℕ) → Stands bytes at piece → piece ≡ other → Stands bytes at other
same_piece bytes at piece other s e = subst (λ (l : List ℕ). Stands bytes at l) e s

cut : (front piece more : List ℕ) → slice_range (front ++ (piece ++ more)) (length front) (length front + length piece) ≡ piece
cut front piece more =
    range_chunk (front ++ (piece ++ more)) (length front) (length piece)
    ∙ ap (take (length piece)) (drop-append_seam front (piece ++ more)) ∙ take-append_seam piece more

-- the bytes from there to its end
pub ranged : (bytes : List ℕ) (at stop : ℕ) (piece : List ℕ) → Stands bytes at piece → stop ≡ at + length piece → slice_range bytes at stop ≡ piece
ranged bytes at stop piece s e =
    let whole : slice_range bytes (length s.front) (length s.front + length piece) ≡ piece =
    ap (λ (l : List ℕ). slice_range l (length s.front) (length s.front + length piece)) s.is ∙ cut s.front piece s.more in
    rw e (subst (λ (n : ℕ). slice_range bytes n (n + length piece) ≡ piece) s.place whole)

-- its first byte
pub index_is : (bytes : List ℕ) (at b : ℕ) (rest : List ℕ) → Stands bytes at (b ∷ rest) → get_or bytes at 0 ≡ b
index_is bytes at b rest s =
    let whole : get_or bytes (length s.front) 0 ≡ b = ap (λ (l : List ℕ). get_or l (length s.front) 0) s.is ∙ get_or-append_seam s.front b (rest ++ s.more) 0 in
    subst (λ (n : ℕ). get_or bytes n 0 ≡ b) s.place whole

pub byte_is : (bytes : List ℕ) (at b : ℕ) (rest : List ℕ) → Stands bytes at (b ∷ rest) → byte_at bytes at ≡ Ok b
byte_is bytes at b rest s =
    let there : at < length bytes = omega (arith, within bytes at (b ∷ rest) s) in
    ap byte_or_end (slice_get-get_or bytes at 0 there ∙ ap (λ (n : ℕ). Some n) (index_is bytes at b rest s))

-- the numbers that stand there
pub u16_is : (bytes : List ℕ) (at n : ℕ) → n < 2 ^ 16 → Stands bytes at (to_be_bytes w16 n) → u16_in bytes at ≡ n
u16_is bytes at n h s = ap (from_be_bytes w16) (ranged bytes at (at + 2) (to_be_bytes w16 n) s refl) ∙ from_be_bytes-to_be_bytes_2 n h

pub u32_is : (bytes : List ℕ) (at n : ℕ) → n < 2 ^ 32 → Stands bytes at (to_be_bytes w32 n) → u32_in bytes at ≡ n
u32_is bytes at n h s = ap (from_be_bytes w32) (ranged bytes at (at + 4) (to_be_bytes w32 n) s refl) ∙ from_be_bytes-to_be_bytes_4 n h
