-- A record and a question, where it is known what stands behind their names.
use Rattle.std.proofs.Common.{◌≡◌, ℕ, ◌+◌, ◌%◌, ◌≤◌, ◌^◌, List, Bool, true, false, length, refl, arith, ap, Some, Ok, eqb, leb}
use Rattle.std.proofs.lemmas.Bool.{le-leb}
use Rattle.dns_record.specs.declared.record.Rr.{Rr}
use Rattle.dns_record.specs.declared.record.Question.{Question}
use Rattle.dns_pointers.specs.Reading.{name_at, u16_in, u32_in}
use Rattle.dns_message.specs.Reading.{rdata_at, data_end_at, class_in, top_bit_in, record_at, question_at}
use Rattle.dns_message.specs.Writing.{class_word}
use Rattle.dns_pointers.proofs.Standing.{Stands, u16_is}

-- the class IN and the bit above it
pub record IsClass (bytes : List ℕ) (at : ℕ) (bit : Bool) : Type 0 where
  pub class : class_in bytes at ≡ 1
  pub top : top_bit_in bytes at ≡ bit

pub class_is : (bytes : List ℕ) (at : ℕ) (bit : Bool) → Stands bytes at (class_word bit) → IsClass bytes at bit
class_is bytes at true s =
    let e : u16_in bytes at ≡ 2 ^ 15 + 1 = u16_is bytes at (2 ^ 15 + 1) (omega arith) s in
    record { class = ap (λ (n : ℕ). n % 2 ^ 15) e; top = ap (λ (n : ℕ). leb (2 ^ 15) n) e }
class_is bytes at false s =
    let e : u16_in bytes at ≡ 1 = u16_is bytes at 1 (omega arith) s in
    record { class = ap (λ (n : ℕ). n % 2 ^ 15) e; top = ap (λ (n : ℕ). leb (2 ^ 15) n) e }

data_end : (bytes : List ℕ) (fields size : ℕ) → u16_in bytes (fields + 8) ≡ size → fields + 10 + size ≤ length bytes → data_end_at bytes fields ≡ Ok (fields + 10 + size)
data_end bytes fields size e h =
    let fixed : leb (fields + 10) (length bytes) ≡ true = le-leb (fields + 10) (length bytes) (omega arith) in
    let room : leb (fields + 10 + size) (length bytes) ≡ true = le-leb (fields + 10 + size) (length bytes) h in
    rw (fixed, e, room) refl

-- the record of an owner, and what stands behind it
pub record_step : (bytes : List ℕ) (at fields size : ℕ) (kind : ℕ) (rr : Rr) → name_at bytes at ≡ Ok (rr.owner, fields) → u16_in bytes fields ≡ kind → eqb kind 41 ≡ false
    → IsClass bytes (fields + 2) rr.flush → u32_in bytes (fields + 4) ≡ rr.ttl → u16_in bytes (fields + 8) ≡ size → fields + 10 + size ≤ length bytes
    → rdata_at bytes kind (fields + 10) (fields + 10 + size) ≡ Ok rr.rdata
    → record_at bytes at ≡ Ok (Some rr, fields + 10 + size)
unfolding record_at
record_step bytes at fields size kind rr n k some c t l room d =
    let end = data_end bytes fields size l room in
    let class : class_in bytes (fields + 2) ≡ 1 = c.class in
    let top : top_bit_in bytes (fields + 2) ≡ rr.flush = c.top in
    rw (n, end, k, some, class, d, top, t) refl

-- a question of a name, and what stands behind it
pub question_step : (bytes : List ℕ) (at fields : ℕ) (question : Question) → name_at bytes at ≡ Ok (question.name, fields) → u16_in bytes fields ≡ question.kind
    → IsClass bytes (fields + 2) question.unicast → fields + 4 ≤ length bytes → question_at bytes at ≡ Ok (Some question, fields + 4)
unfolding question_at
question_step bytes at fields question n k c h =
    let room : leb (fields + 4) (length bytes) ≡ true = le-leb (fields + 4) (length bytes) h in
    let class : class_in bytes (fields + 2) ≡ 1 = c.class in
    let top : top_bit_in bytes (fields + 2) ≡ question.unicast = c.top in
    rw (n, room, class, k, top) refl
