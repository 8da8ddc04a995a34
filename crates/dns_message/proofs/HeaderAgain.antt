-- The header is read as it was written.
use Rattle.std.proofs.Common.{◌≡◌, ℕ, ◌+◌, ◌*◌, ◌/◌, ◌%◌, ◌<◌, ◌^◌, ◌++◌, List, [], ◌∷◌, ◌∙◌, Bool, true, false, length, refl, arith, eqb, eq-eqb, get_or}
use Rattle.std.specs.Int.{to_be_bytes, w16}
use Rattle.std.proofs.lemmas.Bool.{ne_eqb}
use Rattle.dns_message.specs.declared.message.Message.{Message}
use Rattle.dns_pointers.specs.Reading.{u16_in}
use Rattle.dns_message.specs.Reading.{has_bit, with_header}
use Rattle.dns_message.specs.Writing.{bit_worth, flag_bytes, count_bytes, header}
use Rattle.dns_pointers.proofs.Standing.{Stands, first_part, last_part, index_is, u16_is}

-- the first byte of the flags
abbrev high_of : Bool → Bool → Bool → ℕ → ℕ
high_of response authoritative truncated opcode = bit_worth response 128 + opcode % 16 * 8 + bit_worth authoritative 4 + bit_worth truncated 2

record AreFlags (response authoritative truncated : Bool) (opcode high : ℕ) : Type 0 where
  pub top : has_bit 7 high ≡ response
  pub second : has_bit 2 high ≡ authoritative
  pub first : has_bit 1 high ≡ truncated
  pub code : high / 8 % 16 ≡ opcode

set : (n : ℕ) → n ≡ 1 → eqb n 1 ≡ true
set n e = eq-eqb n 1 e

clear : (n : ℕ) → n ≡ 0 → eqb n 1 ≡ false
clear n e = ne_eqb n 1 (λ one. absurd (omega arith))

flags : (r a t : Bool) (opcode : ℕ) → opcode < 16 → AreFlags r a t opcode (high_of r a t opcode)
flags true true true n h = record { top = set _ (omega arith); second = set _ (omega arith); first = set _ (omega arith); code = omega arith }
flags true true false n h = record { top = set _ (omega arith); second = set _ (omega arith); first = clear _ (omega arith); code = omega arith }
flags true false true n h = record { top = set _ (omega arith); second = clear _ (omega arith); first = set _ (omega arith); code = omega arith }
flags true false false n h = record { top = set _ (omega arith); second = clear _ (omega arith); first = clear _ (omega arith); code = omega arith }
flags false true true n h = record { top = clear _ (omega arith); second = set _ (omega arith); first = set _ (omega arith); code = omega arith }
flags false true false n h = record { top = clear _ (omega arith); second = set _ (omega arith); first = clear _ (omega arith); code = omega arith }
flags false false true n h = record { top = clear _ (omega arith); second = clear _ (omega arith); first = set _ (omega arith); code = omega arith }
flags false false false n h = record { top = clear _ (omega arith); second = clear _ (omega arith); first = clear _ (omega arith); code = omega arith }

-- What the header says, read where it was written.
pub record IsHeaderRead (bytes : List ℕ) (m : Message) : Type 0 where
  pub message : with_header bytes (m.questions, m.answers, m.authority, m.additional) ≡ m
  pub questions : u16_in bytes 4 ≡ length m.questions
  pub answers : u16_in bytes 6 ≡ length m.answers
  pub authority : u16_in bytes 8 ≡ length m.authority
  pub additional : u16_in bytes 10 ≡ length m.additional

joined : (bytes : List ℕ) (m : Message) → u16_in bytes 0 ≡ m.id → get_or bytes 2 0 ≡ high_of m.response m.authoritative m.truncated m.opcode → get_or bytes 3 0 ≡ m.rcode % 16
    → m.opcode < 16 → m.rcode < 16 → with_header bytes (m.questions, m.answers, m.authority, m.additional) ≡ m
joined bytes m i h l small little =
    let f = flags m.response m.authoritative m.truncated m.opcode small in
    let low : m.rcode % 16 ≡ m.rcode = omega arith in
    let code : get_or bytes 3 0 ≡ m.rcode = l ∙ low in
    rw (h, code, i, low, f.top, f.second, f.first, f.code) refl

pub header_read : (bytes : List ℕ) (m : Message) → m.id < 2 ^ 16 → m.opcode < 16 → m.rcode < 16
    → length m.questions < 2 ^ 16 → length m.answers < 2 ^ 16 → length m.authority < 2 ^ 16 → length m.additional < 2 ^ 16
    → Stands bytes 0 (header m) → IsHeaderRead bytes m
unfolding header
header_read bytes m hi ho hr hq ha hu hd s =
    let i = to_be_bytes w16 m.id in
    let q = to_be_bytes w16 (length m.questions) in
    let a = to_be_bytes w16 (length m.answers) in
    let u = to_be_bytes w16 (length m.authority) in
    let d = to_be_bytes w16 (length m.additional) in
    let counts : Stands bytes 4 (count_bytes m) = last_part bytes 0 (i ++ flag_bytes m) (count_bytes m) s in
    let front = first_part bytes 0 (i ++ flag_bytes m) (count_bytes m) s in
    let flag : Stands bytes 2 (flag_bytes m) = last_part bytes 0 i (flag_bytes m) front in
    let three = first_part bytes 4 ((q ++ a) ++ u) d counts in
    let pair = first_part bytes 4 (q ++ a) u three in
    let high = index_is bytes 2 (high_of m.response m.authoritative m.truncated m.opcode) (m.rcode % 16 ∷ []) flag in
    let low = index_is bytes 3 (m.rcode % 16) [] (last_part bytes 2 (high_of m.response m.authoritative m.truncated m.opcode ∷ []) (m.rcode % 16 ∷ []) flag) in
    record {
      message = joined bytes m (u16_is bytes 0 m.id hi (first_part bytes 0 i (flag_bytes m) front)) high low ho hr;
      questions = u16_is bytes 4 (length m.questions) hq (first_part bytes 4 q a pair);
      answers = u16_is bytes 6 (length m.answers) ha (last_part bytes 4 q a pair);
      authority = u16_is bytes 8 (length m.authority) hu (last_part bytes 4 (q ++ a) u three);
      additional = u16_is bytes 10 (length m.additional) hd (last_part bytes 4 ((q ++ a) ++ u) d counts);
    }
