-- A message is its header, its questions and its records, one behind the other.
use Rattle.std.proofs.Common.{◌≡◌, ℕ, ◌+◌, ◌<◌, ◌≤◌, ◌++◌, List, [], ◌∙◌, length, refl, arith, ap, sym, append_assoc, length-append, Result, Err}
use Rattle.std.specs.Int.{to_be_bytes, w16, w32}
use Rattle.dns_record.specs.Records.{kind_of}
use Rattle.dns_record.specs.declared.record.Rr.{Rr}
use Rattle.dns_record.specs.declared.record.Question.{Question}
use Rattle.dns_message.specs.declared.message.Message.{Message}
use Rattle.dns_message.specs.declared.message.WriteError.{WriteError}
use Rattle.dns_message.specs.declared.message.WriteError.TheVariants.{TooLong, NoMemory}
use Rattle.dns_pointers.specs.Writing.{Offsets, Piece, written_name}
use Rattle.dns_message.specs.Writing.{class_word, header, written_data, written_question, written_record, written_all, written_body, written, item_count}
use Rattle.dns_message.proofs.Parts.{all_append, all_count}

-- the pieces of a message
abbrev pub questions_of : Message → Piece
questions_of m = written_all written_question [] 12 m.questions

abbrev pub answers_at : Message → ℕ
answers_at m = 12 + length (questions_of m).bytes

abbrev pub answers_of : Message → Piece
answers_of m = written_all written_record (questions_of m).names (answers_at m) m.answers

abbrev pub authority_at : Message → ℕ
authority_at m = answers_at m + length (answers_of m).bytes

abbrev pub authority_of : Message → Piece
authority_of m = written_all written_record (answers_of m).names (authority_at m) m.authority

abbrev pub additional_at : Message → ℕ
additional_at m = authority_at m + length (authority_of m).bytes

abbrev pub additional_of : Message → Piece
additional_of m = written_all written_record (authority_of m).names (additional_at m) m.additional

pub length-header : (m : Message) → length (header m) ≡ 12
unfolding header
length-header m = refl

body_is : (m : Message) → written_body m ≡ (questions_of m).bytes ++ (((answers_of m).bytes ++ (authority_of m).bytes) ++ (additional_of m).bytes)
unfolding written_body
body_is m =
    let front = all_append written_record (questions_of m).names (answers_at m) m.answers m.authority in
    let both = all_append written_record (questions_of m).names (answers_at m) (m.answers ++ m.authority) m.additional in
    let names : (written_all written_record (questions_of m).names (answers_at m) (m.answers ++ m.authority)).names ≡ (authority_of m).names = ap (λ (p : Piece). p.names) front in
    let bytes : (written_all written_record (questions_of m).names (answers_at m) (m.answers ++ m.authority)).bytes ≡ (answers_of m).bytes ++ (authority_of m).bytes = ap (λ (p : Piece). p.bytes) front in
    let place : answers_at m + length ((answers_of m).bytes ++ (authority_of m).bytes) ≡ additional_at m = omega (arith, length-append (answers_of m).bytes (authority_of m).bytes) in
    ap (λ (l : List ℕ). (questions_of m).bytes ++ l) (ap (λ (p : Piece). p.bytes) both ∙ rw (names, bytes, place) refl)

pub whole_is : (m : Message) → written m ≡ (((header m ++ (questions_of m).bytes) ++ (answers_of m).bytes) ++ (authority_of m).bytes) ++ (additional_of m).bytes
unfolding written
whole_is m = ap (λ (l : List ℕ). header m ++ l) (body_is m) ∙ simp append_assoc

pub length-whole : (m : Message) → length (written m) ≡ additional_at m + length (additional_of m).bytes
length-whole m =
    omega (
      arith,
      ap length (whole_is m),
      length-header m,
      length-append (header m) (questions_of m).bytes,
      length-append (header m ++ (questions_of m).bytes) (answers_of m).bytes,
      length-append ((header m ++ (questions_of m).bytes) ++ (answers_of m).bytes) (authority_of m).bytes,
      length-append (((header m ++ (questions_of m).bytes) ++ (answers_of m).bytes) ++ (authority_of m).bytes) (additional_of m).bytes,
    )

question_some : (names : Offsets) (at : ℕ) (q : Question) → 1 ≤ length (written_question names at q).bytes
unfolding written_question
question_some names at q =
    omega (
      arith,
      length-append ((written_name names at q.name).bytes ++ to_be_bytes w16 q.kind) (class_word q.unicast),
      length-append (written_name names at q.name).bytes (to_be_bytes w16 q.kind),
      two q.kind,
    )
  where
    two : (n : ℕ) → length (to_be_bytes w16 n) ≡ 2
    two n = refl

record_some : (names : Offsets) (at : ℕ) (rr : Rr) → 1 ≤ length (written_record names at rr).bytes
unfolding written_record
record_some names at rr =
    let owner = written_name names at rr.owner in
    let rdata = written_data (written_name names at rr.owner).names (at + length (written_name names at rr.owner).bytes + 10) rr.rdata in
    some (written_name names at rr.owner).bytes (to_be_bytes w16 (kind_of rr.rdata)) (class_word rr.flush) (to_be_bytes w32 rr.ttl) (to_be_bytes w16 (length rdata.bytes)) rdata.bytes refl
  where
    some : (a b c d e f : List ℕ) → length b ≡ 2 → 1 ≤ length ((a ++ b ++ c ++ d ++ e) ++ f)
    some a b c d e f h =
        omega (
          arith,
          length-append (a ++ b ++ c ++ d ++ e) f,
          length-append (a ++ b ++ c ++ d) e,
          length-append (a ++ b ++ c) d,
          length-append (a ++ b) c,
          length-append a b,
        )

-- a message has no more questions and records than bytes
pub count_short : (m : Message) → item_count m ≤ length (written m)
count_short m =
    omega (
      arith,
      length-whole m,
      all_count written_question question_some [] 12 m.questions,
      all_count written_record record_some (questions_of m).names (answers_at m) m.answers,
      all_count written_record record_some (answers_of m).names (authority_at m) m.authority,
      all_count written_record record_some (authority_of m).names (additional_at m) m.additional,
    )

-- A piece is known from where it begins and the names before it.
pub record IsStage (out before : List ℕ) (names : Offsets) (at : ℕ) (piece : Piece) : Type 0 where
  pub out_is : out ≡ before ++ piece.bytes
  pub names_are : names ≡ piece.names
  pub size : length out ≡ at + length piece.bytes

pub stage : {X : Type 0} (written : Offsets → ℕ → X → Piece) (names known now : Offsets) (before out : List ℕ) (at : ℕ) (xs ys : List X) → length before ≡ at → names ≡ known → xs ≡ ys
    → out ≡ before ++ (written_all written names (length before) xs).bytes → now ≡ (written_all written names (length before) xs).names
    → IsStage out before now at (written_all written known at ys)
stage written names known now before out at xs ys size same list e n =
    let o = rw (size, same, list) at e in
    let k = rw (size, same, list) at n in
    record { out_is = o; names_are = k; size = omega (arith, ap length o, length-append before (written_all written known at ys).bytes, size) }

pub stage_long : {X : Type 0} (written : Offsets → ℕ → X → Piece) (names known : Offsets) (before : List ℕ) (at limit : ℕ) (xs ys : List X) → length before ≡ at → names ≡ known → xs ≡ ys
    → limit < length before + length (written_all written names (length before) xs).bytes → limit < at + length (written_all written known at ys).bytes
stage_long written names known before at limit xs ys size same list h = rw (size, same, list) at h

-- the header is put first
pub record IsBegun (m : Message) (out : List ℕ) : Type 0 where
  pub out_is : out ≡ header m
  pub size : length out ≡ 12

pub begun : (m : Message) (start out : List ℕ) → start ≡ [] → out ≡ start ++ header m → IsBegun m out
begun m start out none e =
    let o : out ≡ header m = e ∙ ap (λ (l : List ℕ). l ++ header m) none in record { out_is = o; size = ap length o ∙ length-header m }

-- a message is known from its stages
pub put_together : (m : Message) (o1 o2 o3 o4 o5 : List ℕ) (n2 n3 n4 n5 : Offsets) → IsBegun m o1 → IsStage o2 o1 n2 12 (questions_of m) → IsStage o3 o2 n3 (answers_at m) (answers_of m)
    → IsStage o4 o3 n4 (authority_at m) (authority_of m) → IsStage o5 o4 n5 (additional_at m) (additional_of m) → o5 ≡ written m
put_together m o1 o2 o3 o4 o5 n2 n3 n4 n5 s1 s2 s3 s4 s5 =
    s5.out_is ∙ rw (s4.out_is, s3.out_is, s2.out_is, s1.out_is) (sym (whole_is m))

-- what is too long is no want of memory
pub not_memory : {T : Type 0} (r : Result T WriteError) (y e : WriteError) → r ≡ Err y → y ≡ e → r ≡ Err TooLong → e ≡ NoMemory → ⊥
not_memory r y e h k long none = cc
