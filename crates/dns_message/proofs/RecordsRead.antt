-- Records and questions, as they are written behind names, are read again.
use Rattle.std.proofs.Common.{◌≡◌, ℕ, ◌+◌, ◌<◌, ◌≤◌, ◌^◌, ◌++◌, ◌&&◌, List, [], ◌∷◌, Bool, true, false, length, refl, arith, Option, Some, Result, Ok, length-append}
use Rattle.std.proofs.lemmas.Bool.{and_parts}
use Rattle.std.specs.Int.{to_be_bytes, w16, w32}
use Rattle.std.specs.List.{list_all}
use Rattle.dns_record.specs.Records.{kind_of}
use Rattle.dns_record.specs.declared.record.Rr.{Rr}
use Rattle.dns_record.specs.declared.record.Question.{Question}
use Rattle.dns_message.specs.declared.message.MessageError.{MessageError}
use Rattle.dns_message.specs.Reading.{record_at, question_at, all_at}
use Rattle.dns_pointers.specs.Writing.{Offsets, Piece, onto, written_name}
use Rattle.dns_message.specs.Writing.{class_word, written_data, written_record, written_question, written_all, is_below, is_spellable_name, is_spellable_data, is_spellable_record, is_spellable_question}
use Rattle.dns_pointers.proofs.Standing.{Stands, within, first_part, last_part, moved, u16_is, u32_is}
use Rattle.dns_pointers.proofs.Tables.{IsTable, raised}
use Rattle.dns_pointers.proofs.NamesRead.{IsNameRead, name_read}
use Rattle.dns_message.proofs.DataRead.{IsDataRead, data_read, below, spellable_name, kind_is}
use Rattle.dns_message.proofs.RecordSteps.{class_is, record_step, question_step}

-- A thing is read where it was written, and the names after it are a table.
pub record IsThingRead {X : Type 0} (thing_at : ℕ → Result (Option X × ℕ) MessageError) (bytes : List ℕ) (at : ℕ) (x : X) (piece : Piece) : Type 0 where
  pub read : thing_at at ≡ Ok (Some x, at + length piece.bytes)
  pub table : IsTable bytes piece.names (at + length piece.bytes)

two : (bit : Bool) → length (class_word bit) ≡ 2
two true = refl
two false = refl

-- where the parts of a record stand
record IsLaid (bytes : List ℕ) (at : ℕ) (o k c t l d : List ℕ) : Type 0 where
  pub owner : Stands bytes at o
  pub kind : Stands bytes (at + length o) k
  pub class : Stands bytes (at + length o + 2) c
  pub ttl : Stands bytes (at + length o + 4) t
  pub size : Stands bytes (at + length o + 8) l
  pub rdata : Stands bytes (at + length o + 10) d
  pub whole : at + length (((((o ++ k) ++ c) ++ t) ++ l) ++ d) ≡ at + length o + 10 + length d

laid : (bytes : List ℕ) (at : ℕ) (o k c t l d : List ℕ) → length k ≡ 2 → length c ≡ 2 → length t ≡ 4 → length l ≡ 2
    → Stands bytes at (((((o ++ k) ++ c) ++ t) ++ l) ++ d) → IsLaid bytes at o k c t l d
laid bytes at o k c t l d hk hc ht hl s =
    let n1 = length-append o k in
    let n2 = length-append (o ++ k) c in
    let n3 = length-append ((o ++ k) ++ c) t in
    let n4 = length-append (((o ++ k) ++ c) ++ t) l in
    let n5 = length-append ((((o ++ k) ++ c) ++ t) ++ l) d in
    let s5 = first_part bytes at ((((o ++ k) ++ c) ++ t) ++ l) d s in
    let s4 = first_part bytes at (((o ++ k) ++ c) ++ t) l s5 in
    let s3 = first_part bytes at ((o ++ k) ++ c) t s4 in
    let s2 = first_part bytes at (o ++ k) c s3 in
    record {
      owner = first_part bytes at o k s2;
      kind = last_part bytes at o k s2;
      class = moved bytes (at + length (o ++ k)) (at + length o + 2) c (last_part bytes at (o ++ k) c s3) (omega arith);
      ttl = moved bytes (at + length ((o ++ k) ++ c)) (at + length o + 4) t (last_part bytes at ((o ++ k) ++ c) t s4) (omega arith);
      size = moved bytes (at + length (((o ++ k) ++ c) ++ t)) (at + length o + 8) l (last_part bytes at (((o ++ k) ++ c) ++ t) l s5) (omega arith);
      rdata = moved bytes (at + length ((((o ++ k) ++ c) ++ t) ++ l)) (at + length o + 10) d (last_part bytes at ((((o ++ k) ++ c) ++ t) ++ l) d s) (omega arith);
      whole = omega arith;
    }

-- a record of the pieces of its names
record_of : (bytes : List ℕ) (at : ℕ) (rr : Rr) (o d : Piece) → length bytes ≤ 8972 → is_spellable_record rr ≡ true
    → IsNameRead bytes at rr.owner o → IsDataRead bytes (at + length o.bytes + 10) rr.rdata d
    → IsLaid bytes at o.bytes (to_be_bytes w16 (kind_of rr.rdata)) (class_word rr.flush) (to_be_bytes w32 rr.ttl) (to_be_bytes w16 (length d.bytes)) d.bytes
    → IsThingRead (record_at bytes) bytes at rr
    (onto (o.bytes ++ to_be_bytes w16 (kind_of rr.rdata) ++ class_word rr.flush ++ to_be_bytes w32 rr.ttl ++ to_be_bytes w16 (length d.bytes)) d)
record_of bytes at rr o d few h n r s =
    let h1 = and_parts (is_spellable_name rr.owner && is_below 32 rr.ttl) (is_spellable_data rr.rdata) h in
    let h2 = and_parts (is_spellable_name rr.owner) (is_below 32 rr.ttl) h1.0 in
    let kind = kind_is rr.rdata h1.1 in
    let room : at + length o.bytes + 10 + length d.bytes ≤ length bytes = within bytes (at + length o.bytes + 10) d.bytes s.rdata in
    let small : length d.bytes < 2 ^ 16 = omega arith in
    let whole = s.whole in
    let k = u16_is bytes (at + length o.bytes) (kind_of rr.rdata) kind.small s.kind in
    let c = class_is bytes (at + length o.bytes + 2) rr.flush s.class in
    let t = u32_is bytes (at + length o.bytes + 4) rr.ttl (below 32 rr.ttl h2.1) s.ttl in
    let l = u16_is bytes (at + length o.bytes + 8) (length d.bytes) small s.size in
    record {
      read = rw s.whole (record_step bytes at (at + length o.bytes) (length d.bytes) (kind_of rr.rdata) rr n.read k kind.kept c t l room r.read);
      table = rw s.whole r.table;
    }

pub record_read : (bytes : List ℕ) (names : Offsets) (at : ℕ) (rr : Rr) → length bytes ≤ 8972 → is_spellable_record rr ≡ true → IsTable bytes names at
    → Stands bytes at (written_record names at rr).bytes → IsThingRead (record_at bytes) bytes at rr (written_record names at rr)
unfolding written_record
record_read bytes names at rr few h t s =
    let h1 = and_parts (is_spellable_name rr.owner && is_below 32 rr.ttl) (is_spellable_data rr.rdata) h in
    let h2 = and_parts (is_spellable_name rr.owner) (is_below 32 rr.ttl) h1.0 in
    let o = written_name names at rr.owner in
    let d = written_data (written_name names at rr.owner).names (at + length (written_name names at rr.owner).bytes + 10) rr.rdata in
    let parts = laid bytes at o.bytes (to_be_bytes w16 (kind_of rr.rdata)) (class_word rr.flush) (to_be_bytes w32 rr.ttl) (to_be_bytes w16 (length d.bytes)) d.bytes refl (two rr.flush) refl refl s in
    let n = name_read bytes at names rr.owner few (spellable_name rr.owner h2.0) t parts.owner in
    let table = raised bytes (written_name names at rr.owner).names (at + length (written_name names at rr.owner).bytes) (at + length (written_name names at rr.owner).bytes + 10) (omega arith) n.table in
    let r = data_read bytes (at + length (written_name names at rr.owner).bytes + 10) (written_name names at rr.owner).names rr.rdata few h1.1 table parts.rdata in
    record_of bytes at rr o d few h n r parts

-- a question of the piece of its name
question_of : (bytes : List ℕ) (at : ℕ) (question : Question) (o : Piece) (k c : List ℕ) → IsNameRead bytes at question.name o → question.kind < 2 ^ 16
    → k ≡ to_be_bytes w16 question.kind → c ≡ class_word question.unicast → length k ≡ 2 → length c ≡ 2
    → Stands bytes at ((o.bytes ++ k) ++ c) → IsThingRead (question_at bytes) bytes at question (record { bytes = (o.bytes ++ k) ++ c; names = o.names })
question_of bytes at question o k c n small ek ec hk hc s =
    let n1 = length-append o.bytes k in
    let n2 = length-append (o.bytes ++ k) c in
    let whole : at + length ((o.bytes ++ k) ++ c) ≡ at + length o.bytes + 4 = omega arith in
    let front = first_part bytes at (o.bytes ++ k) c s in
    let kind : Stands bytes (at + length o.bytes) (to_be_bytes w16 question.kind) = rw (← ek) (last_part bytes at o.bytes k front) in
    let place : at + length (o.bytes ++ k) ≡ at + length o.bytes + 2 = omega arith in
    let class : Stands bytes (at + length o.bytes + 2) (class_word question.unicast) =
    rw (← ec) (moved bytes (at + length (o.bytes ++ k)) (at + length o.bytes + 2) c (last_part bytes at (o.bytes ++ k) c s) place) in
    let room : at + length o.bytes + 4 ≤ length bytes = omega (arith, within bytes at ((o.bytes ++ k) ++ c) s) in
    record {
      read = rw whole (question_step bytes at (at + length o.bytes) question n.read (u16_is bytes (at + length o.bytes) question.kind small kind)
          (class_is bytes (at + length o.bytes + 2) question.unicast class) room);
      table = rw whole (raised bytes o.names (at + length o.bytes) (at + length o.bytes + 4) (omega arith) n.table);
    }

pub question_read : (bytes : List ℕ) (names : Offsets) (at : ℕ) (question : Question) → length bytes ≤ 8972 → is_spellable_question question ≡ true → IsTable bytes names at
    → Stands bytes at (written_question names at question).bytes → IsThingRead (question_at bytes) bytes at question (written_question names at question)
unfolding written_question
question_read bytes names at question few h t s =
    let h1 = and_parts (is_spellable_name question.name) (is_below 16 question.kind) h in
    let o = written_name names at question.name in
    let k = to_be_bytes w16 question.kind in
    let c = class_word question.unicast in
    let owner = first_part bytes at o.bytes k (first_part bytes at (o.bytes ++ k) c s) in
    let n = name_read bytes at names question.name few (spellable_name question.name h1.0) t owner in
    question_of bytes at question o k c n (below 16 question.kind h1.1) refl refl refl (two question.unicast) s

-- Things in a row are read where they were written.
pub record AreRead {X : Type 0} (thing_at : ℕ → Result (Option X × ℕ) MessageError) (bytes : List ℕ) (at : ℕ) (xs : List X) (piece : Piece) : Type 0 where
  pub read : all_at thing_at (length xs) at ≡ Ok (xs, at + length piece.bytes)
  pub table : IsTable bytes piece.names (at + length piece.bytes)

none_read : {X : Type 0} (thing_at : ℕ → Result (Option X × ℕ) MessageError) (bytes : List ℕ) (names : Offsets) (at : ℕ) → IsTable bytes names at
    → AreRead thing_at bytes at [] (record { bytes = []; names = names })
unfolding all_at
none_read {X} thing_at bytes names at t =
    let place : at + 0 ≡ at = omega arith in
    record { read = rw place refl; table = rw place t }

more_read : {X : Type 0} (thing_at : ℕ → Result (Option X × ℕ) MessageError) (bytes : List ℕ) (at : ℕ) (x : X) (xs : List X) (first rest : Piece)
    → IsThingRead thing_at bytes at x first → AreRead thing_at bytes (at + length first.bytes) xs rest → AreRead thing_at bytes at (x ∷ xs) (onto first.bytes rest)
unfolding all_at
more_read thing_at bytes at x xs first rest f r =
    let place : at + length (first.bytes ++ rest.bytes) ≡ at + length first.bytes + length rest.bytes = omega (arith, length-append first.bytes rest.bytes) in
    record { read = rw (place, f.read, r.read) refl; table = rw place r.table }

pub all_read : {X : Type 0} (thing_at : ℕ → Result (Option X × ℕ) MessageError) (written : Offsets → ℕ → X → Piece) (good : X → Bool) (bytes : List ℕ)
    → ((names : Offsets) (at : ℕ) (x : X) → good x ≡ true → IsTable bytes names at → Stands bytes at (written names at x).bytes → IsThingRead thing_at bytes at x (written names at x))
    → (names : Offsets) (at : ℕ) (xs : List X) → list_all good xs ≡ true → IsTable bytes names at → Stands bytes at (written_all written names at xs).bytes
    → AreRead thing_at bytes at xs (written_all written names at xs)
unfolding written_all
all_read thing_at written good bytes each names at [] h t s = none_read thing_at bytes names at t
all_read thing_at written good bytes each names at (x ∷ xs) h t s =
    let g = and_parts (good x) (list_all good xs) h in
    let rest = written_all written (written names at x).names (at + length (written names at x).bytes) xs in
    let first = each names at x g.0 t (first_part bytes at (written names at x).bytes rest.bytes s) in
    more_read thing_at bytes at x xs (written names at x) rest first
    (all_read thing_at written good bytes each (written names at x).names (at + length (written names at x).bytes) xs g.1 first.table (last_part bytes at (written names at x).bytes rest.bytes s))
