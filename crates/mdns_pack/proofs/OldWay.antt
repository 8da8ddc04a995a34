-- The reply in the old way: what is plain is as long as what is not, and the parts of a list that is made plain.
use Rattle.std.proofs.Common.{◌≡◌, ℕ, ◌+◌, ◌-◌, ◌<◌, ◌≤◌, Bool, true, false, cond, List, [], ◌∷◌, ◌++◌, length, map, take, drop, refl, ap, sym, ◌∙◌, arith, length-append, length-drop, append-nil}
use Rattle.std.specs.Prelude.{nat_le, nat_lt, min}
use Rattle.std.specs.Int.{to_be_bytes, w16, w32}
use Rattle.std.proofs.lemmas.List.{length-map, map-append}
use Rattle.std.proofs.lemmas.Bool.{lt-ltb, le-ltb}
use Rattle.dns_record.specs.declared.record.Rr.{Rr}
use Rattle.dns_record.specs.declared.record.Question.{Question}
use Rattle.dns_record.specs.Records.{kind_of}
use Rattle.dns_message.specs.declared.message.Message.{Message}
use Rattle.dns_pointers.specs.Writing.{Offsets, Piece, written_name}
use Rattle.dns_message.specs.Writing.{class_word, written_question, written_data, written_record, written_all, written}
use Rattle.dns_message.specs.Packing.{is_within_length, packet_length, parts_from, parts_of, first_part, plain_question, plain_record, legacy_reply, repeated_questions, pack_legacy}
use Rattle.dns_message.specs.Drafting.{records_of}
use Rattle.dns_message.proofs.Whole.{questions_of}
use Rattle.dns_message.proofs.Drafts.{records_in, size_is}

-- Two pieces are as long, and the same names were written with them.
pub record IsAlike (left right : Piece) : Type 0 where
  pub size : length left.bytes ≡ length right.bytes
  pub names_are : left.names ≡ right.names

class_long : (bit : Bool) → length (class_word bit) ≡ 2
class_long true = refl
class_long false = refl

question_alike : (names : Offsets) (at : ℕ) (question : Question) → IsAlike (written_question names at (plain_question question)) (written_question names at question)
unfolding written_question
question_alike names at question =
    let name = written_name names at question.name in
    let front = name.bytes ++ to_be_bytes w16 question.kind in
    record {
      size = omega (arith, length-append front (class_word false), length-append front (class_word question.unicast), class_long false, class_long question.unicast);
      names_are = refl;
    }

-- what stands before the data of a record
abbrev head_bytes : ℕ → List ℕ → Bool → ℕ → List ℕ → List ℕ
head_bytes kind owner flush ttl size = owner ++ to_be_bytes w16 kind ++ class_word flush ++ to_be_bytes w32 ttl ++ size

length-head : (kind : ℕ) (owner : List ℕ) (flush : Bool) (ttl : ℕ) (size : List ℕ) → length (head_bytes kind owner flush ttl size) ≡ length owner + 8 + length size
length-head kind owner flush ttl size =
    omega (
      arith,
      length-append (owner ++ to_be_bytes w16 kind ++ class_word flush ++ to_be_bytes w32 ttl) size,
      length-append (owner ++ to_be_bytes w16 kind ++ class_word flush) (to_be_bytes w32 ttl),
      length-append (owner ++ to_be_bytes w16 kind) (class_word flush),
      length-append owner (to_be_bytes w16 kind),
      class_long flush,
    )

pub record_long : (kind : ℕ) (owner size bytes : List ℕ) (flush other : Bool) (ttl time : ℕ) →
    length (head_bytes kind owner flush ttl size ++ bytes) ≡ length (head_bytes kind owner other time size ++ bytes)
record_long kind owner size bytes flush other ttl time =
    length-append (head_bytes kind owner flush ttl size) bytes
    ∙ ap (λ (n : ℕ). n + length bytes) (length-head kind owner flush ttl size ∙ sym (length-head kind owner other time size))
    ∙ sym (length-append (head_bytes kind owner other time size) bytes)

record_alike : (names : Offsets) (at : ℕ) (rr : Rr) → IsAlike (written_record names at (plain_record rr)) (written_record names at rr)
unfolding written_record
record_alike names at rr =
    let owner = written_name names at rr.owner in
    let rdata = written_data owner.names (at + length owner.bytes + 10) rr.rdata in
    record { size = record_long (kind_of rr.rdata) owner.bytes (to_be_bytes w16 (length rdata.bytes)) rdata.bytes false rr.flush (min rr.ttl 10) rr.ttl; names_are = refl }

-- things in a row, each alike
pub all_alike : {X : Type 0} (write : Offsets → ℕ → X → Piece) (plain : X → X) → ((names : Offsets) (at : ℕ) (x : X) → IsAlike (write names at (plain x)) (write names at x)) →
    (names : Offsets) (at : ℕ) (xs : List X) → IsAlike (written_all write names at (map plain xs)) (written_all write names at xs)
unfolding written_all
all_alike write plain each names at [] = record { size = refl; names_are = refl }
all_alike {X = X} write plain each names at (x ∷ xs) =
    let left = write names at (plain x) in
    let right = write names at x in
    let same = each names at x in
    let place : at + length left.bytes ≡ at + length right.bytes = ap (λ (n : ℕ). at + n) same.size in
    let rest = all_alike write plain each right.names (at + length right.bytes) xs in
    let moved : written_all write left.names (at + length left.bytes) (map plain xs) ≡ written_all write right.names (at + length right.bytes) (map plain xs) =
    ap (λ (n : ℕ). written_all write left.names n (map plain xs)) place ∙ ap (λ (ns : Offsets). written_all write ns (at + length right.bytes) (map plain xs)) same.names_are in
    record {
      size =
          length-append left.bytes (written_all write left.names (at + length left.bytes) (map plain xs)).bytes
          ∙ ap (λ (n : ℕ). n + length (written_all write left.names (at + length left.bytes) (map plain xs)).bytes) same.size
          ∙ ap (λ (p : Piece). length right.bytes + length p.bytes) moved
          ∙ ap (λ (n : ℕ). length right.bytes + n) rest.size
          ∙ sym (length-append right.bytes (written_all write right.names (at + length right.bytes) xs).bytes);
      names_are = ap (λ (p : Piece). p.names) moved ∙ rest.names_are;
    }

-- a reply of plain questions and records is as long as one that has them as they are, whatever the ID
same_length : (id : ℕ) (questions : List Question) (answers : List Rr) →
    length (written (legacy_reply id (map plain_question questions) (map plain_record answers) false)) ≡ length (written (legacy_reply 0 questions answers false))
same_length id questions answers =
    let left : Message = legacy_reply id (map plain_question questions) (map plain_record answers) false in
    let right : Message = legacy_reply 0 questions answers false in
    let asked = all_alike written_question plain_question question_alike [] 12 questions in
    let place : ℕ = 12 + length (questions_of right).bytes in
    let listed = all_alike written_record plain_record record_alike (questions_of right).names place (records_of right) in
    let moved : records_in left ≡ written_all written_record (questions_of right).names place (map plain_record (records_of right)) =
    ap (λ (names : Offsets). written_all written_record names (12 + length (questions_of left).bytes) (records_of left)) asked.names_are
    ∙ ap (λ (n : ℕ). written_all written_record (questions_of right).names (12 + n) (records_of left)) asked.size
    ∙ ap (λ (rrs : List Rr). written_all written_record (questions_of right).names place rrs) records_same in
    omega (arith, size_is left, size_is right, asked.size, ap (λ (p : Piece). length p.bytes) moved, listed.size)
  where
    none : (rrs : List Rr) → (rrs ++ []) ++ [] ≡ rrs
    none rrs = append-nil (rrs ++ []) ∙ append-nil rrs

    records_same : (map plain_record answers ++ []) ++ [] ≡ map plain_record ((answers ++ []) ++ [])
    records_same = none (map plain_record answers) ∙ ap (map plain_record) (sym (none answers))

pub same_within : (most id : ℕ) (questions : List Question) (answers : List Rr) →
    is_within_length most (legacy_reply id (map plain_question questions) (map plain_record answers) false) ≡ is_within_length most (legacy_reply 0 questions answers false)
same_within most id questions answers = ap (λ (n : ℕ). nat_le n most) (same_length id questions answers)

-- The parts of a list whose elements are made plain are those of the list, made plain, where a part so made passes as it does.
module _ {X : Type 0} (plain : X → X) (passes fitting : List X → Bool) (same : (part : List X) → passes (map plain part) ≡ fitting part) where
  parts_from-plain : (part xs : List X) → parts_from passes passes (map plain part) (map plain xs) ≡ map (map plain) (parts_from fitting fitting part xs)
  parts_from-plain part [] = refl
  parts_from-plain part (x ∷ xs) =
      ap (λ (l : List X). cond (passes l) (parts_from passes passes l (map plain xs)) cut) (sym (map-append plain part (x ∷ [])))
      ∙ ap (λ (b : Bool). cond b (parts_from passes passes (map plain (part ++ x ∷ [])) (map plain xs)) cut) (same (part ++ x ∷ []))
      ∙ at (fitting (part ++ x ∷ [])) (parts_from-plain (part ++ x ∷ []) xs) (parts_from-plain (x ∷ []) xs)
    where
      cut : List (List X)
      cut = map plain part ∷ parts_from passes passes (plain x ∷ []) (map plain xs)

      at : (b : Bool) → parts_from passes passes (map plain (part ++ x ∷ [])) (map plain xs) ≡ map (map plain) (parts_from fitting fitting (part ++ x ∷ []) xs) →
          parts_from passes passes (plain x ∷ []) (map plain xs) ≡ map (map plain) (parts_from fitting fitting (x ∷ []) xs) →
          cond b (parts_from passes passes (map plain (part ++ x ∷ [])) (map plain xs)) cut
          ≡ map (map plain) (cond b (parts_from fitting fitting (part ++ x ∷ []) xs) (part ∷ parts_from fitting fitting (x ∷ []) xs))
      at true grown next = grown
      at false grown next = ap (λ (parts : List (List X)). map plain part ∷ parts) next

  pub parts_of-plain : (xs : List X) → parts_of passes (map plain xs) ≡ map (map plain) (parts_of fitting xs)
  parts_of-plain [] = refl
  parts_of-plain (x ∷ xs) = parts_from-plain (x ∷ []) xs

  first_plain : (parts : List (List X)) → first_part (map (map plain) parts) ≡ map plain (first_part parts)
  first_plain [] = refl
  first_plain (part ∷ parts) = refl

  pub first_of-plain : (xs : List X) → first_part (parts_of passes (map plain xs)) ≡ map plain (first_part (parts_of fitting xs))
  first_of-plain xs = ap first_part (parts_of-plain xs) ∙ first_plain (parts_of fitting xs)

  pub length_of-plain : (xs : List X) → length (parts_of passes (map plain xs)) ≡ length (parts_of fitting xs)
  length_of-plain xs = ap length (parts_of-plain xs) ∙ length-map (parts_of fitting xs) (map plain)

-- there is a part
parts_some : {X : Type 0} (first later : List X → Bool) (part xs : List X) → 0 < length (parts_from first later part xs)
parts_some first later part [] = omega arith
parts_some {X = X} first later part (x ∷ xs) = at (first (part ++ x ∷ [])) (parts_some first later (part ++ x ∷ []) xs)
  where
    at : (b : Bool) → 0 < length (parts_from first later (part ++ x ∷ []) xs) →
        0 < length (cond b (parts_from first later (part ++ x ∷ []) xs) (part ∷ parts_from later later (x ∷ []) xs))
    at true h = h
    at false h = omega arith

-- There are further parts exactly where the first hasn't all elements.
pub more_parts : {X : Type 0} (fitting : List X → Bool) (xs : List X) (n : ℕ) → n ≤ length xs → parts_of fitting xs ≡ take n xs ∷ parts_of fitting (drop n xs) →
    nat_lt 1 (length (parts_of fitting xs)) ≡ nat_lt n (length xs)
more_parts {X = X} fitting xs n within e = ap (λ (parts : List (List X)). nat_lt 1 (length parts)) e ∙ at (drop n xs) (length-drop n xs)
  where
    at : (rest : List X) → length rest ≡ length xs - n → nat_lt 1 (length (take n xs ∷ parts_of fitting rest)) ≡ nat_lt n (length xs)
    at [] k = sym (le-ltb n (length xs) (omega (arith, k)))
    at (x ∷ rest) k =
        lt-ltb 1 (length (take n xs ∷ parts_from fitting fitting (x ∷ []) rest)) (omega (arith, parts_some fitting fitting (x ∷ []) rest)) ∙ sym (lt-ltb n (length xs) (omega (arith, k)))

-- the reply in the old way, by what was drafted as it was
pub legacy_is : (id : ℕ) (all questions : List Question) (rrs answers : List Rr) (truncated : Bool) →
    first_part (parts_of (λ (qs : List Question). is_within_length 512 (legacy_reply 0 qs [] false)) all) ≡ questions →
    first_part (parts_of (λ (part : List Rr). is_within_length packet_length (legacy_reply 0 questions part false)) rrs) ≡ answers →
    nat_lt 1 (length (parts_of (λ (part : List Rr). is_within_length packet_length (legacy_reply 0 questions part false)) rrs)) ≡ truncated →
    pack_legacy id all rrs ≡ legacy_reply id (map plain_question questions) (map plain_record answers) truncated
unfolding pack_legacy
legacy_is id all questions rrs answers truncated q a t =
    ap whole asked ∙ rw listed (rw more refl)
  where
    passes : List Question → Bool
    passes qs = is_within_length 512 (legacy_reply id qs [] false)

    asks : List Question → Bool
    asks qs = is_within_length 512 (legacy_reply 0 qs [] false)

    asked : repeated_questions id all ≡ map plain_question questions
    asked = first_of-plain plain_question passes asks (λ qs. same_within 512 id qs []) all ∙ ap (map plain_question) q

    fitting : List Rr → Bool
    fitting part = is_within_length packet_length (legacy_reply 0 questions part false)

    plain : List Rr → Bool
    plain part = is_within_length packet_length (legacy_reply id (map plain_question questions) part false)

    same : (part : List Rr) → plain (map plain_record part) ≡ fitting part
    same part = same_within packet_length id questions part

    listed : first_part (parts_of plain (map plain_record rrs)) ≡ map plain_record answers
    listed = first_of-plain plain_record plain fitting same rrs ∙ ap (map plain_record) a

    more : nat_lt 1 (length (parts_of plain (map plain_record rrs))) ≡ truncated
    more = ap (λ (n : ℕ). nat_lt 1 n) (length_of-plain plain_record plain fitting same rrs) ∙ t

    parts : List Question → List (List Rr)
    parts qs = parts_of (λ (part : List Rr). is_within_length packet_length (legacy_reply id qs part false)) (map plain_record rrs)

    whole : List Question → Message
    whole qs = legacy_reply id qs (first_part (parts qs)) (nat_lt 1 (length (parts qs)))

-- a message with another ID and flag, and with these questions and answers
abbrev pub made : ℕ → Bool → Message → List Question → List Rr → Message
made id truncated m questions answers =
    record {
      id = id;
      response = m.response;
      authoritative = m.authoritative;
      truncated = truncated;
      opcode = m.opcode;
      rcode = m.rcode;
      questions = questions;
      answers = answers;
      authority = m.authority;
      additional = m.additional;
    }

pub legacy_made : (id : ℕ) (all : List Question) (rrs : List Rr) (asked put : ℕ) (draft m : Message) (questions : List Question) (answers : List Rr) →
    draft ≡ legacy_reply 0 (take asked all) [] false →
    first_part (parts_of (λ (qs : List Question). is_within_length 512 (legacy_reply 0 qs [] false)) all) ≡ take asked all →
    m ≡ legacy_reply 0 draft.questions (take put rrs) false →
    first_part (parts_of (λ (part : List Rr). is_within_length packet_length (legacy_reply 0 draft.questions part false)) rrs) ≡ take put rrs →
    nat_lt 1 (length (parts_of (λ (part : List Rr). is_within_length packet_length (legacy_reply 0 draft.questions part false)) rrs)) ≡ nat_lt put (length rrs) →
    questions ≡ map plain_question (take asked all) → answers ≡ map plain_record m.answers →
    made id (nat_lt put (length rrs)) m questions answers ≡ pack_legacy id all rrs
legacy_made id all rrs asked put draft m questions answers d q e a t qs rs =
    let same : draft.questions ≡ take asked all = ap (λ (x : Message). x.questions) d in
    ap (λ (x : Message). made id (nat_lt put (length rrs)) x questions answers) e
    ∙ ap (λ (x : List Question). legacy_reply id x answers (nat_lt put (length rrs))) (qs ∙ ap (map plain_question) (sym same))
    ∙ ap (λ (x : List Rr). legacy_reply id (map plain_question draft.questions) x (nat_lt put (length rrs))) (rs ∙ ap (λ (x : Message). map plain_record x.answers) e)
    ∙ sym (legacy_is id all draft.questions rrs (take put rrs) (nat_lt put (length rrs)) (q ∙ sym same) a t)
