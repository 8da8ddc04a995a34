-- A message that grows by one question or record after another.
use Rattle.std.proofs.Common.{◌≡◌, ℕ, ◌+◌, ◌<◌, ◌≤◌, ◌++◌, List, [], ◌∷◌, ◌∙◌, length, refl, arith, ap, sym, subst, length-append, append-nil}
use Rattle.dns_record.specs.declared.record.Rr.{Rr}
use Rattle.dns_record.specs.declared.record.Question.{Question}
use Rattle.dns_message.specs.declared.message.Message.{Message}
use Rattle.std.specs.Prelude.{nat_le, Bool, true, false, cond}
use Rattle.std.specs.Int.{to_be_bytes, w16, w32}
use Rattle.std.proofs.lemmas.Bool.{lt-leb, leb-true, leb-false}
use Rattle.dns_record.specs.Records.{kind_of}
use Rattle.dns_pointers.specs.Writing.{Offsets, Piece, written_name}
use Rattle.dns_message.specs.Writing.{class_word, header, written_question, written_data, written_record, written_all, written_body, written}
use Rattle.dns_message.specs.Packing.{is_within_length}
use Rattle.dns_message.specs.Drafting.{with_question, with_answer, records_of, written_names, IsDrafted}
use Rattle.dns_message.proofs.Parts.{all_append}
use Rattle.dns_message.proofs.Whole.{questions_of, length-header}

-- the records of a message, behind its questions
abbrev pub records_in : Message → Piece
records_in m = written_all written_record (questions_of m).names (12 + length (questions_of m).bytes) (records_of m)

pub size_is : (m : Message) → length (written m) ≡ 12 + length (questions_of m).bytes + length (records_in m).bytes
unfolding written written_body
size_is m =
    omega (
      arith,
      length-append (header m) ((questions_of m).bytes ++ (records_in m).bytes),
      length-append (questions_of m).bytes (records_in m).bytes,
      length-header m,
    )

-- A list of things was written, and one more behind them.
pub record IsOneMore (before after : Piece) (next : Piece) : Type 0 where
  pub size : length after.bytes ≡ length before.bytes + length next.bytes
  pub names_are : after.names ≡ next.names

one_more : {X : Type 0} (written : Offsets → ℕ → X → Piece) (names : Offsets) (at : ℕ) (xs : List X) (x : X)
    → let front = written_all written names at xs in
    IsOneMore front (written_all written names at (xs ++ x ∷ [])) (written front.names (at + length front.bytes) x)
unfolding written_all
one_more written names at xs x =
    let e = all_append written names at xs (x ∷ []) in
    record {
      size =
          ap (λ (p : Piece). length p.bytes) e
          ∙ length-append (written_all written names at xs).bytes
          ((written (written_all written names at xs).names (at + length (written_all written names at xs).bytes) x).bytes ++ [])
          ∙ ap (λ (l : List ℕ). length (written_all written names at xs).bytes + length l)
          (append-nil (written (written_all written names at xs).names (at + length (written_all written names at xs).bytes) x).bytes);
      names_are = ap (λ (p : Piece). p.names) e;
    }

-- a message after one more thing was written
pub record IsGrown (before after : Message) (next : Piece) : Type 0 where
  pub size : length (written after) ≡ length (written before) + length next.bytes
  pub names_are : written_names after ≡ next.names

pub record_grown : (m after : Message) (rr : Rr) → after.questions ≡ m.questions → records_of after ≡ records_of m ++ rr ∷ []
    → IsGrown m after (written_record (written_names m) (length (written m)) rr)
unfolding written_names
record_grown m after rr q r =
    let more = one_more written_record (questions_of m).names (12 + length (questions_of m).bytes) (records_of m) rr in
    let same : records_in after ≡ written_all written_record (questions_of m).names (12 + length (questions_of m).bytes) (records_of m ++ rr ∷ []) = rw (q, r) refl in
    let asked : length (questions_of after).bytes ≡ length (questions_of m).bytes = rw q refl in
    let place : length (written m) ≡ 12 + length (questions_of m).bytes + length (records_in m).bytes = size_is m in
    rw place
    (record {
      size = omega (arith, size_is after, size_is m, asked, more.size, ap (λ (p : Piece). length p.bytes) same);
      names_are = ap (λ (p : Piece). p.names) same ∙ more.names_are;
    })

pub question_grown : (m after : Message) (question : Question) → after.questions ≡ m.questions ++ question ∷ [] → records_of after ≡ [] → records_of m ≡ []
    → IsGrown m after (written_question (written_names m) (length (written m)) question)
unfolding written_names written_all
question_grown m after question q a r =
    let more = one_more written_question [] 12 m.questions question in
    let same : questions_of after ≡ written_all written_question [] 12 (m.questions ++ question ∷ []) = rw q refl in
    let none : length (records_in m).bytes ≡ 0 = rw r refl in
    let after_none : length (records_in after).bytes ≡ 0 = rw a refl in
    let names : (records_in m).names ≡ (questions_of m).names = rw r refl in
    let after_names : (records_in after).names ≡ (questions_of after).names = rw a refl in
    let place : length (written m) ≡ 12 + length (questions_of m).bytes = omega (arith, size_is m, none) in
    rw (place, names)
    (record {
      size = omega (arith, size_is after, place, after_none, more.size, ap (λ (p : Piece). length p.bytes) same);
      names_are = after_names ∙ ap (λ (p : Piece). p.names) same ∙ more.names_are;
    })

answer_records : (m : Message) (rr : Rr) → m.authority ≡ [] → m.additional ≡ [] → records_of (with_answer m rr) ≡ records_of m ++ rr ∷ []
answer_records m rr a d =
    rw (a, d)
    (append-nil ((m.answers ++ rr ∷ []) ++ []) ∙ append-nil (m.answers ++ rr ∷ []) ∙ sym (ap (λ (l : List Rr). l ++ rr ∷ []) (append-nil (m.answers ++ []) ∙ append-nil m.answers)))

-- A message with one more answer or question, as it is known from what was drafted.
pub answer_grown : (m : Message) (rr : Rr) → m.authority ≡ [] → m.additional ≡ []
    → IsGrown m (with_answer m rr) (written_record (written_names m) (length (written m)) rr)
answer_grown m rr a d = record_grown m (with_answer m rr) rr refl (answer_records m rr a d)

pub asked_grown : (m : Message) (question : Question) → records_of m ≡ []
    → IsGrown m (with_question m question) (written_question (written_names m) (length (written m)) question)
asked_grown m question none = question_grown m (with_question m question) question refl none none

-- what is known of the next thing from what was drafted
pub record IsNext (m after : Message) (len : ℕ) (piece : Piece) : Type 0 where
  pub size : length (written after) ≡ len + length piece.bytes
  pub names_are : written_names after ≡ piece.names

pub next_answer : (m : Message) (rr : Rr) (len : ℕ) (names : Offsets) → IsDrafted m len names → m.authority ≡ [] → m.additional ≡ []
    → IsNext m (with_answer m rr) len (written_record names len rr)
next_answer m rr len names h a d = let g = answer_grown m rr a d in rw (h.size, h.names_are) (record { size = g.size; names_are = g.names_are })

pub next_question : (m : Message) (question : Question) (len : ℕ) (names : Offsets) → IsDrafted m len names → records_of m ≡ []
    → IsNext m (with_question m question) len (written_question names len question)
next_question m question len names h none =
    let g = asked_grown m question none in rw (h.size, h.names_are) (record { size = g.size; names_are = g.names_are })

-- whether it fits
pub fits_is : (m after : Message) (len most : ℕ) (piece : Piece) → IsNext m after len piece → nat_le (len + length piece.bytes) most ≡ is_within_length most after
fits_is m after len most piece h = ap (λ (n : ℕ). nat_le n most) (sym h.size)

-- the draft where it fits
pub drafted_next : (m after : Message) (len most : ℕ) (piece : Piece) → IsNext m after len piece → most ≤ 8972 → nat_le (len + length piece.bytes) most ≡ true
    → IsDrafted after (len + length piece.bytes) piece.names
drafted_next m after len most piece h limit fits =
    record { size = sym h.size; names_are = sym h.names_are; most = omega (arith, leb-true (len + length piece.bytes) most fits, limit) }

-- a message that is too long grows no shorter
pub over_is : (m after : Message) (piece : Piece) (most : ℕ) → IsGrown m after piece → 8972 < length (written m) → most ≤ 8972 → false ≡ is_within_length most after
over_is m after piece most g h limit = sym (lt-leb (length (written after)) most (omega (arith, g.size, h, limit)))

-- data that are too long don't fit
long_record : (names : Offsets) (at : ℕ) (rr : Rr) → ((names : Offsets) (at : ℕ) → 8972 < length (written_data names at rr.rdata).bytes) → 8972 < length (written_record names at rr).bytes
unfolding written_record
long_record names at rr h =
    let owner = written_name names at rr.owner in
    let rdata = written_data owner.names (at + length owner.bytes + 10) rr.rdata in
    omega (
      arith,
      h owner.names (at + length owner.bytes + 10),
      length-append (owner.bytes ++ to_be_bytes w16 (kind_of rr.rdata) ++ class_word rr.flush ++ to_be_bytes w32 rr.ttl ++ to_be_bytes w16 (length rdata.bytes)) rdata.bytes,
    )

pub long_is : (m : Message) (rr : Rr) (most : ℕ) → m.authority ≡ [] → m.additional ≡ [] → most ≤ 8972
    → ((names : Offsets) (at : ℕ) → 8972 < length (written_data names at rr.rdata).bytes) → false ≡ is_within_length most (with_answer m rr)
long_is m rr most a d limit h =
    sym (lt-leb (length (written (with_answer m rr))) most (omega (arith, (answer_grown m rr a d).size, long_record (written_names m) (length (written m)) rr h, limit)))

-- what doesn't fit the longest message is too long
pub not_within : (m : Message) → false ≡ is_within_length 8972 m → 8972 < length (written m)
not_within m e = leb-false (length (written m)) 8972 (sym e)

names_none : (m : Message) → m.questions ≡ [] → records_of m ≡ [] → written_names m ≡ []
unfolding written_names written_all
names_none m q r =
    let listed : (records_in m).names ≡ (questions_of m).names = rw r refl in
    let asked : (questions_of m).names ≡ [] = rw q refl in
    listed ∙ asked

length_none : (m : Message) → m.questions ≡ [] → records_of m ≡ [] → length (written m) ≡ 12
unfolding written_all
length_none m q r =
    let asked : length (questions_of m).bytes ≡ 0 = rw q refl in
    let listed : length (records_in m).bytes ≡ 0 = rw r refl in
    omega (arith, size_is m, asked, listed)

-- no questions and no records
pub nothing_drafted : (m : Message) (w : ℕ × Offsets) → w ≡ (12, []) → m.questions ≡ [] → records_of m ≡ [] → IsDrafted m w.0 w.1
nothing_drafted m w e q r =
    let len : w.0 ≡ 12 = ap (λ (p : ℕ × Offsets). p.0) e in
    record {
      size = len ∙ sym (length_none m q r);
      names_are = ap (λ (p : ℕ × Offsets). p.1) e ∙ sym (names_none m q r);
      most = omega (arith, len);
    }

-- the one or the other of two, by a test
pub yes_is : {X : Type 0} (b : Bool) (x y : X) → true ≡ b → x ≡ cond b x y
yes_is true x y e = refl
yes_is false x y e = absurd (cc)

pub no_is : {X : Type 0} (b : Bool) (x y : X) → false ≡ b → y ≡ cond b x y
no_is true x y e = absurd (cc)
no_is false x y e = refl

-- a message with other answers, and with other questions
abbrev pub answering : Message → List Rr → Message
answering m answers =
    record {
      id = m.id;
      response = m.response;
      authoritative = m.authoritative;
      truncated = m.truncated;
      opcode = m.opcode;
      rcode = m.rcode;
      questions = m.questions;
      answers = answers;
      authority = m.authority;
      additional = m.additional;
    }

abbrev pub asking : Message → List Question → Message
asking m questions =
    record {
      id = m.id;
      response = m.response;
      authoritative = m.authoritative;
      truncated = m.truncated;
      opcode = m.opcode;
      rcode = m.rcode;
      questions = questions;
      answers = m.answers;
      authority = m.authority;
      additional = m.additional;
    }

-- the draft after a thing that fits was put
pub drafted_put : (m after now : Message) (old new : ℕ × Offsets) (piece : Piece) (most : ℕ) → IsNext m after old.0 piece → most ≤ 8972
    → true ≡ nat_le (old.0 + length piece.bytes) most → new ≡ cond (nat_le (old.0 + length piece.bytes) most) (old.0 + length piece.bytes, piece.names) old
    → now ≡ after → IsDrafted now new.0 new.1
drafted_put m after now old new piece most next limit fits e same =
    let whole : new ≡ (old.0 + length piece.bytes, piece.names) = e ∙ sym (yes_is (nat_le (old.0 + length piece.bytes) most) (old.0 + length piece.bytes, piece.names) old fits) in
    subst (λ (x : Message). IsDrafted x new.0 new.1) (sym same)
    (subst (λ (p : ℕ × Offsets). IsDrafted after p.0 p.1) (sym whole) (drafted_next m after old.0 most piece next limit (sym fits)))

pub answered : (m : Message) (answers : List Rr) (rr : Rr) → answers ≡ m.answers ++ rr ∷ [] → answering m answers ≡ with_answer m rr
answered m answers rr e = ap (answering m) e

pub asked : (m : Message) (questions : List Question) (question copy : Question) → copy ≡ question → questions ≡ m.questions ++ copy ∷ []
    → asking m questions ≡ with_question m question
asked m questions question copy c e = ap (asking m) (e ∙ ap (λ (x : Question). m.questions ++ x ∷ []) c)
