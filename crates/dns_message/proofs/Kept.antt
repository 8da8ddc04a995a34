-- What is written leaves the names that were written before.
use Rattle.std.proofs.Common.{◌≡◌, ℕ, ◌+◌, ◌++◌, List, [], ◌∷◌, ◌∙◌, length, take, refl, ap, sym, arith, min, cond, append-nil, append_assoc, Option, Some, None}
use Rattle.std.specs.Prelude.{nat_le}
use Rattle.std.proofs.Math.Seq.{take-append_seam}
use Rattle.dns_record.specs.declared.record.Rr.{Rr}
use Rattle.dns_record.specs.declared.record.Question.{Question}
use Rattle.dns_record.specs.declared.record.Rdata.{Rdata}
use Rattle.dns_record.specs.declared.record.Rdata.TheVariants.{A, Aaaa, Ptr, Cname, Srv, Txt, Nsec, Raw}
use Rattle.dns_pointers.specs.Writing.{Offsets, Piece, onto, offset_of, pointer_or, written_name}
use Rattle.dns_message.specs.Writing.{written_question, written_data, written_record}

-- Some names stand before others.
pub record AreBefore (names after : Offsets) : Type 0 where
  pub more : Offsets
  pub whole : after ≡ names ++ more

themselves : (names : Offsets) → AreBefore names names
themselves names = record { more = []; whole = sym (append-nil names) }

then : (names between after : Offsets) → AreBefore names between → AreBefore between after → AreBefore names after
then names between after h k = record {
  more = h.more ++ k.more;
  whole = k.whole ∙ ap (λ (l : Offsets). l ++ k.more) h.whole ∙ append_assoc names h.more k.more;
}

name_kept : (names : Offsets) (at : ℕ) (name : List (List ℕ)) → AreBefore names (written_name names at name).names
unfolding written_name
name_kept names at [] = themselves names
name_kept names at (label ∷ rest) = by (offset_of (label ∷ rest) names) (name_kept (names ++ (label ∷ rest, at) ∷ []) (at + 1 + length label) rest)
  where
    tail : Piece
    tail = written_name (names ++ (label ∷ rest, at) ∷ []) (at + 1 + length label) rest

    by : (o : Option ℕ) → AreBefore (names ++ (label ∷ rest, at) ∷ []) tail.names → AreBefore names (pointer_or o names (onto (length label ∷ label) tail)).names
    by (Some offset) h = themselves names
    by None h = record { more = (label ∷ rest, at) ∷ h.more; whole = h.whole ∙ append_assoc names ((label ∷ rest, at) ∷ []) h.more }

data_kept : (names : Offsets) (at : ℕ) (rdata : Rdata) → AreBefore names (written_data names at rdata).names
unfolding written_data
data_kept names at (A address) = themselves names
data_kept names at (Aaaa address) = themselves names
data_kept names at (Ptr name) = name_kept names at name
data_kept names at (Cname name) = name_kept names at name
data_kept names at (Srv priority weight port target) = themselves names
data_kept names at (Txt bytes) = themselves names
data_kept names at (Nsec next bitmap) = themselves names
data_kept names at (Raw kind bytes) = themselves names

question_kept : (names : Offsets) (at : ℕ) (question : Question) → AreBefore names (written_question names at question).names
unfolding written_question
question_kept names at question = name_kept names at question.name

record_kept : (names : Offsets) (at : ℕ) (rr : Rr) → AreBefore names (written_record names at rr).names
unfolding written_record
record_kept names at rr =
    let owner = written_name names at rr.owner in
    then names owner.names (written_record names at rr).names (name_kept names at rr.owner) (data_kept owner.names (at + length owner.bytes + 10) rr.rdata)

cut_back : (names after : Offsets) → AreBefore names after → take (length names) after ≡ names
cut_back names after h = ap (take (length names)) h.whole ∙ take-append_seam names h.more

pub question_cut : (names : Offsets) (at : ℕ) (question : Question) → take (length names) (written_question names at question).names ≡ names
question_cut names at question = cut_back names (written_question names at question).names (question_kept names at question)

pub record_cut : (names : Offsets) (at : ℕ) (rr : Rr) → take (length names) (written_record names at rr).names ≡ names
record_cut names at rr = cut_back names (written_record names at rr).names (record_kept names at rr)

-- what is kept of a piece that was written: all of it, or nothing
pub all_or_nothing : (old mid new : ℕ × Offsets) (piece : Piece) (most len count : ℕ) → len ≡ old.0 → count ≡ length old.1 → mid.0 ≡ old.0 + length piece.bytes
    → mid.1 ≡ piece.names → take (length old.1) piece.names ≡ old.1 → new ≡ cond (nat_le mid.0 most) mid (min len mid.0, take count mid.1)
    → new ≡ cond (nat_le (old.0 + length piece.bytes) most) (old.0 + length piece.bytes, piece.names) old
all_or_nothing old mid new piece most len count l c size names cut e =
    let shorter : min old.0 (old.0 + length piece.bytes) ≡ old.0 = omega arith in
    let whole : mid ≡ (old.0 + length piece.bytes, piece.names) = rw (sym size, sym names) refl in
    e ∙ rw (whole, l, c, shorter, cut) refl
