-- The bytes that a message is written as. Of the names in it, those of questions, owners, PTR and CNAME are compressed. (RFC 1035 4.1, RFC 6762 18.14)
use Rattle.std.specs.Prelude.{ℕ, ◌+◌, ◌*◌, ◌%◌, ◌^◌, Bool, true, false, List, [], ◌∷◌, ◌++◌, length, nat_lt, ◌&&◌, ◌≡◌, ◌≤◌, IsTrue}
use Rattle.std.specs.List.{list_all}
use Rattle.std.specs.Int.{to_be_bytes, w16, w32}
use Rattle.dns_name.specs.Names.{is_name}
use Rattle.dns_record.specs.Records.{kind_of, data_of, is_rdata}
use Rattle.dns_record.specs.declared.record.Rdata.{Rdata}
use Rattle.dns_record.specs.declared.record.Rdata.TheVariants.{A, Aaaa, Ptr, Cname, Srv, Txt, Nsec, Raw}
use Rattle.dns_record.specs.declared.record.Rr.{Rr}
use Rattle.dns_record.specs.declared.record.Question.{Question}
use Rattle.dns_pointers.specs.Writing.{Offsets, Piece, onto, written_name}
use Rattle.dns_message.specs.declared.message.Message.{Message}
use Rattle.dns_message.specs.Reading.{Spells}

-- the class IN with its top bit
abbrev pub class_word : Bool → List ℕ
class_word true = to_be_bytes w16 (2 ^ 15 + 1)
class_word false = to_be_bytes w16 1

-- a question at an offset
unfoldable pub written_question : Offsets → ℕ → Question → Piece
written_question names at question =
    let name = written_name names at question.name in
    record { bytes = name.bytes ++ to_be_bytes w16 question.kind ++ class_word question.unicast; names = name.names }

-- the data of a record at an offset
unfoldable pub written_data : Offsets → ℕ → Rdata → Piece
written_data names at (Ptr name) = written_name names at name
written_data names at (Cname name) = written_name names at name
written_data names at rdata = record { bytes = data_of rdata; names = names }

-- a record at an offset
unfoldable pub written_record : Offsets → ℕ → Rr → Piece
written_record names at rr =
    let owner = written_name names at rr.owner in
    let rdata = written_data owner.names (at + length owner.bytes + 10) rr.rdata in
    onto (owner.bytes ++ to_be_bytes w16 (kind_of rr.rdata) ++ class_word rr.flush ++ to_be_bytes w32 rr.ttl ++ to_be_bytes w16 (length rdata.bytes)) rdata

-- things in a row from an offset on, behind names that were written
unfoldable pub written_all : {X : Type 0} → (Offsets → ℕ → X → Piece) → Offsets → ℕ → List X → Piece
written_all written names at [] = record { bytes = []; names = names }
written_all written names at (x ∷ xs) =
    let first = written names at x in onto first.bytes (written_all written first.names (at + length first.bytes) xs)

-- what a flag adds to its byte
abbrev pub bit_worth : Bool → ℕ → ℕ
bit_worth true worth = worth
bit_worth false worth = 0

-- the flags; of opcode and rcode the low four bits
abbrev pub flag_bytes : Message → List ℕ
flag_bytes m = (bit_worth m.response 128 + m.opcode % 16 * 8 + bit_worth m.authoritative 4 + bit_worth m.truncated 2) ∷ m.rcode % 16 ∷ []

-- the four counts
abbrev pub count_bytes : Message → List ℕ
count_bytes m =
    to_be_bytes w16 (length m.questions) ++ to_be_bytes w16 (length m.answers) ++ to_be_bytes w16 (length m.authority) ++ to_be_bytes w16 (length m.additional)

-- how many questions and records a message has
abbrev pub item_count : Message → ℕ
item_count m = length m.questions + length m.answers + length m.authority + length m.additional

-- the header: ID, flags and counts
unfoldable pub header : Message → List ℕ
header m = to_be_bytes w16 m.id ++ flag_bytes m ++ count_bytes m

-- the message behind its header
unfoldable pub written_body : Message → List ℕ
written_body m =
    let questions = written_all written_question [] 12 m.questions in
    let records = written_all written_record questions.names (12 + length questions.bytes) (m.answers ++ m.authority ++ m.additional) in
    questions.bytes ++ records.bytes

-- the bytes that a message is written as
unfoldable pub written : Message → List ℕ
written m = header m ++ written_body m

-- The rest says of which messages there is a spelling: what the types of the code allow, said of numbers and lists that could be any.
abbrev pub is_below : ℕ → ℕ → Bool
is_below bits n = nat_lt n (2 ^ bits)

-- whether numbers are bytes
abbrev pub are_bytes : List ℕ → Bool
are_bytes bytes = list_all (is_below 8) bytes

-- a name of bytes
abbrev pub is_spellable_name : List (List ℕ) → Bool
is_spellable_name name = is_name name && list_all are_bytes name

-- the data of a record: numbers of their sizes, names, and raw bytes of their form
abbrev pub is_spellable_data : Rdata → Bool
is_spellable_data (A address) = is_below 32 address
is_spellable_data (Aaaa address) = is_below 128 address
is_spellable_data (Ptr name) = is_spellable_name name
is_spellable_data (Cname name) = is_spellable_name name
is_spellable_data (Srv priority weight port target) = is_below 16 priority && is_below 16 weight && is_below 16 port && is_spellable_name target
is_spellable_data (Txt bytes) = are_bytes bytes
is_spellable_data (Nsec next bitmap) = is_spellable_name next && are_bytes bitmap
is_spellable_data (Raw kind bytes) = is_below 16 kind && are_bytes bytes && is_rdata (Raw kind bytes)

-- a record whose parts have their form
abbrev pub is_spellable_record : Rr → Bool
is_spellable_record rr = is_spellable_name rr.owner && is_below 32 rr.ttl && is_spellable_data rr.rdata

-- a question whose parts have their form
abbrev pub is_spellable_question : Question → Bool
is_spellable_question question = is_spellable_name question.name && is_below 16 question.kind

-- opcode and rcode have four bits, and every part has its form
unfoldable pub is_spellable : Message → Bool
is_spellable m =
    is_below 16 m.id && is_below 4 m.opcode && is_below 4 m.rcode && list_all is_spellable_question m.questions
    && list_all is_spellable_record m.answers && list_all is_spellable_record m.authority && list_all is_spellable_record m.additional

-- The parts of each question and of each record are as their types say: names of bytes, numbers of their sizes, raw data of their form.
pub record HasValidParts (m : Message) : Type 0 where
  pub questions : IsTrue (list_all is_spellable_question m.questions)
  pub answers : IsTrue (list_all is_spellable_record m.answers)
  pub authority : IsTrue (list_all is_spellable_record m.authority)
  pub additional : IsTrue (list_all is_spellable_record m.additional)

-- What is written is read again, whatever follows it, up to the longest message.
abbrev pub IsReadAgain : Type 0
IsReadAgain = (m : Message) (more : List ℕ) → is_spellable m ≡ true → length (written m ++ more) ≤ 8972 → Spells (written m ++ more) m
