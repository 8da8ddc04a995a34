-- A message that grows by one question or record after another.
use Rattle.std.specs.Prelude.{◌≡◌, ℕ, ◌+◌, ◌≤◌, List, [], ◌∷◌, ◌++◌, length}
use Rattle.dns_record.specs.declared.record.Rr.{Rr}
use Rattle.dns_record.specs.declared.record.Question.{Question}
use Rattle.dns_message.specs.declared.message.Message.{Message}
use Rattle.dns_pointers.specs.Writing.{Offsets}
use Rattle.dns_message.specs.Writing.{written, written_all, written_question, written_record}

-- a message with one more question, behind the others
abbrev pub with_question : Message → Question → Message
with_question message question =
    record {
      id = message.id;
      response = message.response;
      authoritative = message.authoritative;
      truncated = message.truncated;
      opcode = message.opcode;
      rcode = message.rcode;
      questions = message.questions ++ question ∷ [];
      answers = message.answers;
      authority = message.authority;
      additional = message.additional;
    }

-- a message with one more answer, behind the others
abbrev pub with_answer : Message → Rr → Message
with_answer message rr =
    record {
      id = message.id;
      response = message.response;
      authoritative = message.authoritative;
      truncated = message.truncated;
      opcode = message.opcode;
      rcode = message.rcode;
      questions = message.questions;
      answers = message.answers ++ rr ∷ [];
      authority = message.authority;
      additional = message.additional;
    }

-- a message with one more additional record, behind the others
abbrev pub with_additional : Message → Rr → Message
with_additional message rr =
    record {
      id = message.id;
      response = message.response;
      authoritative = message.authoritative;
      truncated = message.truncated;
      opcode = message.opcode;
      rcode = message.rcode;
      questions = message.questions;
      answers = message.answers;
      authority = message.authority;
      additional = message.additional ++ rr ∷ [];
    }

-- all records of a message, in the order in which they are written
abbrev pub records_of : Message → List Rr
records_of m = m.answers ++ m.authority ++ m.additional

-- the names that are written with a message, each with its offset
unfoldable pub written_names : Message → Offsets
written_names m =
    let questions = written_all written_question [] 12 m.questions in
    (written_all written_record questions.names (12 + length questions.bytes) (records_of m)).names

-- So many bytes and these names were written of a message, which has at most 8972 bytes.
pub record IsDrafted (m : Message) (len : ℕ) (names : Offsets) : Type 0 where
  pub size : len ≡ length (written m)
  pub names_are : names ≡ written_names m
  pub most : len ≤ 8972
