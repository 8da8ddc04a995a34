-- Messages that grow by a question or a record: for the contracts of private functions.
use Rattle.std.specs.Prelude.{ℕ, Bool, [], ◌∷◌, ◌++◌}
use Rattle.dns_record.specs.declared.record.Question.{Question}
use Rattle.dns_record.specs.declared.record.Rr.{Rr}
use Rattle.dns_message.specs.declared.message.Message.{Message}
use Rattle.mdns_print.specs.declared.line.Section.{Section}
use Rattle.mdns_print.specs.declared.line.Section.TheVariants.{Answers, Authority, Additional}

-- a message without questions and records, with the header of a written message
abbrev pub begun : ℕ → Bool → Bool → Message
begun id response truncated =
    record {
      id = id;
      response = response;
      authoritative = response;
      truncated = truncated;
      opcode = 0;
      rcode = 0;
      questions = [];
      answers = [];
      authority = [];
      additional = [];
    }

-- a message with one more question
abbrev pub with_question : Question → Message → Message
with_question question message = record message { questions = message.questions ++ question ∷ [] }

-- a message with one more record in a section
abbrev pub with_record : Section → Rr → Message → Message
with_record Answers rr message = record message { answers = message.answers ++ rr ∷ [] }
with_record Authority rr message = record message { authority = message.authority ++ rr ∷ [] }
with_record Additional rr message = record message { additional = message.additional ++ rr ∷ [] }
