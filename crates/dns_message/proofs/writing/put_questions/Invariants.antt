use Rattle.std.proofs.Common.{◌≤◌, length, drop}
use Rattle.dns_message.specs.Writing.{written_question}
use Rattle.dns_message.proofs.Parts.{ArePartWritten}
use Rattle.dns_message.proofs.writing.put_questions.Given as goal

abbrev pub invariant-loop-question : goal.invariant-loop-question
invariant-loop-question l = record {
  part : ArePartWritten written_question l.fn.names l.fn.out.items l.questions l.names l.out.items (drop l.question-index l.questions);
  within : length l.out.items ≤ l.limit;
}
