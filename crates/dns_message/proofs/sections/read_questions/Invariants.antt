use Rattle.std.proofs.Common.{◌-◌}
use Rattle.dns_message.specs.Reading.{question_at}
use Rattle.dns_message.proofs.Sequences.{ArePartRead}
use Rattle.dns_message.proofs.sections.read_questions.Given as goal

abbrev pub invariant-questions : goal.invariant-questions
invariant-questions l = ArePartRead (question_at l.packet) (l.count - l.read) l.questions l.place l.count l.fn.at
