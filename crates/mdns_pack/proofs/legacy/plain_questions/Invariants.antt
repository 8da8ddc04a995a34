use Rattle.std.proofs.Common.{◌≡◌, map, take}
use Rattle.dns_message.specs.Packing.{plain_question}
use Rattle.mdns_pack.proofs.legacy.plain_questions.Given as goal

abbrev pub invariant-loop-question : goal.invariant-loop-question
invariant-loop-question l = l.plain ≡ map plain_question (take l.question-index l.questions)
