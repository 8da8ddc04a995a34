use Rattle.std.proofs.Common.{◌≡◌, ◌++◌, take}
use Rattle.std.specs.List.{flat_map}
use Rattle.mdns_history.specs.EntryText.{question_line}
use Rattle.mdns_history.proofs.print_sent.put_questions.Given as goal

abbrev pub invariant-loop-question : goal.invariant-loop-question
invariant-loop-question l = l.out.items ≡ l.fn.out.items ++ flat_map question_line (take l.question-index l.questions)
