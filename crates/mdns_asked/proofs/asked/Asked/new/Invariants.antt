use Rattle.std.proofs.Common.{◌≡◌, take}
use Rattle.dns_record.specs.declared.record.Question.{Question}
use Rattle.mdns_asked.specs.Asked.{records_of, is_asked}
use Rattle.mdns_asked.proofs.Asking.{none_of}
use Rattle.mdns_asked.proofs.asked.Asked.new.Given as goal

abbrev pub invariant-loop-question : goal.invariant-loop-question
invariant-loop-question l = (question : Question) → records_of question l.lists.entries ≡ none_of (is_asked (take l.question-index l.questions) question)
