use Rattle.std.proofs.Common.{◌≡◌, take}
use Rattle.std.specs.List.{flat_map}
use Rattle.mdns_known.specs.Known.{listed_of}
use Rattle.mdns_known.proofs.all.all_known_answers.Given as goal

abbrev pub invariant-loop-question : goal.invariant-loop-question
invariant-loop-question l = l.all.items ≡ flat_map (λ question. listed_of question l.held l.now) (take l.question-index l.questions)
