use Rattle.std.proofs.Common.{◌≡◌, map, take}
use Rattle.mdns_asked.specs.Asked.{any_for}
use Rattle.mdns_owing.proofs.found.named.Given as goal

abbrev pub invariant-loop-question : goal.invariant-loop-question
invariant-loop-question l = l.names ≡ map (λ question. any_for question.name) (take l.question-index l.questions)
