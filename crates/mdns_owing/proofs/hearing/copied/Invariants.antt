use Rattle.std.proofs.Common.{◌≡◌, take}
use Rattle.mdns_owing.proofs.hearing.copied.Given as goal

abbrev pub invariant-loop-question : goal.invariant-loop-question
invariant-loop-question l = l.copies ≡ take l.question-index l.questions
