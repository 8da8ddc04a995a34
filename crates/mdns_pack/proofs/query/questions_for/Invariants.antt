use Rattle.std.proofs.Common.{◌≡◌, map, take}
use Rattle.dns_message.specs.Packing.{question_for}
use Rattle.mdns_pack.proofs.query.questions_for.Given as goal

abbrev pub invariant-loop-key : goal.invariant-loop-key
invariant-loop-key l = l.questions.items ≡ map question_for (take l.key-index l.keys)
