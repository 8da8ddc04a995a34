use Rattle.std.proofs.Common.{take}
use Rattle.std.specs.List.{All}
use Rattle.mdns_owing.specs.Marks.{HasMark}
use Rattle.mdns_owing.proofs.marks.Marks.of_owed.Given as goal

abbrev pub invariant-loop-owed : goal.invariant-loop-owed
invariant-loop-owed l = All (λ owed. HasMark l.marks.bits owed.0) (take l.owed-index l.all_owed)
