use Rattle.std.proofs.Common.{take}
use Rattle.std.specs.List.{All}
use Rattle.mdns_owing.specs.Marks.{HasMark}
use Rattle.mdns_owing.proofs.marks.Marks.of.Given as goal

abbrev pub invariant-loop-rr : goal.invariant-loop-rr
invariant-loop-rr l = All (HasMark l.marks.bits) (take l.rr-index l.rrs)
