use Rattle.std.proofs.Common.{take}
use Rattle.mdns_owing.specs.Listed.{AreOf}
use Rattle.mdns_owing.proofs.listed.Listed.new.Given as goal

abbrev pub invariant-loop-rr : goal.invariant-loop-rr
invariant-loop-rr l = AreOf (take l.rr-index l.answers) l.greatest.entries
