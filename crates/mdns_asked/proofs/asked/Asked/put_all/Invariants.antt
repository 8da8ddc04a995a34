use Rattle.std.proofs.Common.{take}
use Rattle.mdns_asked.specs.Asked.{IsPut}
use Rattle.mdns_asked.proofs.asked.Asked.put_all.Given as goal

abbrev pub invariant-loop-rr : goal.invariant-loop-rr
invariant-loop-rr l = IsPut (take l.rr-index l.rrs) l.fn.self l.self-inside.lists.entries
