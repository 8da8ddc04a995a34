use Rattle.std.proofs.Common.{take}
use Rattle.dns_pointers.specs.Compressing.{AreFirsts}
use Rattle.dns_pointers.proofs.written_names.firsts_of.Given as goal

abbrev pub invariant-loop-place : goal.invariant-loop-place
invariant-loop-place l = AreFirsts (take l.place l.names) l.firsts.items
