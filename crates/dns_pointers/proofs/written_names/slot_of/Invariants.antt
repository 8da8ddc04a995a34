use Rattle.std.proofs.Common.{◌≡◌, ◌<◌, drop}
use Rattle.dns_pointers.specs.Compressing.{slot_of, mixed}
use Rattle.dns_pointers.proofs.written_names.slot_of.Given as goal

abbrev pub invariant-loop-byte : goal.invariant-loop-byte
invariant-loop-byte l = record { same : mixed l.slot (drop l.byte-index l.label) ≡ slot_of l.wire; most : l.slot < 1024 }
