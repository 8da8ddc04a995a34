use Rattle.std.proofs.Common.{◌≡◌, fold, take}
use Rattle.mdns_reply.specs.Marks.{each_byte}
use Rattle.mdns_reply.proofs.mark.write_each.Given as goal

abbrev pub invariant-loop-byte : goal.invariant-loop-byte
invariant-loop-byte g l = l.state ≡ fold g.H.Hasher.write l.initial.state (each_byte (take l.byte-index l.bytes))
