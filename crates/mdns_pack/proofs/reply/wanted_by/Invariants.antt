use Rattle.std.proofs.Common.{◌≡◌, take}
use Rattle.std.specs.List.{flat_map}
use Rattle.mdns_pack.proofs.reply.wanted_by.Given as goal

abbrev pub invariant-loop-one : goal.invariant-loop-one
invariant-loop-one l = l.wanted.items ≡ flat_map (λ wanting. wanting.1) (take l.one-index l.part)
