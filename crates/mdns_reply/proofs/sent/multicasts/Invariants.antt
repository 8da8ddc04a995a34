use Rattle.std.proofs.Common.{◌≡◌, take}
use Rattle.mdns_reply.specs.Lasts.{multicasts_of}
use Rattle.mdns_reply.proofs.sent.multicasts.Given as goal

abbrev pub invariant-loop-one : goal.invariant-loop-one
invariant-loop-one l = l.made.items ≡ multicasts_of (take l.one-index l.sent)
