use Rattle.std.proofs.Common.{◌≡◌, take}
use Rattle.dns_message.specs.Packing.{answers_in}
use Rattle.mdns_pack.proofs.reply.answers_of.Given as goal

abbrev pub invariant-loop-one : goal.invariant-loop-one
invariant-loop-one l = l.answers.items ≡ answers_in (take l.one-index l.wantings)
