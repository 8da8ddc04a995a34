use Rattle.std.proofs.Common.{drop}
use Rattle.dns_message.specs.Packing.{pack_plain}
use Rattle.mdns_pack.proofs.Replies.{IsPlain}
use Rattle.mdns_pack.proofs.plain.pack_plain.Given as goal

abbrev pub invariant-loop-rr : goal.invariant-loop-rr
invariant-loop-rr l = IsPlain (pack_plain l.answers) l.messages l.draft (drop l.rr-index l.more)
