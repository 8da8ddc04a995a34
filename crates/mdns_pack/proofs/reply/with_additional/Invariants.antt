use Rattle.std.proofs.Common.{◌≡◌}
use Rattle.mdns_pack.proofs.Replies.{drafted}
use Rattle.mdns_pack.proofs.reply.with_additional.Given as goal

abbrev pub invariant-loop-rr : goal.invariant-loop-rr
invariant-loop-rr l = l.draft ≡ drafted l.initial.draft.answers l.wanted l.rr-index
