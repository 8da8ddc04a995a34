use Rattle.std.proofs.Common.{◌≡◌, ◌++◌, length, map}
use Rattle.dns_message.specs.Packing.{pack_reply, answers_in}
use Rattle.mdns_pack.proofs.Replies.{replies_behind}
use Rattle.mdns_pack.proofs.reply.pack_reply.Given as goal

abbrev pub invariant-loop-rest : goal.invariant-loop-rest
invariant-loop-rest l =
    pack_reply (map (λ wanting. wanting.0) l.wantings) (map (λ wanting. wanting.1) l.wantings) ≡ l.messages ++ replies_behind (answers_in l.wantings) l.messages l.rest

abbrev pub decreases-loop-rest : goal.decreases-loop-rest
decreases-loop-rest l = length l.rest
