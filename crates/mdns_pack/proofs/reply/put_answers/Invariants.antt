use Rattle.std.proofs.Common.{◌≡◌, take}
use Rattle.dns_message.specs.Packing.{bare_reply, answers_in, parts_of}
use Rattle.mdns_pack.proofs.Chains.{parts_behind}
use Rattle.mdns_pack.proofs.Replies.{part_fits}
use Rattle.mdns_pack.proofs.reply.put_answers.Given as goal

abbrev pub invariant-loop-len : goal.invariant-loop-len
invariant-loop-len l = record {
  part : l.draft ≡ bare_reply (answers_in (take l.len l.wantings));
  parts : parts_of part_fits l.wantings ≡ parts_behind part_fits l.len l.wantings;
}
