use Rattle.std.proofs.Common.{◌≡◌, [], take, false}
use Rattle.dns_message.specs.Packing.{is_within_length, legacy_reply, parts_of}
use Rattle.mdns_pack.proofs.Chains.{parts_behind}
use Rattle.mdns_pack.proofs.legacy.put_leading.Given as goal

abbrev pub invariant-loop-len : goal.invariant-loop-len
invariant-loop-len l = record {
  put : l.draft ≡ legacy_reply 0 (take l.len l.questions) [] false;
  parts : parts_of (λ qs. is_within_length 512 (legacy_reply 0 qs [] false)) l.questions ≡ parts_behind (λ qs. is_within_length 512 (legacy_reply 0 qs [] false)) l.len l.questions;
}
