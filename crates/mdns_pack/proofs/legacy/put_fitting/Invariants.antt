use Rattle.std.proofs.Common.{◌≡◌, take, false}
use Rattle.dns_message.specs.Packing.{fits, legacy_reply, parts_of}
use Rattle.mdns_pack.proofs.Chains.{parts_behind}
use Rattle.mdns_pack.proofs.legacy.put_fitting.Given as goal

abbrev pub invariant-loop-len : goal.invariant-loop-len
invariant-loop-len l = record {
  put : l.draft ≡ legacy_reply 0 l.fn.draft.questions (take l.len l.answers) false;
  parts : parts_of (λ rrs. fits (legacy_reply 0 l.fn.draft.questions rrs false)) l.answers ≡ parts_behind (λ rrs. fits (legacy_reply 0 l.fn.draft.questions rrs false)) l.len l.answers;
}
