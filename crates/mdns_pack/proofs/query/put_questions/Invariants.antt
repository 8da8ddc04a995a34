use Rattle.std.proofs.Common.{◌≡◌, [], map, take}
use Rattle.dns_message.specs.Packing.{fits, bare_query, question_for, parts_of}
use Rattle.mdns_pack.proofs.Chains.{parts_behind}
use Rattle.mdns_pack.proofs.query.put_questions.Given as goal

abbrev pub invariant-loop-len : goal.invariant-loop-len
invariant-loop-len l = record {
  batch : l.draft ≡ bare_query (map question_for (take l.len l.keys)) [];
  parts : parts_of (λ batch. fits (bare_query (map question_for batch) [])) l.keys ≡ parts_behind (λ batch. fits (bare_query (map question_for batch) [])) l.len l.keys;
}
