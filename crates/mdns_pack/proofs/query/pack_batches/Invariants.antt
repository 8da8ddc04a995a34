use Rattle.std.proofs.Common.{◌≡◌, ◌++◌, length, map}
use Rattle.dns_message.specs.Packing.{pack_query, question_for}
use Rattle.mdns_pack.proofs.query.pack_batches.Given as goal

abbrev pub invariant-loop-rest : goal.invariant-loop-rest
invariant-loop-rest l = record {
  whole : pack_query l.keys l.known ≡ l.messages ++ pack_query l.rest l.known;
  same : l.left ≡ map question_for l.rest;
}

abbrev pub decreases-loop-rest : goal.decreases-loop-rest
decreases-loop-rest l = length l.rest
