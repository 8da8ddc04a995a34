use Rattle.std.proofs.Common.{◌≡◌, ◌≤◌, ◌+◌, drop, length}
use Rattle.mdns_asking.specs.Asked.{all_begun}
use Rattle.mdns_asking.proofs.users.begin.Given as goal

abbrev pub invariant-loop-key : goal.invariant-loop-key
invariant-loop-key l = record {
  questions : all_begun l.when.moment l.when.word (drop l.key-index l.keys) l.asker.questions ≡ all_begun l.when.moment l.when.word l.keys l.initial.asker.questions;
  room : length l.keys ≤ l.asker.spare + l.key-index;
}
