use Rattle.std.proofs.Common.{◌≡◌, drop}
use Rattle.mdns_asking.specs.Asked.{all_ended}
use Rattle.mdns_asking.proofs.users.end.Given as goal

abbrev pub invariant-loop-key : goal.invariant-loop-key
invariant-loop-key l = all_ended (drop l.key-index l.keys) l.asker.questions ≡ all_ended l.keys l.initial.asker.questions
