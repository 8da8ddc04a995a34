use Rattle.std.proofs.Common.{◌≡◌, drop}
use Rattle.mdns_asking.specs.Asked.{all_asked}
use Rattle.mdns_asking.proofs.users.note.Given as goal

abbrev pub invariant-loop-one : goal.invariant-loop-one
invariant-loop-one l = all_asked l.when.moment (drop l.one-index l.asked) l.asker.questions ≡ all_asked l.when.moment l.asked l.initial.asker.questions
