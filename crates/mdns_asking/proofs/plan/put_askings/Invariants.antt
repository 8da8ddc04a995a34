use Rattle.std.proofs.Common.{◌≡◌, ◌++◌, take, map}
use Rattle.mdns_question.specs.Standing.{mark_of}
use Rattle.mdns_asking.proofs.plan.put_askings.Given as goal

abbrev pub invariant-loop-one : goal.invariant-loop-one
invariant-loop-one l = l.marks ≡ l.initial.marks ++ map mark_of (take l.one-index l.asked)
