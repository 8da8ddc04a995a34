use Rattle.std.proofs.Common.{◌≡◌, ◌++◌, drop}
use Rattle.mdns_probe.specs.Kept.{marks_for_turn}
use Rattle.mdns_contest.specs.Turning.{said}
use Rattle.mdns_contest.proofs.turns.turn_marks.Given as goal

abbrev pub invariant-loop-one : goal.invariant-loop-one
invariant-loop-one l = l.marks ++ marks_for_turn (said l.heard) (drop l.one-index l.groups) l.holdings.items ≡ marks_for_turn (said l.heard) l.groups l.initial.holdings.items
