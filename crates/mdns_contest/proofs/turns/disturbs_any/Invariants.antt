use Rattle.std.proofs.Common.{◌≡◌, drop}
use Rattle.mdns_contest.specs.Turning.{said, disturbs_any}
use Rattle.mdns_contest.proofs.turns.disturbs_any.Given as goal

abbrev pub invariant-loop-one : goal.invariant-loop-one
invariant-loop-one l = disturbs_any (said l.heard) (drop l.one-index l.groups) ≡ disturbs_any (said l.heard) l.groups
