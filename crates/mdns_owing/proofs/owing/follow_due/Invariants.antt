use Rattle.std.proofs.Common.{◌≡◌, ◌≤◌, ◌-◌, ◌++◌, length, map, take, drop}
use Rattle.mdns_debts.specs.Following.{leaves, left_by}
use Rattle.mdns_owing.specs.Satisfied.{AreTold}
use Rattle.mdns_owing.specs.Owing.{news_in}
use Rattle.mdns_owing.proofs.owing.follow_due.Given as goal

abbrev pub invariant-loop-place : goal.invariant-loop-place
invariant-loop-place l = record {
  within : l.from ≤ length l.initial.queries;
  left : l.queries ≡ map (left_by (leaves (news_in l.news))) (take l.from l.initial.queries) ++ drop l.from l.initial.queries;
  told : AreTold l.from l.satisfied l.queries;
}

abbrev pub decreases-loop-place : goal.decreases-loop-place
decreases-loop-place l = length l.initial.queries - l.from
