use Rattle.std.proofs.Common.{◌≡◌, ◌++◌, map, take, drop}
use Rattle.mdns_debts.specs.Following.{leaves, left_by}
use Rattle.mdns_owing.specs.Satisfied.{AreTold}
use Rattle.mdns_owing.specs.Owing.{news_in}
use Rattle.mdns_owing.proofs.owing.follow_all.Given as goal

abbrev pub invariant-loop-place : goal.invariant-loop-place
invariant-loop-place l = record {
  left : l.queries ≡ map (left_by (leaves (news_in l.news))) (take l.place l.initial.queries) ++ drop l.place l.initial.queries;
  told : AreTold l.place l.satisfied l.queries;
}
