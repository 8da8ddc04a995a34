use Rattle.std.proofs.Common.{◌≡◌, ◌++◌, map, take, drop}
use Rattle.mdns_claims.specs.Owned.{is_ours}
use Rattle.mdns_debts.specs.Following.{left_by}
use Rattle.mdns_owing.specs.Satisfied.{AreTold}
use Rattle.mdns_owing.proofs.owing.keep_all_ours.Given as goal

abbrev pub invariant-loop-place : goal.invariant-loop-place
invariant-loop-place l = record {
  left : l.queries ≡ map (left_by (λ query owed. is_ours l.claims.contents.kept owed.0)) (take l.place l.initial.queries) ++ drop l.place l.initial.queries;
  told : AreTold l.place l.satisfied l.queries;
}
