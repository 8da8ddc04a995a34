use Rattle.std.proofs.Common.{◌≡◌, ◌++◌, map, take, drop}
use Rattle.mdns_claims.specs.Later.{groups_behind}
use Rattle.mdns_claims.specs.Owned.{own_in}
use Rattle.mdns_core.specs.Enough.{with_own}
use Rattle.mdns_core.proofs.plan.put_own.Given as goal

abbrev pub invariant-loop-walk : goal.invariant-loop-walk
invariant-loop-walk l = l.walks ≡ map (with_own (own_in l.claims.contents.kept) (own_in (groups_behind l.behind))) (take l.walk-index l.initial.walks) ++ drop l.walk-index l.initial.walks
