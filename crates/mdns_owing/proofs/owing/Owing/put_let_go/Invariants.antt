use Rattle.std.proofs.Common.{◌≡◌, ◌++◌, map, drop}
use Rattle.std.specs.Prelude.{filter}
use Rattle.std.specs.List.{flat_map}
use Rattle.mdns_debts.specs.Queries.{is_to_all}
use Rattle.mdns_debts.specs.Releasing.{is_let_go, wanted_of}
use Rattle.mdns_owing.specs.Owing.{last_in}
use Rattle.mdns_owing.proofs.owing.Owing.put_let_go.Given as goal

abbrev pub invariant-loop-owed : goal.invariant-loop-owed
invariant-loop-owed l =
    l.released.items ++ filter (is_let_go (last_in l.lasts.lasts) l.now (flat_map (wanted_of l.now) l.self.queries)) (map (λ owed. owed.0) (filter is_to_all (drop l.owed-index l.all_owed)))
    ≡ l.initial.released.items ++ filter (is_let_go (last_in l.lasts.lasts) l.now (flat_map (wanted_of l.now) l.self.queries)) (map (λ owed. owed.0) (filter is_to_all l.all_owed))
