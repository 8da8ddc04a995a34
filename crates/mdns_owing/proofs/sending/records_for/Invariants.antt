use Rattle.std.proofs.Common.{◌≡◌, ◌++◌, map, drop}
use Rattle.std.specs.Prelude.{filter, not}
use Rattle.mdns_debts.specs.Queries.{is_to_all}
use Rattle.mdns_owing.proofs.sending.records_for.Given as goal

abbrev pub invariant-loop-owed : goal.invariant-loop-owed
invariant-loop-owed l =
    l.rrs.items ++ map (λ owed. owed.0) (filter (λ owed. not (is_to_all owed)) (drop l.owed-index l.query.owed)) ≡ map (λ owed. owed.0) (filter (λ owed. not (is_to_all owed)) l.query.owed)
