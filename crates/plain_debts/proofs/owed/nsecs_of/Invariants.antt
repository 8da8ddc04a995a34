use Rattle.std.proofs.Common.{◌≡◌, map}
use Rattle.std.specs.Prelude.{filter}
use Rattle.dns_name.specs.Names.{folded_eq}
use Rattle.mdns_history.specs.Groups.{group_name, unique_records}
use Rattle.mdns_history.specs.Debts.{nsec_record}
use Rattle.plain_debts.proofs.owed.nsecs_of.Given as goal

abbrev pub invariant-loop-group : goal.invariant-loop-group
invariant-loop-group l =
    l.nsecs.items ≡ map (λ group. nsec_record (group_name group l.history) (unique_records group l.history)) (filter (λ group. folded_eq (group_name group l.history) l.name) l.yielded)
