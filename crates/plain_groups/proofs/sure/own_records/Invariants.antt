use Rattle.std.proofs.Common.{◌≡◌, ◌++◌, drop}
use Rattle.std.specs.List.{flat_map}
use Rattle.mdns_history.specs.Groups.{group_records}
use Rattle.mdns_history.specs.Sureness.{own_records}
use Rattle.plain_groups.proofs.sure.own_records.Given as goal

abbrev pub invariant-loop-group : goal.invariant-loop-group
invariant-loop-group l = l.all.items ++ flat_map (λ group. group_records group l.history) (drop l.group-index l.group-items) ≡ own_records l.history
