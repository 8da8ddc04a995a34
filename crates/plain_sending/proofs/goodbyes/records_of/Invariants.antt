use Rattle.std.proofs.Common.{◌≡◌, ◌++◌, drop}
use Rattle.std.specs.List.{flat_map}
use Rattle.mdns_history.specs.Groups.{group_records}
use Rattle.plain_sending.proofs.goodbyes.records_of.Given as goal

abbrev pub invariant-loop-group : goal.invariant-loop-group
invariant-loop-group l = l.all.items ++ flat_map (λ group. group_records group l.past) (drop l.group-index l.groups) ≡ flat_map (λ group. group_records group l.past) l.groups
