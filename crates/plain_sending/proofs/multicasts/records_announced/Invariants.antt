use Rattle.std.proofs.Common.{◌≡◌, ◌++◌, drop}
use Rattle.std.specs.List.{flat_map}
use Rattle.mdns_history.specs.Groups.{group_records}
use Rattle.mdns_history.specs.Announcing.{announced_groups}
use Rattle.plain_sending.proofs.multicasts.records_announced.Given as goal

abbrev pub invariant-loop-group : goal.invariant-loop-group
invariant-loop-group l = l.all.items ++ flat_map (λ group. group_records group l.history) (drop l.group-index l.group-items) ≡ flat_map (λ group. group_records group l.history) (announced_groups l.history l.fn.moment)
