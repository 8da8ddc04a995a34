use Rattle.std.proofs.Common.{◌≡◌, take, map, vec_len}
use Rattle.mdns_history.specs.Groups.{group_name}
use Rattle.plain_groups.proofs.live.names_of.Given as goal

abbrev pub invariant-loop-group : goal.invariant-loop-group
invariant-loop-group l = record { names : l.names.items ≡ map (λ group. group_name group l.history) (take l.group-index l.groups); len : vec_len l.names ≡ l.group-index }
