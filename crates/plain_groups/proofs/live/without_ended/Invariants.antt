use Rattle.std.proofs.Common.{◌≡◌, ◌≤◌, not, length, vec_len}
use Rattle.std.specs.List.{filter}
use Rattle.mdns_history.specs.Groups.{ends_group}
use Rattle.plain_groups.proofs.live.without_ended.Given as goal

abbrev pub invariant-loop-group : goal.invariant-loop-group
invariant-loop-group l = record { live : l.live.items ≡ filter (λ group. not (ends_group l.entry group)) l.yielded; len : vec_len l.live ≤ length l.yielded }
