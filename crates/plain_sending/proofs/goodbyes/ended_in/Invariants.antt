use Rattle.std.proofs.Common.{◌≡◌, not}
use Rattle.std.specs.Prelude.{filter}
use Rattle.mdns_history.specs.Groups.{is_group}
use Rattle.plain_sending.proofs.goodbyes.ended_in.Given as goal

abbrev pub invariant-loop-group : goal.invariant-loop-group
invariant-loop-group l = l.ended.items ≡ filter (λ group. not (is_group group.id l.history)) l.yielded
