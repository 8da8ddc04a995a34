use Rattle.std.proofs.Common.{◌≡◌}
use Rattle.std.specs.Prelude.{filter}
use Rattle.mdns_history.specs.Announcing.{is_announced_at}
use Rattle.plain_announcing.proofs.announced.announced_groups.Given as goal

abbrev pub invariant-loop-group : goal.invariant-loop-group
invariant-loop-group l = l.announced.items ≡ filter (is_announced_at l.history l.moment) l.yielded
