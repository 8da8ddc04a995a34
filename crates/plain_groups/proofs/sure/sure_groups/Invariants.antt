use Rattle.std.proofs.Common.{◌≡◌}
use Rattle.std.specs.Prelude.{filter}
use Rattle.mdns_history.specs.Sureness.{is_sure}
use Rattle.plain_groups.proofs.sure.sure_groups.Given as goal

abbrev pub invariant-loop-group : goal.invariant-loop-group
invariant-loop-group l = l.sure.items ≡ filter (λ group. is_sure group l.history) l.yielded
