use Rattle.std.proofs.Common.{◌≡◌}
use Rattle.std.specs.Prelude.{filter}
use Rattle.mdns_history.specs.Probing.{is_probed_at}
use Rattle.plain_claims.proofs.probed.probed_groups.Given as goal

abbrev pub invariant-loop-group : goal.invariant-loop-group
invariant-loop-group l = l.probed.items ≡ filter (is_probed_at l.history l.moment) l.yielded
