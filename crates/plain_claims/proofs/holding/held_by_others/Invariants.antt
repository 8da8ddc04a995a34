use Rattle.std.proofs.Common.{◌≡◌, ◌≤◌, take, vec_len}
use Rattle.mdns_history.specs.Claims.{held_by_others}
use Rattle.plain_claims.proofs.holding.held_by_others.Given as goal

abbrev pub invariant-loop-holding : goal.invariant-loop-holding
invariant-loop-holding l = record { names : l.names.items ≡ held_by_others l.id (take l.holding-index l.holdings); len : vec_len l.names ≤ l.holding-index }
