use Rattle.std.proofs.Common.{◌≡◌, take, map, vec_len}
use Rattle.mdns_history.specs.Claims.{holding_of}
use Rattle.plain_claims.proofs.holding.holdings_of.Given as goal

abbrev pub invariant-loop-group : goal.invariant-loop-group
invariant-loop-group l = record { holdings : l.holdings.items ≡ map (holding_of l.history) (take l.group-index l.groups); len : vec_len l.holdings ≡ l.group-index }
