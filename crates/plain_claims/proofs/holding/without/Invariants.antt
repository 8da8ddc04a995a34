use Rattle.std.proofs.Common.{◌≡◌, ◌==◌, ◌≤◌, not, length, vec_len}
use Rattle.std.specs.Prelude.{filter}
use Rattle.mdns_history.specs.Claims.{Holding}
use Rattle.plain_claims.proofs.holding.without.Given as goal

abbrev pub invariant-loop-holding : goal.invariant-loop-holding
invariant-loop-holding l = record { after : l.after.items ≡ filter (λ (holding : Holding). not (holding.id == l.id)) l.yielded; len : vec_len l.after ≤ length l.yielded }
