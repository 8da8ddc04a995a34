use Rattle.std.proofs.Common.{◌≡◌, ◌==◌, length, map, vec_len}
use Rattle.std.specs.Prelude.{if◌then◌else◌}
use Rattle.mdns_history.specs.Claims.{Holding}
use Rattle.plain_claims.proofs.holding.with_name.Given as goal

abbrev pub invariant-loop-holding : goal.invariant-loop-holding
invariant-loop-holding l = record {
  after : l.after.items ≡ map (λ (holding : Holding). if holding.id == l.id then (record { id = l.id; name = l.name }) else holding) l.yielded;
  len : vec_len l.after ≡ length l.yielded;
}
