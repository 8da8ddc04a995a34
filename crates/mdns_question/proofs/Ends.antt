-- The refresh points of a record lie before its end.
use Rattle.std.proofs.Common.{◌≡◌, ℕ, zero, ◌+◌, ◌*◌, ◌%◌, ◌<◌, ◌≤◌, arith}
use Rattle.std.specs.Prelude.{IsTrue}
use Rattle.std.proofs.Math.Nat.{mod-lt}
use Rattle.mdns_history.specs.declared.held.Held.{Held}
use Rattle.mdns_history.specs.Lifetimes.{is_uncut}

pub jitter_within : (word ttl : ℕ) → word % (20 * ttl + 1) ≤ 20 * ttl
jitter_within word ttl =
    let positive : zero < 20 * ttl + 1 = omega arith in
    let less : word % (20 * ttl + 1) < 20 * ttl + 1 = mod-lt word positive in
    omega arith

pub uncut_end : (held : Held) → IsTrue (is_uncut held) → held.end ≡ held.heard + 1000 * held.rr.ttl
uncut_end held h = grind arith
