use Rattle.std.proofs.Common.{◌≡◌, take}
use Rattle.std.specs.Prelude.{map, filter}
use Rattle.mdns_history.specs.Lifetimes.{held_from, is_live_at, renewals}
use Rattle.plain_history.proofs.lives.live_of.Given as goal

abbrev pub invariant-loop-place : goal.invariant-loop-place
invariant-loop-place l = l.live.items ≡ filter (is_live_at l.moment) (map (held_from l.heard) (renewals (take l.place l.heard)))
