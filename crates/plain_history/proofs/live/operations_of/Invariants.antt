use Rattle.std.proofs.Common.{◌≡◌, ◌≤◌, length, drop}
use Rattle.mdns_history.specs.Sessions.{operations_of}
use Rattle.plain_history.proofs.live.operations_of.Given as goal

abbrev pub invariant-loop-place : goal.invariant-loop-place
invariant-loop-place l = record { live : l.live.items ≡ operations_of l.session (drop l.place l.history); within : l.place ≤ length l.history }

abbrev pub decreases-loop-place : goal.decreases-loop-place
decreases-loop-place l = l.place
