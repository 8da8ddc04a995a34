use Rattle.std.proofs.Common.{◌≡◌, ◌+◌, ◌≤◌, length, drop, vec_len}
use Rattle.mdns_history.specs.Groups.{groups}
use Rattle.plain_groups.proofs.live.groups.Given as goal

abbrev pub invariant-loop-place : goal.invariant-loop-place
invariant-loop-place l = record { live : l.live.items ≡ groups (drop l.place l.history); few : vec_len l.live + l.place ≤ length l.history }

abbrev pub decreases-loop-place : goal.decreases-loop-place
decreases-loop-place l = l.place
