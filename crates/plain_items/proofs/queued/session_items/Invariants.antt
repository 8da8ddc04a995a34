use Rattle.std.proofs.Common.{◌≡◌, ◌≤◌, length, drop}
use Rattle.mdns_history.specs.Items.{session_items}
use Rattle.plain_items.proofs.queued.session_items.Given as goal

abbrev pub invariant-loop-place : goal.invariant-loop-place
invariant-loop-place l = record { items : l.items.items ≡ session_items l.session (drop l.place l.history); within : l.place ≤ length l.history }

abbrev pub decreases-loop-place : goal.decreases-loop-place
decreases-loop-place l = l.place
