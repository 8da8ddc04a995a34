use Rattle.std.proofs.Common.{◌≡◌, ◌≤◌, length}
use Rattle.mdns_history.specs.History.{last_at}
use Rattle.mdns_history.specs.Probing.{first_probe}
use Rattle.plain_claims.proofs.waiting.first_since.Given as goal

abbrev pub invariant-loop-entry : goal.invariant-loop-entry
invariant-loop-entry l = record { kept : last_at (first_probe l.id) l.rest ≡ last_at (first_probe l.id) l.history; within : length l.rest ≤ length l.history }

abbrev pub decreases-loop-entry : goal.decreases-loop-entry
decreases-loop-entry l = length l.rest
