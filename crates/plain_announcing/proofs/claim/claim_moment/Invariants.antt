use Rattle.std.proofs.Common.{◌≡◌, ◌≤◌, length}
use Rattle.mdns_history.specs.Announcing.{claim_moment}
use Rattle.plain_announcing.proofs.claim.claim_moment.Given as goal

abbrev pub invariant-loop-entry : goal.invariant-loop-entry
invariant-loop-entry l = record { claim : claim_moment l.group l.rest ≡ claim_moment l.group l.history; short : length l.rest ≤ length l.history }

abbrev pub decreases-loop-entry : goal.decreases-loop-entry
decreases-loop-entry l = length l.rest
