use Rattle.std.proofs.Common.{◌≡◌, ◌+◌, ◌≤◌, drop}
use Rattle.mdns_history.specs.Groups.{registered_count}
use Rattle.plain_groups.proofs.registration.registered_count.Given as goal

abbrev pub invariant-loop-entry : goal.invariant-loop-entry
invariant-loop-entry l = record { counted : l.count + registered_count (drop l.entry-index l.history) ≡ registered_count l.history; bound : l.count ≤ l.entry-index }
