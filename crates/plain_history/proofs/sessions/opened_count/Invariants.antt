use Rattle.std.proofs.Common.{◌≡◌, ◌+◌, ◌≤◌, drop}
use Rattle.mdns_history.specs.Sessions.{opened_count}
use Rattle.plain_history.proofs.sessions.opened_count.Given as goal

abbrev pub invariant-loop-entry : goal.invariant-loop-entry
invariant-loop-entry l = record { counted : l.count + opened_count (drop l.entry-index l.history) ≡ opened_count l.history; bound : l.count ≤ l.entry-index }
