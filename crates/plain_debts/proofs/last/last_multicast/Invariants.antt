use Rattle.std.proofs.Common.{◌≡◌, drop}
use Rattle.mdns_history.specs.Debts.{last_multicast}
use Rattle.plain_debts.proofs.last.last_multicast.Given as goal

abbrev pub invariant-loop-entry : goal.invariant-loop-entry
invariant-loop-entry l = last_multicast l.rr (drop l.entry-index l.history) ≡ last_multicast l.rr l.history
