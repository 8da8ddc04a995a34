use Rattle.std.proofs.Common.{◌≡◌, ◌++◌, drop}
use Rattle.mdns_history.specs.Hearings.{hearings}
use Rattle.plain_history.proofs.hearing.hearings.Given as goal

abbrev pub invariant-loop-entry : goal.invariant-loop-entry
invariant-loop-entry l = l.found.items ++ hearings (drop l.entry-index l.history) ≡ hearings l.history
