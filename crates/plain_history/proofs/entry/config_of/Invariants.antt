use Rattle.std.proofs.Common.{◌≡◌, drop}
use Rattle.mdns_history.specs.History.{config_of}
use Rattle.plain_history.proofs.entry.config_of.Given as goal

abbrev pub invariant-loop-entry : goal.invariant-loop-entry
invariant-loop-entry l = config_of (drop l.entry-index l.history) ≡ config_of l.history
