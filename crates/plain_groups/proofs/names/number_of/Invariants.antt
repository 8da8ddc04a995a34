use Rattle.std.proofs.Common.{◌≡◌, drop}
use Rattle.mdns_history.specs.Groups.{number_of}
use Rattle.plain_groups.proofs.names.number_of.Given as goal

abbrev pub invariant-loop-entry : goal.invariant-loop-entry
invariant-loop-entry l = number_of l.group (drop l.entry-index l.history) ≡ number_of l.group l.history
