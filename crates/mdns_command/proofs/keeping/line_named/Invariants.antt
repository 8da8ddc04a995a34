-- Each word that is passed leaves a shorter rest.
use Rattle.std.proofs.Common.{length}
use Rattle.mdns_command.proofs.keeping.line_named.Given as goal

abbrev pub decreases-words : goal.decreases-words
decreases-words l = length l.rest
