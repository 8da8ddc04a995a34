-- Each line that is taken leaves a shorter rest.
use Rattle.std.proofs.Common.{length}
use Rattle.mdns_command.proofs.notes.note_on.Given as goal

abbrev pub decreases-lines : goal.decreases-lines
decreases-lines l = length l.rest
