-- the words that are left decide
use Rattle.std.proofs.Common.{◌≡◌, length}
use Rattle.sd_command.specs.Commands.{texts, are_strings}
use Rattle.sd_command.proofs.request.are_strings.Given as goal

abbrev pub invariant-words : goal.invariant-words
invariant-words l = are_strings (texts l.fn.words) ≡ are_strings (texts l.rest)

abbrev pub decreases-words : goal.decreases-words
decreases-words l = length (texts l.rest)
