-- what was written, and what is left
use Rattle.std.proofs.Common.{◌≡◌, ◌++◌, IsTrue, length}
use Rattle.txt_record.specs.Strings.{txt_data}
use Rattle.sd_command.specs.Commands.{texts, are_strings}
use Rattle.sd_command.proofs.request.txt_data.Given as goal

abbrev pub invariant-strings : goal.invariant-strings
invariant-strings l = record {
  written : txt_data (texts l.fn.strings) ≡ l.txt.items ++ txt_data (texts l.rest);
  short : IsTrue (are_strings (texts l.rest));
}

abbrev pub decreases-strings : goal.decreases-strings
decreases-strings l = length (texts l.rest)
