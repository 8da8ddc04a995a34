use Rattle.std.proofs.Common.{◌≡◌, ◌++◌, length}
use Rattle.std.specs.List.{flat_map}
use Rattle.txt_record.specs.Strings.{strings_of}
use Rattle.mdns_script.specs.CommandText.{string_word}
use Rattle.mdns_script.proofs.print_request.put_strings.Given as goal

abbrev pub invariant-strings : goal.invariant-strings
invariant-strings l = l.initial.out.items ++ flat_map string_word (strings_of l.txt) ≡ l.out.items ++ flat_map string_word (strings_of l.rest)

abbrev pub decreases-strings : goal.decreases-strings
decreases-strings l = length l.rest
