use Rattle.std.proofs.Common.{◌≡◌, length}
use Rattle.txt_record.specs.Strings.{ends_whole}
use Rattle.txt_record.proofs.strings.is_whole.Given as goal

abbrev pub invariant-strings : goal.invariant-strings
invariant-strings l = ends_whole 0 l.rest ≡ ends_whole 0 l.bytes

abbrev pub decreases-strings : goal.decreases-strings
decreases-strings l = length l.rest
