use Rattle.std.proofs.Common.{◌≡◌, ◌==◌, ◌++◌, length}
use Rattle.std.specs.List.{slice_split}
use Rattle.std.specs.Option.{option_map}
use Rattle.txt_record.specs.Strings.{txt_data}
use Rattle.mdns_script.specs.Tokens.{strings_of}
use Rattle.mdns_script.proofs.tokens.strings.Given as goal

abbrev pub invariant-loop-token : goal.invariant-loop-token
invariant-loop-token l =
    option_map txt_data (strings_of (slice_split (λ b. b == 32) l.bytes))
    ≡ option_map (λ rest. l.txt.items ++ rest) (option_map txt_data (strings_of (slice_split (λ b. b == 32) l.rest)))

abbrev pub decreases-loop-token : goal.decreases-loop-token
decreases-loop-token l = length l.rest
