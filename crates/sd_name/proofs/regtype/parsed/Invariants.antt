use Rattle.std.proofs.Common.{length}
use Rattle.std.specs.Option.{option_copied}
use Rattle.sd_name.specs.Pieces.{pieces_of}
use Rattle.sd_name.proofs.Parsing.{HasRead}
use Rattle.sd_name.proofs.regtype.parsed.Given as goal

abbrev pub invariant-loop-rest : goal.invariant-loop-rest
invariant-loop-rest l = HasRead l.text l.type_name l.subtypes.items (pieces_of 44 (option_copied l.rest))

abbrev pub decreases-loop-rest : goal.decreases-loop-rest
decreases-loop-rest l = length (pieces_of 44 (option_copied l.rest))
