use Rattle.std.proofs.Common.{◌==◌}
use Rattle.sd_name.proofs.Cuts.{slice_split-at, slice_split-none}
use Rattle.sd_name.proofs.grammar.cut.Goals as goal

pub returns-in-Some-clause-pieces : goal.returns-in-Some-clause-pieces
returns-in-Some-clause-pieces c = slice_split-at (λ b. b == c.args.byte) c.args.bytes.now _ c.in-Some.ensures

pub returns-in-None-clause-pieces : goal.returns-in-None-clause-pieces
returns-in-None-clause-pieces c = slice_split-none (λ b. b == c.args.byte) c.args.bytes.now c.in-None.ensures
