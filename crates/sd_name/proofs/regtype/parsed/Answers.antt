use Rattle.std.proofs.Common.{ap}
use Rattle.std.specs.Option.{option_copied}
use Rattle.sd_name.specs.Pieces.{pieces_of}
use Rattle.sd_name.proofs.Parsing.{read_none, read_no_name, read_all}
use Rattle.sd_name.proofs.regtype.parsed.Goals as goal

pub returns-in_err-type_name : goal.returns-in_err-type_name
returns-in_err-type_name c = rw c.from_residual.ensures (read_no_name _ _ _ c.cut.ensures.pieces c.in_err-type_name.ensures.name)

pub loop-rest-init : goal.loop-rest-init
loop-rest-init c = rw c.new-subtypes.ensures (read_none _ _ _ _ c.cut.ensures.pieces c.in_ok-type_name.ensures.name)

pub returns : goal.returns
returns c =
    let none = ap (λ rest. pieces_of 44 (option_copied rest)) c.in_default.is in
    (read_all _ _ _ _ c.loop-rest.invariant none, c.loop-rest.invariant.few)
