use Rattle.std.proofs.Common.{◌∙◌, ◌==◌, ap, sym}
use Rattle.std.specs.Option.{option_copied}
use Rattle.sd_name.specs.Pieces.{pieces_of}
use Rattle.sd_name.specs.ServiceTypes.{is_end}
use Rattle.sd_name.proofs.Cuts.{is_end-slice_split}
use Rattle.sd_name.proofs.grammar.is_final.Goals as goal

pub returns-in-Some : goal.returns-in-Some
returns-in-Some c =
    c.is_empty.ensures ∙ is_end-slice_split (λ b. b == 46) c.in-Some.rest.now
    ∙ sym (ap (λ rest. is_end (pieces_of 46 (option_copied rest))) c.in-Some.is)
