use Rattle.std.proofs.Common.{◌∙◌, arith, ap, get_or}
use Rattle.dns_name.specs.declared.fold.TheConstants.{LOWER}
use Rattle.dns_name.proofs.FoldedBytes.{lower_at}
use Rattle.dns_name.proofs.fold.lower.Goals as goal

pub returns : goal.returns
returns c = ap (λ i. get_or LOWER i 0) c.from.ensures ∙ lower_at c.args.byte (omega arith)
