use Rattle.dns_name.proofs.Folding.{is_exact_eq}
use Rattle.dns_name.proofs.name.Name.exact_eq.Goals as goal

pub returns-clause-value : goal.returns-clause-value
returns-clause-value c = is_exact_eq c.args.self.now c.args.other.now c.is_spelled_as.result c.is_spelled_as.ensures
