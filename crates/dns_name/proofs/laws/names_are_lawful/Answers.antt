use Rattle.dns_name.proofs.Folding.{folded_eq-equivalence, name_cmp-total, wire_of-injective}
use Rattle.dns_name.proofs.laws.names_are_lawful.Goals as goal

pub returns-clause-same : goal.returns-clause-same
returns-clause-same c = folded_eq-equivalence

pub returns-clause-ordered : goal.returns-clause-ordered
returns-clause-ordered c = name_cmp-total

pub returns-clause-wire : goal.returns-clause-wire
returns-clause-wire c = wire_of-injective
