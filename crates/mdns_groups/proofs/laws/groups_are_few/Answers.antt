-- The clause is a law of the definitions.
use Rattle.mdns_groups.proofs.Few.{groups_are_few}
use Rattle.mdns_groups.proofs.laws.groups_are_few.Goals as goal

pub returns : goal.returns
returns c = groups_are_few
