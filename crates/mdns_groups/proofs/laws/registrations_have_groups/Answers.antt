-- The clause is a law of the definitions.
use Rattle.mdns_groups.proofs.Groups.{have_groups}
use Rattle.mdns_groups.proofs.laws.registrations_have_groups.Goals as goal

pub returns : goal.returns
returns c = have_groups
