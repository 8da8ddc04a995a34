use Rattle.mdns_asserts.proofs.Earned.{are_earned}
use Rattle.mdns_asserts.proofs.laws.assertions_are_earned.Goals as goal

pub returns : goal.returns
returns c = are_earned
