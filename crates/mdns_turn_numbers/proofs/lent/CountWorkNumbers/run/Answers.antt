use Rattle.mdns_turn_numbers.proofs.After.{counted}
use Rattle.mdns_turn_numbers.proofs.lent.CountWorkNumbers.run.Goals as goal

pub returns-clause-stands : goal.returns-clause-stands
returns-clause-stands c past e = counted _ past e
