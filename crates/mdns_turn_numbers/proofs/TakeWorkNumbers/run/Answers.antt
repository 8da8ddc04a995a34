use Rattle.mdns_turn_numbers.proofs.After.{taken}
use Rattle.mdns_turn_numbers.proofs.TakeWorkNumbers.run.Goals as goal

pub returns-clause-stands : goal.returns-clause-stands
returns-clause-stands c past e = rw (c.replace.ensures.after, c.new.ensures.items) (taken past)
