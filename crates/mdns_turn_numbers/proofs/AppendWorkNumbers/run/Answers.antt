use Rattle.mdns_turn_numbers.proofs.After.{added, missed}
use Rattle.mdns_turn_numbers.proofs.AppendWorkNumbers.run.Goals as goal

pub returns-in-Ok-clause-stands : goal.returns-in-Ok-clause-stands
returns-in-Ok-clause-stands c past e = let items = c.in-Ok.ensures.items in rw items (added _ c.args.self.number past e)

pub returns-in-Err-clause-stands : goal.returns-in-Err-clause-stands
returns-in-Err-clause-stands c past e = let items = c.in-Err.ensures.items in rw items (missed _ past e)
