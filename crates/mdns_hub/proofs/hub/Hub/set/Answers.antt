use Rattle.mdns_hub.proofs.Goodness.{good_delay}
use Rattle.mdns_hub.proofs.hub.Hub.set.Goals as goal

pub set_delay-requires-clause-least : goal.set_delay-requires-clause-least
set_delay-requires-clause-least c = (good_delay c.args.self.now c.args.command c.in-Delay.ms c.in-Delay.is c.requires.good).0

pub set_delay-requires-clause-most : goal.set_delay-requires-clause-most
set_delay-requires-clause-most c = (good_delay c.args.self.now c.args.command c.in-Delay.ms c.in-Delay.is c.requires.good).1
