use Rattle.std.proofs.Common.{◌∙◌}
use Rattle.mdns_hub.proofs.Standing.{tallies_same}
use Rattle.mdns_hub.proofs.hub.Hub.tally.Goals as goal

pub returns : goal.returns
returns c = λ played stands. c.tally.ensures ∙ tallies_same c.args.self.now.daemons.slots.items played.told c.args.daemon stands.slots
