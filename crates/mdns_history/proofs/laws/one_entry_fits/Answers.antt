-- The clause is a law of the definitions.
use Rattle.mdns_history.proofs.Determined.{exactly_one}
use Rattle.mdns_history.proofs.laws.one_entry_fits.Goals as goal

pub returns : goal.returns
returns c = exactly_one
