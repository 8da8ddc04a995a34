-- The clause is a law of the texts.
use Rattle.mdns_history.proofs.EntryTexts.{one_to_one}
use Rattle.mdns_history.proofs.laws.print_is_one_to_one.Goals as goal

pub returns : goal.returns
returns c = one_to_one
