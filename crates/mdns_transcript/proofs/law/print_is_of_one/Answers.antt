use Rattle.mdns_transcript.proofs.OneList.{print_of_one}
use Rattle.mdns_transcript.proofs.law.print_is_of_one.Goals as goal

pub returns : goal.returns
returns c = print_of_one
