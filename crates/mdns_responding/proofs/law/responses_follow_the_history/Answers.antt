use Rattle.mdns_responding.proofs.Following.{responses_follow}
use Rattle.mdns_responding.proofs.law.responses_follow_the_history.Goals as goal

pub returns : goal.returns
returns c = responses_follow
