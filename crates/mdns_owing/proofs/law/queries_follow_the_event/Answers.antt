use Rattle.mdns_owing.proofs.Following.{queries_follow}
use Rattle.mdns_owing.proofs.law.queries_follow_the_event.Goals as goal

pub returns : goal.returns
returns c = queries_follow
