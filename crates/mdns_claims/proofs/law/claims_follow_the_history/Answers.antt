use Rattle.mdns_claims.proofs.Following.{claims_follow}
use Rattle.mdns_claims.proofs.law.claims_follow_the_history.Goals as goal

pub returns : goal.returns
returns c = claims_follow
