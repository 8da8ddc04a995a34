use Rattle.mdns_claims.proofs.Known.{own_known, nsecs_known, ours_known, ttls_known}
use Rattle.mdns_claims.proofs.law.own_and_nsecs_are_known.Goals as goal

pub returns : goal.returns
returns c = record { own = own_known; nsecs = nsecs_known; ours = ours_known; ttls = ttls_known }
