use Rattle.mdns_probe.proofs.Firsts.{one_more}
use Rattle.mdns_probe.proofs.groups.first_of.Goals as goal

pub loop-claim-preserved : goal.loop-claim-preserved
loop-claim-preserved c =
    one_more c.args.announces c.args.claims.now c.loop-claim.claim-index c.claim-item.result c.loop-claim.first c.earlier-first.result c.next_due.result
    c.loop-claim-test.true c.claim-item.is c.next_due.ensures c.loop-claim.invariant c.earlier-first.ensures
