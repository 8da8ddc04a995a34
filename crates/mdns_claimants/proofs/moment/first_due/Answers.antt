use Rattle.std.proofs.Common.{ap, ◌∙◌}
use Rattle.mdns_claimants.proofs.Loops.{one_more}
use Rattle.mdns_probe.specs.Claiming.{next_of}
use Rattle.mdns_claimants.specs.Due.{next_in}
use Rattle.mdns_claimants.proofs.moment.first_due.Goals as goal

pub loop-one-preserved : goal.loop-one-preserved
loop-one-preserved c =
    one_more (next_in c.args.announces) c.args.groups.now c.loop-one.one-index c.one-item.result c.loop-one.first c.earlier-first.result c.next_due.result
    c.loop-one-test.true c.one-item.is (c.next_due.ensures ∙ ap (next_of c.args.announces) c.claim.ensures.claim) c.loop-one.invariant c.earlier-first.ensures
