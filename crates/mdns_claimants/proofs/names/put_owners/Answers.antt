use Rattle.std.proofs.Common.{◌∙◌}
use Rattle.mdns_claimants.proofs.Naming.{passed, not_within}
use Rattle.mdns_claimants.proofs.names.put_owners.Goals as goal

pub loop-rr-preserved : goal.loop-rr-preserved
loop-rr-preserved c = record {
  kept = λ name h. c.in_ok-put_once.ensures.kept name (c.loop-rr.invariant.kept name h);
  named = λ name e.
      passed c.put_once.new.names.items c.args.rrs.now c.loop-rr.rr-index c.rr-item.result c.loop-rr-test.true c.rr-item.is c.in_ok-put_once.ensures.put name e
      ∙ c.loop-rr.invariant.named name (not_within c.loop-rr.names.items c.put_once.new.names.items c.in_ok-put_once.ensures.kept name e);
}
