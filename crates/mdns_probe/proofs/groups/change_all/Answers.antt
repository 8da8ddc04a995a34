use Rattle.std.proofs.Common.{◌∙◌, sym, ap, set}
use Rattle.std.proofs.lemmas.List.Edits.{map_over_more}
use Rattle.mdns_probe.specs.Claiming.{changed_of, change_of}
use Rattle.mdns_probe.proofs.groups.change_all.Goals as goal

pub loop-claim-preserved : goal.loop-claim-preserved
loop-claim-preserved c =
    ap (set c.loop-claim.claims c.loop-claim.claim-index) (c.change_one.ensures ∙ ap (changed_of c.args.group (change_of c.args.now c.args.change)) (sym c.claim-item.is))
    ∙ map_over_more (changed_of c.args.group (change_of c.args.now c.args.change)) c.args.claims.now c.loop-claim.claims c.loop-claim.claim-index c.claim-item.result c.loop-claim-test.true c.loop-claim.invariant c.claim-item.is
