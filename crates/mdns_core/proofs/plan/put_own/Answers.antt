use Rattle.std.proofs.Common.{◌∙◌, sym, ap, set}
use Rattle.std.proofs.lemmas.List.Edits.{map_over_more}
use Rattle.mdns_happened.specs.declared.walk.Walk.{Walk}
use Rattle.mdns_claims.specs.Later.{groups_behind}
use Rattle.mdns_claims.specs.Owned.{own_in}
use Rattle.mdns_core.specs.Enough.{with_own}
use Rattle.mdns_core.proofs.plan.put_own.Goals as goal

pub loop-walk-preserved : goal.loop-walk-preserved
loop-walk-preserved c =
    let owned : Walk → Walk = with_own (own_in c.args.claims.now.contents.kept) (own_in (groups_behind c.args.behind.now)) in
    ap (set c.loop-walk.walks c.loop-walk.walk-index) (c.in_ok-put_own_of.ensures ∙ ap owned (sym c.walk-item.is))
    ∙ map_over_more owned c.args.walks.now c.loop-walk.walks c.loop-walk.walk-index c.walk-item.result c.loop-walk-test.true c.loop-walk.invariant c.walk-item.is
