use Rattle.std.proofs.Common.{◌∙◌, sym, ap, set}
use Rattle.std.proofs.lemmas.List.Edits.{map_over_more}
use Rattle.mdns_contest.specs.Turning.{renamed_to}
use Rattle.mdns_contest.proofs.turns.rename.Goals as goal

pub loop-holding-preserved : goal.loop-holding-preserved
loop-holding-preserved c =
    ap (set c.loop-holding.holdings c.loop-holding.holding-index) (c.rename_one.ensures ∙ ap (renamed_to c.args.id c.args.name.now) (sym c.holding-item.is))
    ∙ map_over_more (renamed_to c.args.id c.args.name.now) c.args.holdings.now c.loop-holding.holdings c.loop-holding.holding-index c.holding-item.result c.loop-holding-test.true c.loop-holding.invariant c.holding-item.is
