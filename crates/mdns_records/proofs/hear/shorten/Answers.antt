use Rattle.std.proofs.Common.{◌∙◌, sym, ap, set}
use Rattle.std.proofs.lemmas.List.Edits.{map_over_more}
use Rattle.mdns_cache.specs.Lifetimes.{hearing_at, shortened}
use Rattle.mdns_records.proofs.hear.shorten.Goals as goal

pub loop-one-preserved : goal.loop-one-preserved
loop-one-preserved c =
    ap (set c.loop-one.held c.loop-one.one-index) (c.shorten_one.ensures ∙ ap (shortened (hearing_at c.args.when.moment 0 c.args.rr.now)) (sym c.one-item.is))
    ∙ map_over_more (shortened (hearing_at c.args.when.moment 0 c.args.rr.now)) c.args.held.now c.loop-one.held c.loop-one.one-index c.one-item.result c.loop-one-test.true c.loop-one.invariant c.one-item.is
