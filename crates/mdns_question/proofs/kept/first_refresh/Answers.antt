use Rattle.std.proofs.Common.{◌∙◌}
use Rattle.mdns_question.specs.Next.{open_in}
use Rattle.mdns_question.proofs.FirstRefresh.{least-given}
use Rattle.mdns_question.proofs.kept.first_refresh.Goals as goal

pub loop-told-preserved : goal.loop-told-preserved
loop-told-preserved c =
    least-given (open_in c.args.one.now) c.args.held.now c.loop-told.told-index c.told-item.result c.loop-told.first c.first_with-first.result c.loop-told-test.true c.told-item.is c.first_with-first.ensures
    ∙ c.loop-told.invariant
