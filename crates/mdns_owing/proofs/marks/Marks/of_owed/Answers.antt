use Rattle.std.proofs.Common.{◌∙◌, take, subst}
use Rattle.std.proofs.lemmas.List.Elements.{All-more, All-weaker}
use Rattle.mdns_history.specs.Debts.{Owed}
use Rattle.mdns_owing.specs.Marks.{HasMark}
use Rattle.mdns_owing.proofs.marks.Marks.of_owed.Goals as goal

pub loop-owed-preserved : goal.loop-owed-preserved
loop-owed-preserved c =
    let has : Owed → Type 0 = λ owed. HasMark c.with-marks.result.bits owed.0 in
    All-more has c.args.all_owed.now c.loop-owed.owed-index c.owed-item.result c.loop-owed-test.true
    (All-weaker (λ (owed : Owed). HasMark c.loop-owed.marks.bits owed.0) has (λ owed. c.with-marks.ensures.kept owed.0) (take c.loop-owed.owed-index c.args.all_owed.now) c.loop-owed.invariant)
    (subst has (c.owed.view_is ∙ c.owed-item.is) c.with-marks.ensures.has)
