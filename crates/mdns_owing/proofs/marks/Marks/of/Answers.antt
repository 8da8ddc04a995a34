use Rattle.std.proofs.Common.{take, subst}
use Rattle.std.proofs.lemmas.List.Elements.{All-more, All-weaker}
use Rattle.mdns_owing.specs.Marks.{HasMark}
use Rattle.mdns_owing.proofs.marks.Marks.of.Goals as goal

pub loop-rr-preserved : goal.loop-rr-preserved
loop-rr-preserved c =
    All-more (HasMark c.with-marks.result.bits) c.args.rrs.now c.loop-rr.rr-index c.rr-item.result c.loop-rr-test.true
    (All-weaker (HasMark c.loop-rr.marks.bits) (HasMark c.with-marks.result.bits) c.with-marks.ensures.kept (take c.loop-rr.rr-index c.args.rrs.now) c.loop-rr.invariant)
    (subst (HasMark c.with-marks.result.bits) c.rr-item.is c.with-marks.ensures.has)
