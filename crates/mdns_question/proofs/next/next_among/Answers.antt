use Rattle.std.proofs.Common.{◌∙◌, ◌<◌, ◌+◌, sym, ap, subst, drop, length}
use Rattle.std.specs.Prelude.{filter}
use Rattle.lists.specs.Lists.{least_of}
use Rattle.mdns_question.specs.Next.{is_open}
use Rattle.mdns_question.proofs.Loops.{least_of-filter_at}
use Rattle.mdns_question.proofs.next.next_among.Goals as goal

pub loop-point-preserved : goal.loop-point-preserved
loop-point-preserved c =
    let within : c.loop-point.point-index < length c.refresh_points-points.result =
    subst (λ l. c.loop-point.point-index < length l) (sym c.refresh_points-points.ensures) c.loop-point-test.true in
    ap (λ n. least_of n (filter (is_open c.args.one.now c.args.told.now) (drop (c.loop-point.point-index + 1) c.refresh_points-points.result))) c.next_at-next.ensures
    ∙ sym (least_of-filter_at (is_open c.args.one.now c.args.told.now) c.refresh_points-points.result c.loop-point.point-index c.loop-point.next within)
    ∙ c.loop-point.invariant
