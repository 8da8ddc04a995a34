use Rattle.std.proofs.Common.{◌∙◌, ap, subst, ◌++◌}
use Rattle.std.specs.Arc.{arc_value}
use Rattle.std.proofs.lemmas.List.{append_assoc}
use Rattle.mdns_serve.specs.Tending.{Tended}
use Rattle.mdns_turn.specs.Models.{HasItsTurns}
use Rattle.mdns_serve.proofs.Tends.{tended_after}
use Rattle.mdns_serve.proofs.Seeing.{SeesLegal, still_or}
use Rattle.mdns_serve.proofs.ticking.tick_loop.Goals as goal

pub loop-preserved : goal.loop-preserved
loop-preserved g c =
    let i = c.loop.invariant in
    let s = c.tend_if_due.ensures.same in
    let e = c.tend_if_due.ensures.seen in
    let tended = subst (λ n. Tended (arc_value c.args.common.now.turn).opening n c.tend_if_due.new.seat.seen c.loop.seat.mine c.tend_if_due.new.seat.mine (g.A.Air.handed c.loop.kit.air) (g.A.Air.handed c.tend_if_due.new.kit.air)) i.2.2 c.tend_if_due.ensures.tended in (
      tt,
      tt,
      (s.0 ∙ i.2.0, s.1 ∙ i.2.1, s.2 ∙ i.2.2),
      c.tend_if_due.ensures.joined ∙ i.3,
      (i.4.0 ++ e.0, e.1 ∙ ap (λ l. l ++ e.0) i.4.1 ∙ append_assoc c.args.seat.now.seen i.4.0 e.0),
      tended_after (arc_value c.args.common.now.turn).opening c.args.seat.now.number c.loop.seat.seen _ _ c.loop.seat.mine _ _ (g.A.Air.handed c.loop.kit.air) _ e i.5 tended,
      still_or HasItsTurns c.args.seat.now c.loop.seat _ i.6 c.tend_if_due.ensures.its,
      still_or (SeesLegal (arc_value c.args.common.now.turn).opening) c.args.seat.now c.loop.seat _ i.7 c.tend_if_due.ensures.legal,
    )
