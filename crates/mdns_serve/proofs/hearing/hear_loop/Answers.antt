use Rattle.std.proofs.Common.{rules, inl, refl, ◌∙◌, sym, ap, [], ◌++◌, Some, None}
use Rattle.std.proofs.lemmas.List.{append-nil, append_assoc}
use Rattle.std.specs.Arc.{arc_value}
use Rattle.mdns_turn.specs.Models.{HasItsTurns}
use Rattle.mdns_serve.proofs.Heard.{hears_none, hears_after}
use Rattle.mdns_serve.proofs.Seeing.{SeesLegal, still_or}
use Rattle.mdns_serve.proofs.hearing.hear_loop.Goals as goal

pub loop-init : goal.loop-init
loop-init g c = (tt, tt, (refl, refl, refl), refl, ([], sym (append-nil c.args.seat.now.seen)), hears_none _ _ _, refl, inl refl, inl refl)

pub returns-in-Some-next-clause-hears : goal.returns-in-Some-next-clause-hears
returns-in-Some-next-clause-hears g c = hears_after _ (g.E.Ear.arrivals c.loop.ear) _ _ c.loop.seat.mine _ _ (g.A.Air.handed c.loop.kit.air) _ (Some c.in-Some-next.end) c.loop.invariant.5 c.in-Some-next.ensures.hears

pub returns-in-Some-next-clause-its : goal.returns-in-Some-next-clause-its
returns-in-Some-next-clause-its g c = still_or HasItsTurns c.args.seat.now c.loop.seat _ c.loop.invariant.7 c.in-Some-next.ensures.its

pub returns-in-Some-next-clause-legal : goal.returns-in-Some-next-clause-legal
returns-in-Some-next-clause-legal g c = still_or (SeesLegal (arc_value c.args.common.now.turn).opening) c.args.seat.now c.loop.seat _ c.loop.invariant.8 c.in-Some-next.ensures.legal

pub loop-preserved : goal.loop-preserved
loop-preserved g c =
    let i = c.loop.invariant in
    let s = c.in_default.ensures.same in
    let e = c.in_default.ensures.seen in (
      tt,
      tt,
      (s.0 ∙ i.2.0, s.1 ∙ i.2.1, s.2 ∙ i.2.2),
      c.in_default.ensures.joined ∙ i.3,
      (i.4.0 ++ e.0, e.1 ∙ ap (λ l. l ++ e.0) i.4.1 ∙ append_assoc c.args.seat.now.seen i.4.0 e.0),
      hears_after _ (g.E.Ear.arrivals c.loop.ear) _ _ c.loop.seat.mine _ _ (g.A.Air.handed c.loop.kit.air) _ None i.5 c.in_default.ensures.hears,
      search rules,
      still_or HasItsTurns c.args.seat.now c.loop.seat _ i.7 c.in_default.ensures.its,
      still_or (SeesLegal (arc_value c.args.common.now.turn).opening) c.args.seat.now c.loop.seat _ i.8 c.in_default.ensures.legal,
    )
