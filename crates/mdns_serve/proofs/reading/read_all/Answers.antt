use Rattle.std.proofs.Common.{rules, ℕ, subst, refl, ◌∙◌, sym, ap, [], ◌++◌}
use Rattle.std.proofs.lemmas.List.{append-nil, append_assoc}
use Rattle.mdns_serve.specs.Reading.{Goes, Stops}
use Rattle.mdns_serve.proofs.Calling.{goes_none, goes_after, stops_after}
use Rattle.mdns_serve.proofs.reading.read_all.Goals as goal

pub loop-init : goal.loop-init
loop-init g c = (tt, tt, (refl, refl, refl), refl, ([], sym (append-nil c.args.seat.now.seen)), goes_none c.args.half.now.session _ _ _, refl, refl)

pub returns-in-Some-next-clause-stops : goal.returns-in-Some-next-clause-stops
returns-in-Some-next-clause-stops g c = stops_after c.args.half.now.session _ (g.S.Source.left c.loop.half.end) _ _ c.loop.seat.mine _ _ (g.A.Air.handed c.loop.kit.air) _ c.in-Some-next.end c.loop.invariant.5
    (subst (λ (s : ℕ). Stops s (g.S.Source.left c.loop.half.end) (g.S.Source.left c.read_one-next.new.half.end) c.loop.seat.mine c.read_one-next.new.seat.mine (g.A.Air.handed c.loop.kit.air) (g.A.Air.handed c.read_one-next.new.kit.air) c.in-Some-next.end) c.loop.invariant.6 c.in-Some-next.ensures.did)

pub loop-preserved : goal.loop-preserved
loop-preserved g c =
    let i = c.loop.invariant in
    let s = c.in_default.ensures.same in
    let e = c.in_default.ensures.seen in (
      tt,
      tt,
      (s.0 ∙ i.2.0, s.1 ∙ i.2.1, s.2 ∙ i.2.2),
      c.in_default.ensures.joined ∙ i.3,
      (i.4.0 ++ e.0, e.1 ∙ ap (λ l. l ++ e.0) i.4.1 ∙ append_assoc c.args.seat.now.seen i.4.0 e.0),
      goes_after c.args.half.now.session _ (g.S.Source.left c.loop.half.end) _ _ c.loop.seat.mine _ _ (g.A.Air.handed c.loop.kit.air) _ i.5
          (subst (λ (s : ℕ). Goes s (g.S.Source.left c.loop.half.end) (g.S.Source.left c.read_one-next.new.half.end) c.loop.seat.mine c.read_one-next.new.seat.mine (g.A.Air.handed c.loop.kit.air) (g.A.Air.handed c.read_one-next.new.kit.air)) i.6 c.in_default.ensures.did),
      c.in_default.ensures.session ∙ i.6,
      search rules,
    )
