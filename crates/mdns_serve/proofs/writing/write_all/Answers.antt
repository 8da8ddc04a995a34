use Rattle.std.proofs.Common.{rules, ℕ, subst, refl, ◌∙◌, sym, ap, [], ◌++◌, Some, None}
use Rattle.std.proofs.lemmas.List.{append-nil, append_assoc}
use Rattle.mdns_serve.specs.Writing.{Takes}
use Rattle.mdns_serve.proofs.Putting.{takes_none, takes_after}
use Rattle.mdns_serve.proofs.writing.write_all.Goals as goal

pub loop-init : goal.loop-init
loop-init g c = (tt, tt, (refl, refl, refl), refl, ([], sym (append-nil c.args.seat.now.seen)), takes_none c.args.half.now.session _ _ _, refl, refl)

pub returns-in-Some-next-clause-takes : goal.returns-in-Some-next-clause-takes
returns-in-Some-next-clause-takes g c = takes_after c.args.half.now.session _ (g.K.Sink.held c.loop.half.end) _ _ c.loop.seat.mine _ _ (g.A.Air.handed c.loop.kit.air) _ (Some c.in-Some-next.end) c.loop.invariant.5
    (subst (λ (s : ℕ). Takes s (g.K.Sink.held c.loop.half.end) (g.K.Sink.held c.write_some-next.new.half.end) c.loop.seat.mine c.write_some-next.new.seat.mine (g.A.Air.handed c.loop.kit.air) (g.A.Air.handed c.write_some-next.new.kit.air) (Some c.in-Some-next.end)) c.loop.invariant.6 c.in-Some-next.ensures.takes)

pub loop-preserved : goal.loop-preserved
loop-preserved g c =
    let i = c.loop.invariant in
    let s = c.in_default.ensures.same in
    let e = c.in_default.ensures.seen in (
      tt,
      tt,
      (s.0 ∙ i.2.0, s.1 ∙ i.2.1, s.2 ∙ i.2.2),
      c.in_default.ensures.joined ∙ i.3,
      (i.4.0 ++ e.0, e.1 ∙ ap (λ l. l ++ e.0) i.4.1 ∙ append_assoc c.args.seat.now.seen i.4.0 e.0),
      takes_after c.args.half.now.session _ (g.K.Sink.held c.loop.half.end) _ _ c.loop.seat.mine _ _ (g.A.Air.handed c.loop.kit.air) _ None i.5
          (subst (λ (s : ℕ). Takes s (g.K.Sink.held c.loop.half.end) (g.K.Sink.held c.write_some-next.new.half.end) c.loop.seat.mine c.write_some-next.new.seat.mine (g.A.Air.handed c.loop.kit.air) (g.A.Air.handed c.write_some-next.new.kit.air) None) i.6 c.in_default.ensures.takes),
      c.in_default.ensures.session ∙ i.6,
      search rules,
    )
