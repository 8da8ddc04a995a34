use Rattle.std.proofs.Common.{rules, ap, ◌∙◌}
use Rattle.mdns_turn.proofs.TurnSteps.{look_keeps}
use Rattle.mdns_turn.proofs.turn.Turn.look.Goals as goal

pub load-found-requires : goal.load-found-requires
load-found-requires g c = (search rules, search rules, look_keeps _ _ _ _ _ c.args.ticket (search rules) (search rules))

-- another ticket is served, so the look changed nothing
pub loop-preserved : goal.loop-preserved
loop-preserved g c = let i = c.loop.invariant in let stayed = (c.load-found.ensures.2 c.args.ticket (ap (λ m. m.0.stage) i.3 ∙ c.requires.waits)).1 c.if-found-ticket.false in
    (tt, tt, (search rules, search rules), stayed ∙ i.3)
