use Rattle.mdns_turn.proofs.Turning.{arrives}
use Rattle.mdns_turn.proofs.turn.Turn.enter.Goals as goal

pub returns-clause-arrives : goal.returns-clause-arrives
returns-clause-arrives g c = arrives _ _ _ _ _ _ _ c.draw-ticket.ensures.seat c.look.ensures.comes c.take.ensures.value c.take.ensures.seat
