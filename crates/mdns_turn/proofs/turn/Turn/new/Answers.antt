use Rattle.mdns_turn.proofs.SeatSteps.{begins}
use Rattle.mdns_turn.proofs.turn.Turn.new.Goals as goal

pub new-requires : goal.new-requires
new-requires g c = let items = c.in_ok-push.ensures.items in rw (c.of-opening.ensures, items, c.new-slots.ensures.items) (begins g.T.Tale.stands c.args.value)
