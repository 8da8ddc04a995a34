use Rattle.std.proofs.Common.{rules}
use Rattle.mdns_turn.proofs.SeatSteps.{join_keeps, learn_keeps}
use Rattle.mdns_turn.proofs.turn.Turn.join.Goals as goal

pub join_seat-requires : goal.join_seat-requires
join_seat-requires g c = let a = c.seat.invariant in let b = c.other.invariant in
    (search rules, search rules, b.empty, search rules, join_keeps _ _ _ _ _ _ a.idle b.idle a.named b.named a.quiet b.quiet)

pub load-requires : goal.load-requires
load-requires g c = let a = c.seat.invariant in (search rules, search rules, learn_keeps _ _ _ _ _ (rw c.join_seat.ensures.2 a.idle) (rw c.join_seat.ensures.2 a.named))
