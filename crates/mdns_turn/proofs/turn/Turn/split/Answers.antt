use Rattle.std.proofs.Common.{rules}
use Rattle.mdns_turn.proofs.SeatSteps.{split_keeps}
use Rattle.mdns_turn.proofs.turn.Turn.split.Goals as goal

pub split_seat-place-requires : goal.split_seat-place-requires
split_seat-place-requires g c = (search rules, search rules, split_keeps _ _ _ _)
