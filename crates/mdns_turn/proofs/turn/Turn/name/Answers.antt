use Rattle.std.proofs.Common.{rules, refl}
use mathlib.Core.Option.{none}
use Rattle.mdns_turn.proofs.SeatSteps.{name_keeps}
use Rattle.mdns_turn.proofs.turn.Turn.name.Goals as goal

pub compare_exchange-found-requires : goal.compare_exchange-found-requires
compare_exchange-found-requires g c = (search rules, search rules, name_keeps _ _ _ _ _ _ _ none (search rules) (search rules) (search rules) refl)
