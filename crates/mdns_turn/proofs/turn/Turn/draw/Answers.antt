use Rattle.std.proofs.Common.{rules, arith, refl}
use mathlib.Core.Option.{none}
use Rattle.mdns_turn.proofs.TurnSteps.{draw_keeps}
use Rattle.mdns_turn.proofs.turn.Turn.draw.Goals as goal

pub compare_exchange-found-requires : goal.compare_exchange-found-requires
compare_exchange-found-requires g c = (search rules, search rules, draw_keeps _ _ _ _ _ _ _ none (search rules) refl (omega arith))
