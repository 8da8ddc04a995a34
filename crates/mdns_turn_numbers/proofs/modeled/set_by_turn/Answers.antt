use Rattle.std.proofs.Common.{refl, [], ◌∷◌}
use Rattle.mdns_turn_numbers.proofs.modeled.set_by_turn.Goals as goal

pub returns-clause-sets : goal.returns-clause-sets
returns-clause-sets g c = let t = c.turn.ensures.turn in record {
  between = t.between;
  was = rw t.ran.0 (t.got (c.args.turn.now.opening ∷ []) ([], refl));
  seen = t.seen;
}
