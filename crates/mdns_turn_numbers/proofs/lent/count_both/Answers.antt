use Rattle.std.proofs.Common.{sym, ap, ◌∙◌, [], length}
use Rattle.mdns_turn_numbers.proofs.lent.count_both.Goals as goal

pub returns-clause-shared : goal.returns-clause-shared
returns-clause-shared g c = let t = c.turn.ensures.turn in record {
  between = t.between;
  seen = rw c.turn.ensures.same.2 t.seen;
  is = t.ran.1 ∙ ap length (sym (t.got [] (sym c.requires.empty)));
}
