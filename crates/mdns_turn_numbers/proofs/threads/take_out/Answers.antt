use Rattle.std.proofs.Common.{sym, ◌∙◌, []}
use Rattle.mdns_turn_numbers.proofs.threads.take_out.Goals as goal

pub returns-clause-items : goal.returns-clause-items
returns-clause-items g c = let t = c.turn.ensures.turn in record {
  between = t.between;
  seen = rw c.turn.ensures.same.2 t.seen;
  is = t.ran ∙ sym (t.got [] (sym c.requires.empty));
}
