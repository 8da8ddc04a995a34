use Rattle.std.proofs.Common.{◌∙◌, ◌++◌, ◌∷◌, [], refl, sym, subst}
use Rattle.std.proofs.lemmas.List.{append_assoc}
use Rattle.mdns_history.specs.declared.event.Event.TheVariants as event
use Rattle.mdns_serve.specs.Reading.{IsFor}
use Rattle.mdns_server.proofs.session.miss.Goals as goal

pub returns : goal.returns
returns g c = let t = c.turn-done.ensures.turn in
    let last = (c.args.seat.now.number, c.turn-done.result) ∷ [] in record {
      same = c.turn-done.ensures.same;
      joined = t.joined;
      seen = (t.between ++ last, t.seen ∙ append_assoc c.args.seat.now.seen t.between last);
      turn = c.turn-done.result;
      is = subst (λ r. IsFor event.Attach r) (sym t.ran) refl;
      mine = t.mine;
    }
