use Rattle.std.proofs.Common.{◌++◌, ap, ◌∙◌}
use Rattle.mdns_turn.proofs.Histories.{has_more}
use Rattle.mdns_turn.proofs.Turning.{stands_after}
use Rattle.mdns_turn.proofs.turn.Turn.turn_at.Goals as goal

pub serve-served-requires-clause-opening : goal.serve-served-requires-clause-opening
serve-served-requires-clause-opening g c = let a = c.enter-value.ensures.arrives in ap (λ z. z.0.opening) c.put_back.ensures.seat ∙ (ap (λ z. z.0.opening) a.seat ∙ c.requires.turn.1)

pub serve-served-requires-clause-stands : goal.serve-served-requires-clause-stands
serve-served-requires-clause-stands g c = let v = c.args.place.now.me.0 in let a = c.enter-value.ensures.arrives in let e = ap (λ z. z.0) c.put_back.ensures.seat ∙ ap (λ z. z.0) a.seat in
    rw (e, c.of-asked.ensures, c.of-before.ensures, c.of-after.ensures) (stands_after g.T.Tale.stands c.args.self.now.opening (v.seen ++ a.between) v.number _ _ _ (a.current.right _ c.requires.turn.1) c.run-reply.ensures.stands)

pub returns-clause-turn : goal.returns-clause-turn
returns-clause-turn g c = let v = c.args.place.now.me.0 in let a = c.enter-value.ensures.arrives in let e = ap (λ z. z.0) c.put_back.ensures.seat ∙ ap (λ z. z.0) a.seat in
    let k = rw (e, c.of-asked.ensures, c.of-before.ensures, c.of-after.ensures) at (ap (λ z. z.0) c.serve-served.ensures.seat) in record {
      between = a.between;
      before = c.enter-value.result;
      after = c.run-reply.new.value;
      got = a.current.right _ c.requires.turn.1;
      ran = c.run-reply.ensures.runs;
      seen = ap (λ z. z.seen) k;
      mine = ap (λ z. z.mine) k;
      joined = ap (λ z. z.joined) k;
      left = rw k (stands_after g.T.Tale.stands c.args.self.now.opening (v.seen ++ a.between) v.number _ _ _ (a.current.right _ c.requires.turn.1) c.run-reply.ensures.stands);
    }

pub returns-clause-mine : goal.returns-clause-mine
returns-clause-mine g c = let v = c.args.place.now.me.0 in let a = c.enter-value.ensures.arrives in let e = ap (λ z. z.0) c.put_back.ensures.seat ∙ ap (λ z. z.0) a.seat in
    let k = rw (e, c.of-asked.ensures, c.of-before.ensures, c.of-after.ensures) at (ap (λ z. z.0) c.serve-served.ensures.seat) in
    rw k (has_more (v.seen ++ a.between) v.number v.mine v.joined (g.W.Work.turn c.args.work c.enter-value.result c.run-reply.result c.run-reply.new.value) a.current.turns)
