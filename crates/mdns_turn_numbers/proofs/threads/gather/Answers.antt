use Rattle.mdns_turn_numbers.proofs.Gathered.{gathered}
use Rattle.mdns_turn_numbers.proofs.threads.gather.Goals as goal

pub returns-clause-made : goal.returns-clause-made
returns-clause-made g c one two three m n o = let t = c.take_out.ensures.items in let e = c.requires.joined in
    let joined = rw (c.join-3.ensures.joined, c.join-2.ensures.joined, c.join.ensures.joined, e.0, e.1, e.2, e.3, m, n, o) at c.take_out.ensures.joined in
    gathered _ _ c.args.seats.first.number c.args.seats.second.number c.args.seats.third.number _ _ _ _ c.take_out.ensures.mine joined t.seen t.is
