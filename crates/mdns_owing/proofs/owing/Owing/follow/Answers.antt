use Rattle.std.proofs.Common.{arith, drop, length}
use Rattle.mdns_debts.specs.Following.{leaves}
use Rattle.mdns_owing.specs.Owing.{news_in}
use Rattle.mdns_owing.proofs.Due.{timed_written}
use Rattle.mdns_owing.proofs.owing.Owing.follow.Goals as goal

pub drop_satisfied-requires-clause-timed : goal.drop_satisfied-requires-clause-timed
drop_satisfied-requires-clause-timed c =
    timed_written (leaves (news_in c.args.news.now)) c.self.inside.queries.items c.deref_mut.result.now c.follow_all-satisfied.new.queries (drop (length c.follow_all-satisfied.new.queries) c.self.inside.queries.items)
    c.self.inside.deadlines.moments c.self.inside.queries.len c.self.invariant.timed (omega (arith, c.self.inside.queries.ok.0)) c.deref_mut.ensures.value c.follow_all-satisfied.ensures.left
