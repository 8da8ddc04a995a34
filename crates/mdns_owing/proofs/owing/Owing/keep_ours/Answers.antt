use Rattle.std.proofs.Common.{arith, drop, length}
use Rattle.mdns_claims.specs.Owned.{is_ours}
use Rattle.mdns_owing.proofs.Due.{timed_written}
use Rattle.mdns_owing.proofs.owing.Owing.keep_ours.Goals as goal

pub drop_satisfied-requires-clause-timed : goal.drop_satisfied-requires-clause-timed
drop_satisfied-requires-clause-timed c =
    timed_written (λ query owed. is_ours c.args.claims.now.contents.kept owed.0) c.self.inside.queries.items c.deref_mut.result.now c.keep_all_ours-satisfied.new.queries
    (drop (length c.keep_all_ours-satisfied.new.queries) c.self.inside.queries.items)
    c.self.inside.deadlines.moments c.self.inside.queries.len c.self.invariant.timed (omega (arith, c.self.inside.queries.ok.0)) c.deref_mut.ensures.value c.keep_all_ours-satisfied.ensures.left
