use Rattle.std.proofs.Common.{◌∙◌, sym, ap, map, drop, ◌+◌, min}
use Rattle.lists.specs.Lists.{least_of}
use Rattle.mdns_debts.specs.Following.{moment_of}
use Rattle.mdns_owing.specs.Owing.{last_in}
use Rattle.mdns_owing.proofs.Firsts.{least_more}
use Rattle.mdns_owing.proofs.query.Query.next_due.Goals as goal

pub loop-owed-preserved : goal.loop-owed-preserved
loop-owed-preserved c =
    ap (λ n. least_of n (map (moment_of (last_in c.args.lasts.now.lasts) c.args.self.now) (drop (c.loop-owed.owed-index + 1) c.in_ok-first.rest.now))) (c.min-due.ensures ∙ ap (min c.loop-owed.due) c.moment_of.ensures)
    ∙ sym (least_more (moment_of (last_in c.args.lasts.now.lasts) c.args.self.now) c.in_ok-first.rest.now c.loop-owed.owed-index c.owed-item.result c.loop-owed.due c.loop-owed-test.true c.owed-item.is)
    ∙ c.loop-owed.invariant
