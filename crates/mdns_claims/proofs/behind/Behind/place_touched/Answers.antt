use Rattle.mdns_claims.specs.Seen.{means_in}
use Rattle.mdns_claims.proofs.Touched.{due_none, due_next}
use Rattle.mdns_claims.proofs.behind.Behind.place_touched.Goals as goal

pub returns-in-Ticks-clause-none : goal.returns-in-Ticks-clause-none
returns-in-Ticks-clause-none c =
    due_none (means_in c.args.self.now.means) c.args.self.now.deed.now c.args.self.now.groups.now c.args.from c.in-Ticks.is c.place_due.result c.place_due.ensures.none

pub returns-in-Ticks-clause-some : goal.returns-in-Ticks-clause-some
returns-in-Ticks-clause-some c =
    due_next (means_in c.args.self.now.means) c.args.self.now.deed.now c.args.self.now.groups.now c.args.from c.in-Ticks.is c.place_due.result c.place_due.ensures.within c.place_due.ensures.some
