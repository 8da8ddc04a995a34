use Rattle.mdns_owing.proofs.Due.{none_sooner, some_sooner, some_behind}
use Rattle.mdns_owing.proofs.first.next_sooner.Goals as goal

pub returns-in-Some-clause-none : goal.returns-in-Some-clause-none
returns-in-Some-clause-none c =
    none_sooner c.args.deadlines.now.moments c.args.first c.in-Some.first c.saturating_sub.result c.args.from c.in-Some.is c.saturating_sub.ensures c.next_due.result c.next_due.ensures.none

pub returns-in-Some-clause-behind : goal.returns-in-Some-clause-behind
returns-in-Some-clause-behind c = some_behind c.args.deadlines.now.moments c.saturating_sub.result c.args.from c.next_due.result c.next_due.ensures.some

pub returns-in-Some-clause-some : goal.returns-in-Some-clause-some
returns-in-Some-clause-some c =
    some_sooner c.args.deadlines.now.moments c.args.first c.in-Some.first c.saturating_sub.result c.args.from c.in-Some.is c.saturating_sub.ensures c.next_due.result c.next_due.ensures.some
