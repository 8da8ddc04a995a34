use Rattle.std.proofs.Common.{◌≡◌, map, drop}
use Rattle.lists.specs.Lists.{least_of}
use Rattle.mdns_debts.specs.Following.{moment_of}
use Rattle.mdns_owing.specs.Owing.{last_in}
use Rattle.mdns_owing.proofs.query.Query.next_due.Given as goal

abbrev pub invariant-loop-owed : goal.invariant-loop-owed
invariant-loop-owed l = least_of l.due (map (moment_of (last_in l.lasts.lasts) l.self) (drop l.owed-index l.rest)) ≡ least_of l.initial.due (map (moment_of (last_in l.lasts.lasts) l.self) l.rest)
