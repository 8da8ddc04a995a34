use Rattle.std.proofs.Common.{◌≡◌}
use Rattle.indexmap.specs.IndexSet.{insert_all}
use Rattle.mdns_history.specs.Debts.{owed_eq}
use Rattle.mdns_owing.specs.Owing.{heard_in, last_in, unstruck_for}
use Rattle.mdns_owing.proofs.hearing.Ours.put_each.Given as goal

abbrev pub invariant-loop-rr : goal.invariant-loop-rr
invariant-loop-rr l = l.owed.keys ≡ insert_all owed_eq l.initial.owed.keys (unstruck_for (last_in l.self.lasts.now.lasts) (heard_in l.hearing.heard.now) l.hearing.moment l.question l.yielded)
