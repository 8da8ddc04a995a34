use Rattle.std.proofs.Common.{◌≡◌, map}
use Rattle.mdns_history.specs.Debts.{way_of}
use Rattle.plain_debts.proofs.query.owed_for.Given as goal

abbrev pub invariant-loop-rr : goal.invariant-loop-rr
invariant-loop-rr l = l.owed.items ≡ map (λ rr. (rr, way_of l.heard l.entry.moment l.past l.question rr)) l.yielded
