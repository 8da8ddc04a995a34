use Rattle.std.proofs.Common.{◌≡◌}
use Rattle.std.specs.Prelude.{filter}
use Rattle.dns_record.specs.Records.{matches}
use Rattle.plain_debts.proofs.owed.own_matching.Given as goal

abbrev pub invariant-loop-rr : goal.invariant-loop-rr
invariant-loop-rr l = l.found.items ≡ filter (matches l.key) l.yielded
