use Rattle.std.proofs.Common.{◌≡◌}
use Rattle.lists.specs.Lists.{without}
use Rattle.dns_record.specs.Records.{same}
use Rattle.plain_sending.proofs.goodbyes.others_than.Given as goal

abbrev pub invariant-loop-rr : goal.invariant-loop-rr
invariant-loop-rr l = l.left.items ≡ without same l.yielded l.own
