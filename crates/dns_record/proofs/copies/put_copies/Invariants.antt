use Rattle.std.proofs.Common.{◌≡◌, ◌++◌, take}
use Rattle.dns_record.proofs.copies.put_copies.Given as goal

abbrev pub invariant-loop-rr : goal.invariant-loop-rr
invariant-loop-rr l = l.records.items ≡ l.initial.records.items ++ take l.rr-index l.others
