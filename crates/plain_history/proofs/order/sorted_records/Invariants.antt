use Rattle.std.proofs.Common.{◌≡◌, vec_len}
use Rattle.dns_record.specs.Records.{record_cmp}
use Rattle.plain_history.specs.Sorting.{sorted_onto}
use Rattle.plain_history.proofs.order.sorted_records.Given as goal

abbrev pub invariant-loop-rr : goal.invariant-loop-rr
invariant-loop-rr l = sorted_onto record_cmp l.records.items l.sorted.items ≡ sorted_onto record_cmp l.initial.records.items l.initial.sorted.items

abbrev pub decreases-loop-rr : goal.decreases-loop-rr
decreases-loop-rr l = vec_len l.records
