use Rattle.std.proofs.Common.{◌≡◌, ◌+◌, drop}
use Rattle.std.specs.List.{prefix_len}
use Rattle.std.specs.Ordering.{is_lt}
use Rattle.dns_record.specs.Records.{record_cmp}
use Rattle.plain_history.proofs.order.place_of.Given as goal

abbrev pub invariant-loop-other : goal.invariant-loop-other
invariant-loop-other l = record { at : l.count ≡ l.other-index; counted : prefix_len (λ other. is_lt (record_cmp other l.rr)) l.records ≡ l.count + prefix_len (λ other. is_lt (record_cmp other l.rr)) (drop l.other-index l.records) }
