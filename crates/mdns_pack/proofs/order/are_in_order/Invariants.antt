use Rattle.dns_record.specs.Records.{record_cmp}
use Rattle.dns_record.proofs.Same.{record_cmp_total}
use Rattle.mdns_pack.proofs.Rising.{IsRisingTo}
use Rattle.mdns_pack.proofs.order.are_in_order.Given as goal

abbrev pub invariant-loop-next : goal.invariant-loop-next
invariant-loop-next l = IsRisingTo record_cmp record_cmp_total l.next l.listings
