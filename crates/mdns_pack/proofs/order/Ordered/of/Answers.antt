use Rattle.std.proofs.Common.{sym, subst, List}
use Rattle.std.specs.List.Sorted.{IsSorted}
use Rattle.dns_record.specs.declared.record.Rr.{Rr}
use Rattle.dns_record.specs.Records.{record_cmp}
use Rattle.lists.proofs.SortedOnce.{sorted-ordered}
use Rattle.dns_record.proofs.Same.{record_cmp_total}
use Rattle.mdns_pack.proofs.order.Ordered.of.Goals as goal

pub invariant_of-result : goal.invariant_of-result
invariant_of-result c =
    subst (λ (rrs : List Rr). IsSorted record_cmp rrs) (sym c.in_ok-in_order.ensures) (sorted-ordered record_cmp record_cmp_total c.args.records.items)
