use Rattle.std.proofs.Common.{◌∙◌, rules, ap}
use Rattle.std.specs.Ordering.{is_lt}
use Rattle.std.proofs.lemmas.List.Sorted.{ranks_by, answers_always}
use Rattle.dns_record.specs.Records.{record_cmp}
use Rattle.dns_record.proofs.Same.{record_cmp_total}
use Rattle.mdns_pack.proofs.Sorting.{sorted-stably}
use Rattle.mdns_pack.proofs.order.sorted.Goals as goal

pub returns : goal.returns
returns c =
    c.from_vec.ensures
    ∙ sorted-stably record_cmp record_cmp_total _ _
    (c.in_ok-sort_by.ensures.sorted (λ x y. is_lt (record_cmp x y)) (ranks_by record_cmp_total (λ x. x)) (answers_always _ _ _ (λ f a r f' k. ap is_lt (search rules))))
    (c.in_ok-sort_by.ensures.stable (λ x y. is_lt (record_cmp x y)) (ranks_by record_cmp_total (λ x. x)) (answers_always _ _ _ (λ f a r f' k. ap is_lt (search rules))))
