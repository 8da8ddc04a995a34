use Rattle.std.proofs.Common.{◌∙◌, rules, ap}
use Rattle.std.specs.Ordering.{is_lt, is_eq}
use Rattle.std.proofs.lemmas.Fn.{dedup_same}
use Rattle.std.proofs.lemmas.List.Sorted.{ranks_by, answers_always}
use Rattle.dns_record.specs.Records.{record_cmp}
use Rattle.lists.proofs.SortedOnce.{sorted-once}
use Rattle.dns_record.proofs.Same.{record_cmp_total}
use Rattle.mdns_pack.proofs.order.put_listings_in_order.Goals as goal

pub returns : goal.returns
returns c =
    dedup_same _ (λ x y. is_eq (record_cmp x y)) _ (λ x y b f' x' y' k. search rules) _ _ c.dedup_by.ensures.filtered
    ∙ sorted-once record_cmp record_cmp_total _ _
    (c.in_ok-sort_by.ensures.sorted (λ x y. is_lt (record_cmp x y)) (ranks_by record_cmp_total (λ x. x)) (answers_always _ _ _ (λ f a r f' k. ap is_lt (search rules))))
    (c.in_ok-sort_by.ensures.stable (λ x y. is_lt (record_cmp x y)) (ranks_by record_cmp_total (λ x. x)) (answers_always _ _ _ (λ f a r f' k. ap is_lt (search rules))))
