use Rattle.std.proofs.Common.{◌∙◌, rules, ap}
use Rattle.std.specs.List.{dedup}
use Rattle.std.specs.Ordering.{is_lt}
use Rattle.std.proofs.lemmas.Fn.{dedup_same}
use Rattle.std.proofs.lemmas.List.Sorted.{ranks_by, answers_always}
use Rattle.dns_name.specs.Names.{folded_eq, name_cmp}
use Rattle.dns_name.proofs.Folding.{name_cmp-total}
use Rattle.lists.proofs.SortedOnce.{sorted-once}
use Rattle.mdns_records.proofs.Orders.{tied_alike}
use Rattle.mdns_records.proofs.names.in_order.Goals as goal

pub returns : goal.returns
returns c =
    dedup_same _ folded_eq _ (λ x y b f' x' y' k. search rules) _ _ c.dedup_by.ensures.filtered
    ∙ (λ i. dedup (λ x y. tied_alike x y i) c.sort_by.new.self.items)
    ∙ sorted-once name_cmp name_cmp-total _ _
    (c.in_ok-sort_by.ensures.sorted (λ x y. is_lt (name_cmp x y)) (ranks_by name_cmp-total (λ x. x)) (answers_always _ _ _ (λ f a r f' k. ap is_lt (search rules))))
    (c.in_ok-sort_by.ensures.stable (λ x y. is_lt (name_cmp x y)) (ranks_by name_cmp-total (λ x. x)) (answers_always _ _ _ (λ f a r f' k. ap is_lt (search rules))))
