use Rattle.std.proofs.Common.{◌∙◌, ap, sym, subst, List, rules}
use Rattle.std.specs.List.{list_any}
use Rattle.std.specs.List.Sorted.{IsSorted}
use Rattle.std.proofs.lemmas.Fn.{always_returns_same}
use Rattle.dns_record.specs.declared.record.Rr.{Rr}
use Rattle.dns_record.specs.Records.{record_cmp, same}
use Rattle.mdns_pack.proofs.Found.{found}
use Rattle.mdns_pack.proofs.order.Ordered.has.Goals as goal

pub returns : goal.returns
returns c =
    c.is_ok.ensures.value
    ∙ found c.args.rr.now c.as_slice.result.now (subst (λ (rrs : List Rr). IsSorted record_cmp rrs) (sym c.as_slice.ensures) c.self.invariant) c.binary_search_by-found.result
    c.binary_search_by-found.ensures.bound
    (c.binary_search_by-found.ensures.position (λ other. record_cmp other c.args.rr.now) (always_returns_same _ _ _ (λ a r f' k. search rules)))
    ∙ ap (λ (rrs : List Rr). list_any (same c.args.rr.now) rrs) (c.as_slice.ensures ∙ c.self.view_is)
