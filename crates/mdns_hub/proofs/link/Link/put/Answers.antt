use Rattle.std.proofs.Common.{◌≡◌, ◌∙◌, ap, ℕ, List, insert, not, nat_lt}
use Rattle.std.specs.List.{prefix_len}
use Rattle.mdns_hub.specs.declared.delivery.Delivery.{Delivery}
use Rattle.mdns_hub.specs.Links.{LinkState, put_delivery}
use Rattle.mdns_hub.specs.Kept.{link_of}
use Rattle.mdns_hub.proofs.Fitness.{inserted}
use Rattle.mdns_hub.proofs.link.Link.put.Goals as goal

pub returns-clause-done : goal.returns-clause-done
returns-clause-done c =
    let old : List Delivery = c.args.self.now.under_way.items in
    let at : c.place_behind-place.result ≡ prefix_len (λ next. not (nat_lt c.args.delivery.moment next.moment)) old = c.place_behind-place.ensures.place ∙ ap (λ (ds : List Delivery). prefix_len (λ next. not (nat_lt c.args.delivery.moment next.moment)) ds) c.as_slice.ensures.value in
    let items : c.insert.new.self.items ≡ put_delivery c.args.delivery old =
    c.in_ok-insert.ensures.items ∙ ap (λ (n : ℕ). insert old n c.args.delivery) at ∙ inserted c.args.delivery old in
    ap (λ (ds : List Delivery). let state : LinkState = record (link_of c.args.self.now) { under_way = ds } in state) items
