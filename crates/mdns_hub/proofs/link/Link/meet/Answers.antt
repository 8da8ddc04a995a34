use Rattle.std.proofs.Common.{◌≡◌, List, Bool, not, filter, ap, rules}
use Rattle.std.proofs.lemmas.Fn.{filter_same}
use Rattle.mdns_hub.specs.declared.delivery.Parted.{Parted}
use Rattle.mdns_hub.specs.Links.{LinkState, is_pair}
use Rattle.mdns_hub.specs.Kept.{link_of}
use Rattle.mdns_hub.proofs.link.Link.meet.Goals as goal

pub returns : goal.returns
returns c =
    let stays : Parted → Bool = λ pair. not (is_pair c.args.left c.args.right pair) in
    let kept : c.retain.new.self.items ≡ filter stays c.args.self.now.parted.items = filter_same _ stays _ (λ x b f k. search rules) _ _ c.retain.ensures.filtered in
    ap (λ (ps : List Parted). let state : LinkState = record (link_of c.args.self.now) { parted = ps } in state) kept
