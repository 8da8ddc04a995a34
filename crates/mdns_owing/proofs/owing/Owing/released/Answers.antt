use Rattle.std.proofs.Common.{◌≡◌, ◌∙◌, ◌++◌, List, map, ap, subst, IfOk}
use Rattle.std.specs.Prelude.{filter}
use Rattle.std.specs.List.{flat_map}
use Rattle.lists.specs.Lists.{ordered}
use Rattle.dns_record.specs.declared.record.Rr.{Rr}
use Rattle.dns_record.specs.Records.{record_cmp}
use Rattle.mdns_debts.specs.Releasing.{Wanted, is_let_go, released_by, wanted_of}
use Rattle.mdns_owing.specs.Owing.{last_in, released_of}
use Rattle.mdns_owing.proofs.Probed.{released_in_turn}
use Rattle.mdns_owing.proofs.owing.Owing.released.Goals as goal

pub returns : goal.returns
unfolding released_by
returns c =
    let lets_go = is_let_go (last_in c.args.lasts.now.lasts) c.args.now (flat_map (wanted_of c.args.now) c.args.self.now.queries) in
    let items : c.put_all_released.new.released.items ≡ filter lets_go (map (λ (wanted : Wanted). wanted.1) (flat_map (wanted_of c.args.now) c.args.self.now.queries)) =
    c.in_ok-put_all_released.ensures
    ∙ ap (λ (rrs : List Rr). rrs ++ flat_map (released_of (last_in c.args.lasts.now.lasts) c.args.now c.args.self.now.queries) c.args.self.now.queries) c.new-released.ensures.items
    ∙ released_in_turn lets_go c.args.now c.args.self.now.queries in
    subst (λ (rrs : List Rr). IfOk c.in_order.result (λ sorted. sorted ≡ ordered record_cmp rrs)) items c.in_order.ensures
