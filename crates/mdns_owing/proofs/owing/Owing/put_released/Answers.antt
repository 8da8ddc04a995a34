use Rattle.std.proofs.Common.{◌∙◌, ◌++◌, List, map, ap, sym}
use Rattle.std.specs.Prelude.{filter}
use Rattle.std.specs.List.{flat_map}
use Rattle.dns_record.specs.declared.record.Rr.{Rr}
use Rattle.mdns_history.specs.Debts.{Owed}
use Rattle.mdns_debts.specs.Queries.{is_to_all}
use Rattle.mdns_debts.specs.Releasing.{is_let_go, wanted_of}
use Rattle.mdns_owing.specs.Owing.{last_in}
use Rattle.mdns_owing.proofs.Probed.{wanted_when_due}
use Rattle.mdns_owing.proofs.owing.Owing.put_released.Goals as goal

pub returns-in_ok-put_let_go : goal.returns-in_ok-put_let_go
returns-in_ok-put_let_go c =
    let lets_go = is_let_go (last_in c.args.lasts.now.lasts) c.args.now (flat_map (wanted_of c.args.now) c.args.self.now.queries) in
    c.in_ok-put_let_go.ensures
    ∙ ap (λ (owed : List Owed). c.args.released.now.items ++ filter lets_go (map (λ (one : Owed). one.0) (filter is_to_all owed))) c.owed.ensures
    ∙ ap (λ (rrs : List Rr). c.args.released.now.items ++ filter lets_go rrs) (sym (wanted_when_due c.args.now c.args.query.now (sym c.is_due.ensures ∙ c.if-is_due.true)))
