use Rattle.std.proofs.Common.{◌∙◌, List, map, ap}
use Rattle.std.specs.Prelude.{filter}
use Rattle.lists.specs.Lists.{ordered}
use Rattle.dns_record.specs.Records.{record_cmp}
use Rattle.mdns_history.specs.Debts.{Debt}
use Rattle.mdns_history.specs.Multicasts.{may_go, released_records}
use Rattle.plain_debts.proofs.due.released_records.Goals as goal

pub returns : goal.returns
unfolding released_records
returns c =
    c.in_ok-rrs.ensures
    ∙ ap (λ (l : List Debt). ordered record_cmp (filter (may_go c.args.history.now c.args.moment l) (map (λ (debt : Debt). debt.rr) l))) (c.deref.ensures.value ∙ c.in_ok-due.ensures)
