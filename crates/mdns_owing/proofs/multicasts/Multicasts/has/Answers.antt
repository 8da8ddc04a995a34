use Rattle.std.proofs.Common.{◌∙◌, ap}
use Rattle.std.specs.Prelude.{filter, nat_lt}
use Rattle.std.specs.List.{list_any}
use Rattle.dns_record.specs.Records.{same}
use Rattle.mdns_history.specs.Debts.{is_multicast}
use Rattle.mdns_owing.proofs.Lasting.{any_filter, any_ordered}
use Rattle.mdns_owing.proofs.multicasts.Multicasts.has.Goals as goal

pub returns : goal.returns
returns c =
    c.has.ensures
    ∙ ap (list_any (same c.args.rr.now)) c.self.invariant.sorted
    ∙ any_ordered c.args.rr.now (filter (λ rr. nat_lt 0 rr.ttl) c.self.inside.all)
    ∙ any_filter (same c.args.rr.now) (λ rr. nat_lt 0 rr.ttl) c.self.inside.all
    ∙ ap (is_multicast c.args.rr.now) c.self.view_is
