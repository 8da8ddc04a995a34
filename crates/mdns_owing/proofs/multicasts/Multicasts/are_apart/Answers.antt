use Rattle.std.proofs.Common.{◌∙◌, ap, sym}
use Rattle.std.specs.Prelude.{filter, nat_lt}
use Rattle.dns_record.specs.Records.{same}
use Rattle.mdns_history.specs.Debts.{is_multicast}
use Rattle.mdns_owing.proofs.Lasting.{any_filter}
use Rattle.mdns_owing.proofs.Marked.{none_same}
use Rattle.mdns_owing.proofs.multicasts.Multicasts.are_apart.Goals as goal

pub returns : goal.returns
returns c = λ apart rr has.
    ap (is_multicast rr) (sym c.self.view_is)
    ∙ sym (any_filter (same rr) (λ one. nat_lt 0 one.ttl) c.self.inside.all)
    ∙ none_same c.args.marks.bits c.self.inside.marks.bits rr (filter (λ one. nat_lt 0 one.ttl) c.self.inside.all) (λ one has_it marked. c.are_apart.ensures apart one marked has_it) has c.self.invariant.marked
