use Rattle.std.proofs.Common.{◌≡◌, ◌∙◌, ap, sym}
use Rattle.std.specs.List.{list_any, flat_map}
use Rattle.mdns_history.specs.Debts.{is_long_ago}
use Rattle.mdns_history.specs.Multicasts.{multicast_gap, defence_gap}
use Rattle.mdns_debts.specs.Releasing.{wanted_of}
use Rattle.mdns_owing.specs.Owing.{State, last_in, is_probing_for}
use Rattle.mdns_owing.proofs.Probed.{is_probe_for, all_probed, told_by_probes}
use Rattle.mdns_owing.proofs.owing.Owing.lets_go.Goals as goal

pub returns-then-is_free_to_defend : goal.returns-then-is_free_to_defend
returns-then-is_free_to_defend c =
    let last = last_in c.args.lasts.now.lasts c.args.rr.now in
    let queries : c.deref.result.now ≡ c.args.self.now.queries = c.deref.ensures.value ∙ ap (λ (s : State). s.queries) c.self.view_is in
    c.is_probed.ensures
    ∙ ap (list_any (is_probing_for c.args.now c.args.rr.now)) queries
    ∙ all_probed c.args.now c.args.rr.now c.args.self.now.queries
    ∙ told_by_probes (is_long_ago multicast_gap c.args.now last) (list_any (is_probe_for c.args.rr.now) (flat_map (wanted_of c.args.now) c.args.self.now.queries)) (is_long_ago defence_gap c.args.now last)
    (sym c.is_free.ensures.kept ∙ c.if-is_free.false) (sym c.is_free_to_defend.ensures.kept ∙ c.if-is_free_to_defend.true)
