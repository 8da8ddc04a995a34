use Rattle.std.proofs.Common.{◌∙◌, ◌++◌, ap, sym, subst, map}
use Rattle.std.specs.List.{list_all, IsDistinct}
use Rattle.std.proofs.lemmas.Result.{IfOk-weaker}
use Rattle.dns_name.specs.Names.{folded_eq}
use Rattle.mdns_cache.specs.Ended.{HasEnded, AreOfEnded}
use Rattle.mdns_records.specs.State.{State}
use Rattle.mdns_records.specs.After.{AreTouched, is_of_event}
use Rattle.mdns_records.proofs.Later.{touched_all}
use Rattle.mdns_records.proofs.Orders.{ended_among, heard_among, touched_only, touched_once}
use Rattle.mdns_records.proofs.records.Records.touched.Goals as goal

pub returns-clause-all : goal.returns-clause-all
returns-clause-all c =
    IfOk-weaker c.with_owners.result _ _
    (λ names is. subst (AreTouched c.args.now c.args.heard.now c.args.self.now.held) (sym is)
    (touched_all c.args.now c.args.heard.now c.args.self.now.held _
    (ended_among c.args.now c.args.self.now.held c.in_ok-ended.field-0.items c.args.heard.now
    (subst (λ (held : _). HasEnded held c.args.now c.in_ok-ended.field-0.items) (ap (λ (v : State). v.held) c.self.view_is) c.in_ok-ended.ensures.all))
    (heard_among c.in_ok-ended.field-0.items c.args.heard.now)))
    c.with_owners.ensures

pub returns-clause-only : goal.returns-clause-only
returns-clause-only c =
    IfOk-weaker c.with_owners.result _ _
    (λ names is. ap (list_all (is_of_event c.args.now c.args.heard.now c.args.self.now.held)) is
    ∙ touched_only c.args.now c.args.self.now.held c.in_ok-ended.field-0.items c.args.heard.now
    (subst (λ (held : _). AreOfEnded held c.args.now c.in_ok-ended.field-0.items) (ap (λ (v : State). v.held) c.self.view_is) c.in_ok-ended.ensures.only))
    c.with_owners.ensures

pub returns-clause-once : goal.returns-clause-once
returns-clause-once c =
    IfOk-weaker c.with_owners.result _ _ (λ names is. subst (IsDistinct folded_eq) (sym is) (touched_once (c.in_ok-ended.field-0.items ++ map (λ rr. rr.owner) c.args.heard.now))) c.with_owners.ensures
