use Rattle.std.proofs.Common.{◌≡◌, ◌≤◌, List, [], length, sym, subst, arith}
use Rattle.std.proofs.lemmas.List.{take_all}
use Rattle.dns_record.specs.declared.record.Rr.{Rr}
use Rattle.mdns_asked.specs.Asked.{IsPut}
use Rattle.mdns_asked.proofs.Asking.{none_put, put_more}
use Rattle.mdns_asked.proofs.asked.Asked.put_all.Goals as goal

pub loop-rr-init : goal.loop-rr-init
loop-rr-init c =
    let same : c.self.inside.lists.entries ≡ c.args.self.now = cc in
    subst (IsPut [] c.args.self.now) (sym same) (none_put c.args.self.now)

pub loop-rr-preserved : goal.loop-rr-preserved
loop-rr-preserved c =
    put_more c.args.rrs.now c.loop-rr.rr-index c.rr-item.result c.args.self.now c.loop-rr.self-inside.lists.entries c.put.new.lists.entries c.loop-rr-test.true c.rr-item.is c.loop-rr.invariant c.in_ok-put.ensures

pub returns : goal.returns
returns c =
    let long : length c.args.rrs.now ≤ c.loop-rr.rr-index = omega arith in
    subst (λ (rrs : List Rr). IsPut rrs c.args.self.now c.loop-rr.self-inside.lists.entries) (take_all c.loop-rr.rr-index c.args.rrs.now long) c.loop-rr.invariant
