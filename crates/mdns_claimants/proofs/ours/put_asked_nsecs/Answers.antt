use Rattle.std.proofs.Common.{◌≤◌, List, length, subst, arith}
use Rattle.std.proofs.lemmas.List.{take_all}
use Rattle.mdns_asked.specs.Asked.{IsPut}
use Rattle.mdns_asked.proofs.Asking.{none_put}
use Rattle.mdns_probe.specs.Kept.{Kept}
use Rattle.mdns_claimants.specs.Owned.{nsecs_in}
use Rattle.mdns_claimants.proofs.Asked.{nsec_put}
use Rattle.mdns_claimants.proofs.ours.put_asked_nsecs.Goals as goal

pub loop-one-init : goal.loop-one-init
loop-one-init c = none_put c.args.asked.now

pub loop-one-preserved : goal.loop-one-preserved
loop-one-preserved c =
    nsec_put c.args.groups.now c.loop-one.one-index c.one-item.result c.args.asked.now c.loop-one.asked c.put_asked_nsec.new.asked c.loop-one-test.true c.one-item.is c.loop-one.invariant c.in_ok-put_asked_nsec.ensures

pub returns : goal.returns
returns c =
    let long : length c.args.groups.now ≤ c.loop-one.one-index = omega arith in
    subst (λ (kept : List Kept). IsPut (nsecs_in kept) c.args.asked.now c.loop-one.asked) (take_all c.loop-one.one-index c.args.groups.now long) c.loop-one.invariant
