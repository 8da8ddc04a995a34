use Rattle.std.proofs.Common.{◌≤◌, [], length, ap, sym, subst, arith}
use Rattle.std.specs.Option.{option_map_or}
use Rattle.mdns_asked.specs.Asked.{Contents, IsPut}
use Rattle.mdns_asked.proofs.Asking.{none_put}
use Rattle.mdns_claimants.specs.Owned.{claimed}
use Rattle.mdns_claims.specs.Later.{shown_all}
use Rattle.mdns_claims.specs.Seen.{means_in}
use Rattle.mdns_claims.proofs.Asked.{left_more, left_none}
use Rattle.mdns_claims.proofs.behind.Behind.put_later_asked.Goals as goal
use Rattle.mdns_claims.proofs.behind.Behind.put_later_asked.Goals.{in-Some+in_ok-put_claim, in_default}

pub loop-place-init : goal.loop-place-init
loop-place-init c = λ after put. put

pub loop-place-preserved : goal.loop-place-preserved
loop-place-preserved c =
    elim c.match-later.branch [
      | in-Some+in_ok-put_claim w ↦
          left_more (means_in c.args.self.now.means) c.args.self.now.deed.now c.args.self.now.groups.now c.loop-place.place c.index-groups-place.result c.args.asked.now c.loop-place.asked c.match-later.asked
          (claimed w.in-Some.later.sure w.in-Some.later.claim.now) c.loop-place-test.true c.index-groups-place.is (ap (λ o. option_map_or shown_all o []) w.in-Some.ensures)
          (subst (λ (after : Contents). IsPut (claimed w.in-Some.later.sure w.in-Some.later.claim.now) c.loop-place.asked after) (sym w.asked-is) w.in_ok-put_claim.ensures) c.loop-place.invariant
      | in_default w ↦
          left_more (means_in c.args.self.now.means) c.args.self.now.deed.now c.args.self.now.groups.now c.loop-place.place c.index-groups-place.result c.args.asked.now c.loop-place.asked c.match-later.asked
          [] c.loop-place-test.true c.index-groups-place.is (ap (λ o. option_map_or shown_all o []) w.in_default.ensures)
          (subst (λ (after : Contents). IsPut [] c.loop-place.asked after) (sym w.asked-is) (none_put c.loop-place.asked)) c.loop-place.invariant
    ]

pub returns : goal.returns
returns c =
    let past : length c.args.self.now.groups.now ≤ c.loop-place.place = omega arith in
    left_none (means_in c.args.self.now.means) c.args.self.now.deed.now c.args.self.now.groups.now c.loop-place.place c.args.asked.now c.loop-place.asked past c.loop-place.invariant
