use Rattle.std.proofs.Common.{◌∙◌, ℕ, map, arith}
use Rattle.mdns_probe.specs.Kept.{Kept, announced_for}
use Rattle.mdns_claimants.proofs.Passing.{put_more, put_all}
use Rattle.mdns_responding.proofs.Due.{marks_due}
use Rattle.mdns_responding.proofs.responder.Responder.put_announced.Goals as goal

pub loop-place-preserved : goal.loop-place-preserved
loop-place-preserved c =
    let found = c.in-Some.ensures.some in
    let moment : ℕ = c.args.self.now.behind.now.means.moment in
    let one : Kept = c.index-groups-place.result in
    record {
      within = omega (arith, c.in-Some.ensures.within);
      put = put_more (λ kept. announced_for (map (λ one. one.claim) kept) moment) moment (marks_due moment) c.args.self.now.behind.now.groups.now c.loop-place.from c.in-Some.place one c.loop-place.marks c.put_mark.new.marks
          found.behind c.in-Some.ensures.within found.first c.index-groups-place.is c.in_ok-put_mark.ensures
          ∙ c.loop-place.invariant.put;
    }

pub returns : goal.returns
returns c =
    let moment : ℕ = c.args.self.now.behind.now.means.moment in
    put_all (λ kept. announced_for (map (λ one. one.claim) kept) moment) moment (marks_due moment) c.args.self.now.behind.now.groups.now c.loop-place.from c.loop-place.marks c.loop-place.invariant.within c.in_default.ensures.none
    ∙ c.loop-place.invariant.put
