use Rattle.std.proofs.Common.{◌∙◌, List, get_or, ap, arith}
use Rattle.mdns_probe.specs.Kept.{Kept, probes_for}
use Rattle.mdns_claimants.proofs.Passing.{put_more, put_all}
use Rattle.mdns_claimants.proofs.Probing.{probes_due}
use Rattle.mdns_claimants.proofs.probes.due_probes.Goals as goal

pub loop-place-preserved : goal.loop-place-preserved
loop-place-preserved c =
    let found = c.in-Some.ensures.some in
    let one : Kept = c.index-as_slice-place.result in
    record {
      within = omega (arith, c.in-Some.ensures.within);
      put = put_more (λ kept. probes_for kept c.args.now) c.args.now (probes_due c.args.now) c.args.groups.now.kept c.loop-place.from c.in-Some.place one c.loop-place.sent c.put_probe.new.sent
          found.behind c.in-Some.ensures.within found.first
          (c.index-as_slice-place.is ∙ ap (λ (l : List Kept). get_or l c.in-Some.place one) c.as_slice.ensures)
          c.in_ok-put_probe.ensures
          ∙ c.loop-place.invariant.put;
    }

pub returns : goal.returns
returns c =
    put_all (λ kept. probes_for kept c.args.now) c.args.now (probes_due c.args.now) c.args.groups.now.kept c.loop-place.from c.loop-place.sent c.loop-place.invariant.within c.in_default.ensures.none
    ∙ c.loop-place.invariant.put
