use Rattle.std.proofs.Common.{◌∙◌, ℕ, Bool, arith}
use Rattle.std.specs.Prelude.{filter}
use Rattle.dns_record.specs.declared.record.Rr.{Rr}
use Rattle.mdns_probe.specs.Kept.{Kept}
use Rattle.mdns_claimants.proofs.Passing.{put_more, put_all}
use Rattle.mdns_responding.specs.Announced.{announced_in, records_in}
use Rattle.mdns_responding.specs.Told.{is_free_by}
use Rattle.mdns_responding.proofs.Due.{records_due}
use Rattle.mdns_responding.proofs.responder.Responder.put_announced_records.Goals as goal

pub loop-place-preserved : goal.loop-place-preserved
loop-place-preserved c =
    let found = c.in-Some.ensures.some in
    let moment : ℕ = c.args.self.now.behind.now.means.moment in
    let one : Kept = c.index-groups-place.result in
    let free : Rr → Bool = is_free_by c.args.self.now.lasts.now.lasts moment in
    record {
      within = omega (arith, c.in-Some.ensures.within);
      put = put_more (λ kept. filter free (records_in (announced_in moment kept))) moment (records_due free moment) c.args.self.now.behind.now.groups.now c.loop-place.from c.in-Some.place one c.loop-place.answers.items c.put_records.new.answers.items
          found.behind c.in-Some.ensures.within found.first c.index-groups-place.is c.in_ok-put_records.ensures
          ∙ c.loop-place.invariant.put;
    }

pub returns : goal.returns
returns c =
    let moment : ℕ = c.args.self.now.behind.now.means.moment in
    let free : Rr → Bool = is_free_by c.args.self.now.lasts.now.lasts moment in
    put_all (λ kept. filter free (records_in (announced_in moment kept))) moment (records_due free moment) c.args.self.now.behind.now.groups.now c.loop-place.from c.loop-place.answers.items c.loop-place.invariant.within c.in_default.ensures.none
    ∙ c.loop-place.invariant.put
