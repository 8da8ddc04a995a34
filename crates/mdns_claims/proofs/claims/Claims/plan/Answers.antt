use Rattle.std.proofs.Common.{◌≡◌, ◌∙◌, ap}
use Rattle.mdns_conflict.specs.Storms as storms
use Rattle.mdns_happened.specs.Told.{told_by}
use Rattle.mdns_probe.specs.Kept.{disturbed_for}
use Rattle.mdns_claims.specs.State.{State}
use Rattle.mdns_renewals.specs.Occasions.{Occasion, number_after}
use Rattle.mdns_claims.specs.Behind.{occasion_of, host_named, storm_told}
use Rattle.mdns_claims.proofs.Carried.{done_as}
use Rattle.mdns_claims.proofs.claims.Claims.plan.Goals as goal

pub returns-clause-plan : goal.returns-clause-plan
returns-clause-plan c =
    let at : Occasion = occasion_of c.args.self.now.contents (told_by c.args.happened.now) c.args.when.moment c.args.when.word in
    let config : c.self.inside.config ≡ c.args.self.now.contents.config = ap (λ (s : State). s.contents.config) c.self.view_is in
    let announces : c.self.inside.announces ≡ c.args.self.now.contents.announces = ap (λ (s : State). s.contents.announces) c.self.view_is in
    let old : c.self.inside.number ≡ c.args.self.now.contents.number = ap (λ (s : State). s.contents.number) c.self.view_is in
    let registered : c.self.inside.registered ≡ c.args.self.now.contents.registered = ap (λ (s : State). s.contents.registered) c.self.view_is in
    let kept : c.self.inside.groups.kept ≡ c.args.self.now.contents.kept = ap (λ (s : State). s.contents.kept) c.self.view_is in
    let conflicts : c.self.inside.storm ≡ c.args.self.now.contents.storm = ap (λ (s : State). s.contents.storm) c.self.view_is in
    let marks : c.in_ok-marks.marks ≡ at.marks = c.in_ok-marks.ensures ∙ ap (disturbed_for (told_by c.args.happened.now).heard) (c.as_slice.ensures ∙ kept) in
    let number : c.number_after-number.result ≡ number_after 0 at.marks c.args.self.now.contents.number =
    c.number_after-number.ensures ∙ (λ i. number_after 0 ((c.as_slice-2.ensures ∙ marks) i) (old i)) in
    let storm : c.storm_after-storm.result ≡ storm_told c.args.self.now.contents.storm c.args.when.moment at.marks =
    c.storm_after-storm.ensures ∙ (λ i. storm_told (conflicts i) (c.at.ensures i) ((c.as_slice-3.ensures ∙ marks) i)) in
    let host : c.host_under.result ≡ at.host = c.host_under.ensures ∙ (λ i. host_named (config i) (number i)) in
    let stormy : c.stormy.result ≡ at.stormy = c.stormy.ensures ∙ ap (λ (s : storms.Contents). s.stormy) storm in
    record {
      marks = marks;
      number = number;
      storm = storm;
      deed =
          done_as c.in_ok-deed.ensures.done at c.args.self.now.contents.registered c.args.self.now.contents.kept
          (λ i. record {
            moment = c.args.when.moment;
            word = c.args.when.word;
            told = told_by c.args.happened.now;
            marks = (c.as_slice-4.ensures ∙ marks) i;
            config = config i;
            host = host i;
            stormy = stormy i;
            announces = announces i;
          })
          registered (c.as_slice-5.ensures ∙ kept);
    }
