use Rattle.std.proofs.Common.{◌≡◌, ◌∙◌, ap, refl, subst, sym}
use Rattle.mdns_happened.specs.Told.{told_by}
use Rattle.mdns_claims.specs.State.{State}
use Rattle.mdns_claims.specs.Behind.{occasion_of}
use Rattle.mdns_claims.specs.Planned.{Means, kept_by, counted_by}
use Rattle.mdns_claimants.specs.Typed.{HaveData, HaveBitmaps}
use Rattle.mdns_claims.proofs.Typed.{behind_data}
use Rattle.mdns_claims.proofs.Mapped.{behind_bitmaps}
use Rattle.mdns_claims.proofs.Carried.{carried}
use Rattle.mdns_claims.proofs.claims.Claims.apply.Goals as goal

pub returns-clause-contents : goal.returns-clause-contents
returns-clause-contents c = λ word is.
    let announces : c.self.inside.announces ≡ c.args.self.now.contents.announces = ap (λ (s : State). s.contents.announces) c.self.view_is in
    let means : Means = record { moment = c.at.result; announces = c.self.inside.announces; told = told_by c.args.happened.now; marks = c.as_slice.result.now } in
    carried c.args.self.now.contents (occasion_of c.args.self.now.contents (told_by c.args.happened.now) c.args.when.moment word) c.args.plan is
    (record {
      config = c.self.inside.config;
      announces = c.self.inside.announces;
      number = c.args.plan.number;
      registered = c.count_after-self-inside.result;
      kept = c.carry_out.new.groups.kept;
      storm = c.args.plan.storm;
    })
    (ap (λ (s : State). s.contents.config) c.self.view_is) announces refl
    (c.count_after-self-inside.ensures ∙ ap (λ (s : State). counted_by s.contents.registered c.args.plan.deed) c.self.view_is)
    means (λ i. record { moment = c.at.ensures i; announces = announces i; told = told_by c.args.happened.now; marks = (c.as_slice.ensures ∙ is.marks) i })
    (c.carry_out.ensures ∙ ap (λ (s : State). kept_by means s.contents.kept c.args.plan.deed) c.self.view_is)
    refl

pub invariant_of-self : goal.invariant_of-self
invariant_of-self c =
    let means : Means = record { moment = c.at.result; announces = c.self.inside.announces; told = told_by c.args.happened.now; marks = c.as_slice.result.now } in (
      subst HaveData (sym c.carry_out.ensures) (behind_data means c.self.inside.groups.kept c.args.plan.deed c.requires.fits.brought c.self.invariant.0),
      subst HaveBitmaps (sym c.carry_out.ensures) (behind_bitmaps means c.self.inside.groups.kept c.args.plan.deed c.requires.fits.mapped c.self.invariant.1),
    )

pub returns-clause-data : goal.returns-clause-data
returns-clause-data c =
    let means : Means = record { moment = c.at.result; announces = c.self.inside.announces; told = told_by c.args.happened.now; marks = c.as_slice.result.now } in
    subst HaveData (sym c.carry_out.ensures) (behind_data means c.self.inside.groups.kept c.args.plan.deed c.requires.fits.brought c.self.invariant.0)
