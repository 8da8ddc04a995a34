-- What is kept behind an event is what a plan of it makes of what is kept.
use Rattle.std.proofs.Common.{◌≡◌, ◌∙◌, ℕ, List, ap, subst}
use Rattle.mdns_claims.specs.State.{Contents}
use Rattle.mdns_renewals.specs.Occasions.{Occasion}
use Rattle.mdns_claims.specs.Behind.{contents_told}
use Rattle.mdns_probe.specs.Kept.{Kept}
use Rattle.mdns_claims.specs.declared.plan.Plan.{Plan}
use Rattle.mdns_claims.specs.declared.plan.Deed.{Deed}
use Rattle.mdns_claims.specs.Planned.{Means, means_of, kept_by, counted_by, IsDone, IsPlan}

pub carried : (contents : Contents) (at : Occasion) (plan : Plan) → IsPlan contents at plan → (after : Contents) → after.config ≡ contents.config → after.announces ≡ contents.announces → after.number ≡ plan.number →
    after.registered ≡ counted_by contents.registered plan.deed → (means : Means) → means ≡ means_of at → after.kept ≡ kept_by means contents.kept plan.deed → after.storm ≡ plan.storm → after ≡ contents_told contents at
unfolding contents_told
carried contents at plan is after config announces number registered means same kept storm = λ i. record {
  config = config i;
  announces = announces i;
  number = (number ∙ is.number) i;
  registered = (registered ∙ is.deed.count) i;
  kept = (kept ∙ ap (λ (m : Means). kept_by m contents.kept plan.deed) same ∙ is.deed.groups) i;
  storm = (storm ∙ is.storm) i;
}

-- what is done is done by whatever name
pub done_as : {at : Occasion} {registered : ℕ} {kept : List Kept} {deed : Deed} → IsDone at registered kept deed → (then : Occasion) (count : ℕ) (groups : List Kept) → at ≡ then → registered ≡ count → kept ≡ groups →
    IsDone then count groups deed
done_as {at} {registered} {kept} {deed} done then count groups same counted alike =
    subst (λ (o : Occasion). IsDone o count groups deed) same (subst (λ (n : ℕ). IsDone at n groups deed) counted (subst (λ (ks : List Kept). IsDone at registered ks deed) alike done))
