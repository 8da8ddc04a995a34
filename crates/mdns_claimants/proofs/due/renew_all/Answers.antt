use Rattle.std.proofs.Common.{◌≡◌, ◌<◌, ◌∙◌, ◌≤◌, length, set, ap, refl, subst, sym, arith}
use Rattle.mdns_probe.specs.Kept.{Kept}
use Rattle.mdns_claimants.specs.Named.{AreNamed, IsNamed, with_renewal, with_renewals}
use Rattle.mdns_claimants.proofs.Loops.{last_named, last_leaves, named_within}
use Rattle.mdns_claimants.proofs.Places.{element, retimed, changed_length}
use Rattle.mdns_claimants.proofs.due.renew_all.Goals as goal

pub loop-renewal-init : goal.loop-renewal-init
loop-renewal-init c =
    let few : length c.args.renewals.items ≤ length c.args.groups.now = named_within c.args.renewals.items c.args.groups.now c.requires.named in
    record { done = refl; named = c.requires.named; within = omega (arith, c.args.renewals.ok.0, few); timed = c.requires.timed; spare = refl }

pub renew_at-requires-clause-named : goal.renew_at-requires-clause-named
renew_at-requires-clause-named c = λ one is.
    subst (λ (k : Kept). IsNamed (with_renewal c.in-Some.renewal k)) (sym is)
    (last_named c.loop-renewal.groups c.loop-renewal.renewals.items c.pop.new.self.items c.in-Some.renewal c.len-place.result one
    c.in-Some.ensures.items (omega (arith, c.pop.new.self.ok.0)) c.loop-renewal.invariant.named)

pub loop-renewal-preserved : goal.loop-renewal-preserved
loop-renewal-preserved c =
    let there : c.len-place.result < length c.loop-renewal.groups = omega (arith, c.in-Some.ensures.cases, c.len-place.ensures, c.loop-renewal.invariant.within) in
    let one = element c.loop-renewal.groups c.len-place.result there in
    let change : Kept → Kept = with_renewal c.in-Some.renewal in
    let changed : c.renew_at.new.groups ≡ set c.loop-renewal.groups c.len-place.result (change one.0) = c.renew_at.ensures one.0 one.1 in
    let left = last_leaves c.loop-renewal.groups c.loop-renewal.renewals.items c.pop.new.self.items c.in-Some.renewal c.len-place.result (change one.0) one.0
    c.in-Some.ensures.items (omega (arith, c.pop.new.self.ok.0)) c.loop-renewal.invariant.named (ap change one.1) in
    let same = changed_length change c.loop-renewal.groups c.renew_at.new.groups c.len-place.result there c.renew_at.ensures in
    record {
      done = ap (with_renewals c.pop.new.self.items) changed ∙ left.done ∙ c.loop-renewal.invariant.done;
      named = subst (AreNamed c.pop.new.self.items) (sym changed) left.named;
      within = omega (arith, same, c.in-Some.ensures.cases, c.loop-renewal.invariant.within);
      timed = retimed change c.loop-renewal.groups c.renew_at.new.groups c.loop-renewal.deadlines.moments c.set.new.self.moments c.len-place.result c.moment_of.result
          c.index-groups-place.result there c.loop-renewal.invariant.timed c.renew_at.ensures c.moment_of.ensures c.set.ensures.moments;
      spare = c.set.ensures.spare ∙ c.loop-renewal.invariant.spare;
    }
