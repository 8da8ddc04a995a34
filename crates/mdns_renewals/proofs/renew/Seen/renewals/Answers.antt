use Rattle.std.proofs.Common.{◌≡◌, ◌+◌, sym, subst, map, take, List, Option}
use Rattle.mdns_probe.specs.Kept.{Kept}
use Rattle.mdns_claimants.specs.declared.renewal.Renewal.{Renewal}
use Rattle.mdns_claimants.specs.Named.{with_renewal, IsNamed, AreNamed}
use Rattle.mdns_renewals.specs.Occasions.{renewal_told}
use Rattle.mdns_renewals.specs.Seen.{occasion_in}
use Rattle.mdns_renewals.proofs.Typed.{typed_push}
use Rattle.mdns_renewals.proofs.Mapped.{mapped_push}
use Rattle.mdns_claimants.proofs.Loops.{named_more, mapped_more}
use Rattle.mdns_renewals.proofs.renew.Seen.renewals.Goals as goal

pub loop-one-preserved : goal.loop-one-preserved
loop-one-preserved c =
    let told : Kept → Option Renewal = renewal_told (occasion_in c.args.self.now) in
    let value : c.push.new.self.items ≡ map told (take (c.loop-one.one-index + 1) c.args.groups.now) =
    mapped_more told c.args.groups.now c.loop-one.one-index c.one-item.result c.loop-one.renewals.items c.push.new.self.items c.in_ok-renewal.field-0
    c.loop-one-test.true c.one-item.is c.loop-one.invariant.value c.in_ok-renewal.ensures.value c.in_ok-push.ensures.items in
    let before : AreNamed (map told (take c.loop-one.one-index c.args.groups.now)) (take c.loop-one.one-index c.args.groups.now) =
    subst (λ (rs : List (Option Renewal)). AreNamed rs (take c.loop-one.one-index c.args.groups.now)) c.loop-one.invariant.value c.loop-one.invariant.named in
    let new : IsNamed (with_renewal (told c.one-item.result) c.one-item.result) =
    subst (λ (r : Option Renewal). IsNamed (with_renewal r c.one-item.result)) c.in_ok-renewal.ensures.value c.in_ok-renewal.ensures.named in
    record {
      value = value;
      named =
          subst (λ (rs : List (Option Renewal)). AreNamed rs (take (c.loop-one.one-index + 1) c.args.groups.now)) (sym value)
          (named_more told c.args.groups.now c.loop-one.one-index c.one-item.result c.loop-one-test.true c.one-item.is before new);
      typed = typed_push c.loop-one.renewals.items c.push.new.self.items c.in_ok-renewal.field-0 c.in_ok-push.ensures.items c.loop-one.invariant.typed c.in_ok-renewal.ensures.typed;
      mapped = mapped_push c.loop-one.renewals.items c.push.new.self.items c.in_ok-renewal.field-0 c.in_ok-push.ensures.items c.loop-one.invariant.mapped c.in_ok-renewal.ensures.mapped;
    }
