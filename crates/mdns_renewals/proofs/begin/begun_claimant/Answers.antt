use Rattle.std.proofs.Common.{◌∙◌, ap}
use Rattle.mdns_probe.specs.declared.claim.Claim.{Claim}
use Rattle.mdns_probe.specs.Kept.{Kept}
use Rattle.mdns_claimants.specs.Typed.{are_plain}
use Rattle.mdns_renewals.proofs.Named.{is_named}
use Rattle.mdns_renewals.proofs.Typed.{unique_plain, shared_plain}
use Rattle.mdns_renewals.proofs.Mapped.{unique_mapped}
use Rattle.sd_service.specs.Bitmaps.{have_bitmap}
use Rattle.mdns_renewals.proofs.begin.begun_claimant.Goals as goal

pub new-requires : goal.new-requires
new-requires c =
    is_named (record { group = c.args.naming; number = c.first-number.result; claim = c.begun-claim.result })
    c.args.published.now.config.now c.args.published.now.host.now c.name_under-name.result c.args.published.now.txt.now
    (ap (λ (k : Claim). k.unique) c.begun-claim.ensures ∙ c.in_ok-unique.ensures) c.name_under-name.ensures

pub look_at-requires : goal.look_at-requires
look_at-requires c =
    ap are_plain (c.as_slice.ensures ∙ c.in_ok-unique.ensures)
    ∙ unique_plain c.args.published.now.config.now c.args.published.now.host.now c.args.naming c.name_under-name.result c.args.published.now.txt.now

pub look_at-requires-2 : goal.look_at-requires-2
look_at-requires-2 c = ap are_plain (c.as_slice-2.ensures ∙ c.in_ok-shared.ensures) ∙ shared_plain c.args.naming c.name_under-name.result

pub returns-clause-mapped : goal.returns-clause-mapped
returns-clause-mapped c =
    ap (λ (one : Kept). have_bitmap one.claim.unique) c.new.ensures
    ∙ ap (λ (k : Claim). have_bitmap k.unique) c.begun-claim.ensures
    ∙ ap have_bitmap c.in_ok-unique.ensures
    ∙ unique_mapped c.args.published.now.config.now c.args.published.now.host.now c.args.naming c.name_under-name.result c.args.published.now.txt.now
