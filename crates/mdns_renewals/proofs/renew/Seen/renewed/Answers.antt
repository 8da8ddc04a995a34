use Rattle.std.proofs.Common.{◌≡◌, ◌∙◌, ap}
use Rattle.mdns_history.specs.Groups.{Group, numbered_name}
use Rattle.mdns_probe.specs.Naming.{unique_named, shared_named}
use Rattle.mdns_renewals.specs.Occasions.{number_after, txt_behind, claim_told}
use Rattle.mdns_renewals.specs.Seen.{occasion_in}
use Rattle.mdns_claimants.specs.Typed.{are_plain}
use Rattle.mdns_renewals.proofs.Named.{is_named}
use Rattle.mdns_renewals.proofs.Typed.{unique_plain, shared_plain}
use Rattle.mdns_renewals.proofs.Mapped.{unique_mapped}
use Rattle.sd_service.specs.Bitmaps.{have_bitmap}
use Rattle.mdns_renewals.proofs.renew.Seen.renewed.Goals as goal

pub returns-clause-value : goal.returns-clause-value
returns-clause-value c =
    let group : c.naming-naming.result.now ≡ c.args.one.now.group = c.naming-naming.ensures.naming in
    let number : c.number_after-number.result ≡ number_after c.args.one.now.group.id c.args.self.now.marks.now c.args.one.now.number =
    c.number_after-number.ensures ∙ (λ i. number_after ((c.id.ensures ∙ ap (λ (g : Group). g.id) group) i) c.args.self.now.marks.now (c.number.ensures i)) in
    let name : c.name_under-name.result ≡ numbered_name c.args.one.now.group (number_after c.args.one.now.group.id c.args.self.now.marks.now c.args.one.now.number) =
    c.name_under-name.ensures ∙ (λ i. numbered_name (group i) (number i)) in
    let unique : c.in_ok-unique.unique ≡ unique_named c.args.self.now.config.now c.args.self.now.host c.args.one.now.group
    (numbered_name c.args.one.now.group (number_after c.args.one.now.group.id c.args.self.now.marks.now c.args.one.now.number)) (txt_behind (occasion_in c.args.self.now) c.args.one.now) =
    c.in_ok-unique.ensures ∙ (λ i. unique_named c.args.self.now.config.now c.args.self.now.host (group i) (name i) (c.in_ok-txt_behind.ensures i)) in
    let shared : c.in_ok-shared.shared ≡ shared_named c.args.one.now.group (numbered_name c.args.one.now.group (number_after c.args.one.now.group.id c.args.self.now.marks.now c.args.one.now.number)) =
    c.in_ok-shared.ensures ∙ (λ i. shared_named (group i) (name i)) in
    (number, c.claim_with-claim.ensures.value ∙ (λ i. claim_told (occasion_in c.args.self.now) c.args.one.now.group.id (unique i) (shared i) c.args.one.now.claim))

pub returns-clause-named : goal.returns-clause-named
returns-clause-named c =
    let group : c.naming-naming.result.now ≡ c.args.one.now.group = c.naming-naming.ensures.naming in
    is_named (record { group = c.args.one.now.group; number = c.number_after-number.result; claim = c.claim_with-claim.result })
    c.args.self.now.config.now c.args.self.now.host c.name_under-name.result c.in_ok-txt_behind.field-0
    (c.claim_with-claim.ensures.unique ∙ c.in_ok-unique.ensures ∙ ap (λ (g : Group). unique_named c.args.self.now.config.now c.args.self.now.host g c.name_under-name.result c.in_ok-txt_behind.field-0) group)
    (c.name_under-name.ensures ∙ ap (λ (g : Group). numbered_name g c.number_after-number.result) group)

pub look_at-requires : goal.look_at-requires
look_at-requires c =
    ap are_plain (c.as_slice.ensures ∙ c.in_ok-unique.ensures)
    ∙ unique_plain c.args.self.now.config.now c.args.self.now.host c.naming-naming.result.now c.name_under-name.result c.in_ok-txt_behind.field-0

pub look_at-requires-2 : goal.look_at-requires-2
look_at-requires-2 c = ap are_plain (c.as_slice-2.ensures ∙ c.in_ok-shared.ensures) ∙ shared_plain c.naming-naming.result.now c.name_under-name.result

pub returns-clause-mapped : goal.returns-clause-mapped
returns-clause-mapped c =
    ap have_bitmap (c.claim_with-claim.ensures.unique ∙ c.in_ok-unique.ensures)
    ∙ unique_mapped c.args.self.now.config.now c.args.self.now.host c.naming-naming.result.now c.name_under-name.result c.in_ok-txt_behind.field-0
