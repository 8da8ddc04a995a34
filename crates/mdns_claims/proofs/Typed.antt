-- Records whose data are as their types allow: of groups behind a deed.
use Rattle.std.proofs.Common.{Bool, List, ◌++◌, refl}
use Rattle.dns_record.specs.declared.record.Rr.{Rr}
use Rattle.mdns_probe.specs.Kept.{Kept}
use Rattle.mdns_claimants.specs.Named.{with_renewals}
use Rattle.mdns_claimants.specs.Typed.{have_data, HaveData, is_typed}
use Rattle.mdns_claims.specs.declared.plan.Deed.{Deed}
use Rattle.mdns_claims.specs.declared.plan.Deed.TheVariants.{Nothing, Ticks, Begins, Ends, Changes}
use Rattle.mdns_claims.specs.Planned.{Means, kept_by, BringsData}
use Rattle.mdns_claims.proofs.Brought.{ticked_passes, begun_passes, going_passes, renewed_passes}
pub use Rattle.mdns_claimants.proofs.Typed.{own_data}

-- what a deed makes of groups: each has records that it had, or that the deed brings
abbrev have_records : List Rr → List Rr → Bool
have_records unique shared = have_data (unique ++ shared)

pub behind_data : (means : Means) (kept : List Kept) (deed : Deed) → BringsData deed → HaveData kept → HaveData (kept_by means kept deed)
behind_data means kept Nothing brings h = h
behind_data means kept Ticks brings h = ticked_passes have_records means kept h
behind_data means kept (Begins one) brings h = begun_passes have_records kept one h brings
behind_data means kept Ends brings h = going_passes have_records means kept h
behind_data means kept (Changes renewals) brings h =
    going_passes have_records means (with_renewals renewals.items kept) (renewed_passes have_records is_typed (λ new. refl) renewals.items kept brings h)
