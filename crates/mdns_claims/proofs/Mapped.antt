-- Unique records whose types stand in a bitmap: of groups behind a deed.
use Rattle.std.proofs.Common.{Bool, List, refl}
use Rattle.dns_record.specs.declared.record.Rr.{Rr}
use Rattle.sd_service.specs.Bitmaps.{have_bitmap}
use Rattle.mdns_probe.specs.Kept.{Kept}
use Rattle.mdns_claimants.specs.Named.{with_renewals}
use Rattle.mdns_claimants.specs.Typed.{HaveBitmaps, is_mapped}
use Rattle.mdns_claims.specs.declared.plan.Deed.{Deed}
use Rattle.mdns_claims.specs.declared.plan.Deed.TheVariants.{Nothing, Ticks, Begins, Ends, Changes}
use Rattle.mdns_claims.specs.Planned.{Means, kept_by, BringsBitmaps}
use Rattle.mdns_claims.proofs.Brought.{ticked_passes, begun_passes, going_passes, renewed_passes}

abbrev have_types : List Rr → List Rr → Bool
have_types unique shared = have_bitmap unique

-- what a deed makes of groups: each has records that it had, or that the deed brings
pub behind_bitmaps : (means : Means) (kept : List Kept) (deed : Deed) → BringsBitmaps deed → HaveBitmaps kept → HaveBitmaps (kept_by means kept deed)
behind_bitmaps means kept Nothing brings h = h
behind_bitmaps means kept Ticks brings h = ticked_passes have_types means kept h
behind_bitmaps means kept (Begins one) brings h = begun_passes have_types kept one h brings
behind_bitmaps means kept Ends brings h = going_passes have_types means kept h
behind_bitmaps means kept (Changes renewals) brings h =
    going_passes have_types means (with_renewals renewals.items kept) (renewed_passes have_types is_mapped (λ new. refl) renewals.items kept brings h)
