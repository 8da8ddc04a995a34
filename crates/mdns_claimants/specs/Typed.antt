-- Records whose data are as the types of the code allow, and unique records whose types stand in a bitmap; and groups that have such records.
use Rattle.std.specs.Prelude.{◌≡◌, Bool, true, false, List, ◌++◌, Option, Some, None}
use Rattle.std.specs.List.{list_all}
use Rattle.dns_record.specs.declared.record.Rdata.{Rdata}
use Rattle.dns_record.specs.declared.record.Rdata.TheVariants.{Raw}
use Rattle.dns_record.specs.declared.record.Rr.{Rr}
use Rattle.dns_message.specs.Writing.{is_spellable_data}
use Rattle.sd_service.specs.Bitmaps.{have_bitmap}
use Rattle.mdns_probe.specs.declared.claim.Claim.{Claim}
use Rattle.mdns_probe.specs.Kept.{Kept}
use Rattle.mdns_claimants.specs.declared.renewal.Renewal.{Renewal}

-- records whose data are as their types allow
abbrev pub have_data : List Rr → Bool
have_data rrs = list_all (λ rr. is_spellable_data rr.rdata) rrs

-- the records of a claim
abbrev pub records_of : Claim → List Rr
records_of claim = claim.unique ++ claim.shared

-- the records of each group have such data
abbrev pub HaveData : List Kept → Type 0
HaveData kept = list_all (λ one. have_data (records_of one.claim)) kept ≡ true

-- the records of a renewal, if there is one
abbrev pub is_typed : Option Renewal → Bool
is_typed None = true
is_typed (Some renewal) = have_data (records_of renewal.claim)

-- the unique records of each group have types that stand in a bitmap (RFC 4034 4.1.2)
abbrev pub HaveBitmaps : List Kept → Type 0
HaveBitmaps kept = list_all (λ one. have_bitmap one.claim.unique) kept ≡ true

-- those of a renewal, if there is one
abbrev pub is_mapped : Option Renewal → Bool
is_mapped None = true
is_mapped (Some renewal) = have_bitmap renewal.claim.unique

-- data with a variant of its own
abbrev pub is_plain : Rdata → Bool
is_plain (Raw kind bytes) = false
is_plain _ = true

abbrev pub are_plain : List Rr → Bool
are_plain rrs = list_all (λ rr. is_plain rr.rdata) rrs
