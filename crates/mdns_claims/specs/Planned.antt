-- What a plan says of an event, and what its deed makes of the groups that are kept. (RFC 6762 8 and 9)
use Rattle.std.specs.Prelude.{◌≡◌, ℕ, suc, ◌<◌, ◌^◌, Bool, true, false, not, List, [], ◌∷◌, ◌++◌, map, filter, Option, Some, None, is_some, ◌||◌}
use Rattle.std.specs.List.{list_all}
use Rattle.sd_service.specs.Bitmaps.{have_bitmap}
use Rattle.mdns_history.specs.declared.mark.Mark.{Mark}
use Rattle.mdns_history.specs.Sessions.{Accepted, is_stop}
use Rattle.mdns_happened.specs.Told.{Told}
use Rattle.mdns_probe.specs.Kept.{Kept}
use Rattle.mdns_claims.specs.declared.plan.Plan.{Plan}
use Rattle.mdns_claims.specs.declared.plan.Deed.{Deed}
use Rattle.mdns_claims.specs.declared.plan.Deed.TheVariants.{Nothing, Ticks, Begins, Ends, Changes}
use Rattle.mdns_claimants.specs.Named.{with_renewals, AreNamed}
use Rattle.mdns_claimants.specs.Typed.{have_data, records_of, is_typed, is_mapped}
use Rattle.mdns_claims.specs.State.{Contents}
pub use Rattle.mdns_renewals.specs.Wishes.{IsAcceptable}
pub use Rattle.mdns_renewals.specs.Occasions.{renewal_told}
use Rattle.mdns_renewals.specs.Occasions.{Occasion, updated_txt, number_after, ends_by}
use Rattle.mdns_claims.specs.Behind.{storm_told, groups_told, registered_told}
use Rattle.mdns_claimants.specs.Due.{ticked_at}

-- the groups that go on
abbrev pub going_on : Told → List Mark → List Kept → List Kept
going_on told marks kept = filter (λ one. not (ends_by told marks one.group)) kept

-- what a deed is done with: when, whether there are announcements, what is told of the event, and the marks that it gives to claims
pub record Means : Type 0 where
  pub moment : ℕ
  pub announces : Bool
  pub told : Told
  pub marks : List Mark

-- the means of an event
abbrev pub means_of : Occasion → Means
means_of at = record { moment = at.moment; announces = at.announces; told = at.told; marks = at.marks }

-- the groups behind a deed
abbrev pub kept_by : Means → List Kept → Deed → List Kept
kept_by means kept Nothing = kept
kept_by means kept Ticks = map (ticked_at means.moment means.announces) kept
kept_by means kept (Begins one) = kept ++ one ∷ []
kept_by means kept Ends = going_on means.told means.marks kept
kept_by means kept (Changes renewals) = going_on means.told means.marks (with_renewals renewals.items kept)

-- whether an accepted call is an update
abbrev pub is_update : Option Accepted → Bool
is_update None = false
is_update (Some call) = is_some (updated_txt call.request)

-- whether an accepted call is a stop
abbrev pub is_stopping : Option Accepted → Bool
is_stopping None = false
is_stopping (Some call) = is_stop call.request

-- whether operations end with an event
abbrev pub ends_some : Told → Bool
ends_some told = is_some told.detached || is_stopping told.call

-- how many registrations were accepted behind a deed
abbrev pub counted_by : ℕ → Deed → ℕ
counted_by registered (Begins one) = suc registered
counted_by registered _ = registered

-- for how many more groups a deed wants room
abbrev pub room_of : Deed → ℕ
room_of (Begins one) = 1
room_of _ = 0

-- a deed is for these groups
abbrev pub FitsGroups : List Kept → Deed → Type 0
FitsGroups kept (Changes renewals) = AreNamed renewals.items kept
FitsGroups kept _ = Unit {0}

-- the records that a deed brings have data as their types allow
abbrev pub BringsData : Deed → Type 0
BringsData (Begins one) = have_data (records_of one.claim) ≡ true
BringsData (Changes renewals) = list_all is_typed renewals.items ≡ true
BringsData _ = Unit {0}

-- the unique records among them have types that stand in a bitmap
abbrev pub BringsBitmaps : Deed → Type 0
BringsBitmaps (Begins one) = have_bitmap one.claim.unique ≡ true
BringsBitmaps (Changes renewals) = list_all is_mapped renewals.items ≡ true
BringsBitmaps _ = Unit {0}

-- and for so many registrations that were accepted
pub record IsFor (registered : ℕ) (kept : List Kept) (deed : Deed) : Type 0 where
  pub groups : FitsGroups kept deed
  pub brought : BringsData deed
  pub mapped : BringsBitmaps deed
  pub count : room_of deed ≡ 1 → registered < 2 ^ 63

-- a deed does what an event does
pub record IsDone (at : Occasion) (registered : ℕ) (kept : List Kept) (deed : Deed) : Type 0 where
  pub groups : kept_by (means_of at) kept deed ≡ groups_told registered kept at
  pub count : counted_by registered deed ≡ registered_told registered at

-- A plan is of an event behind what is kept: the marks of claims, and what is then kept.
pub record IsPlan (contents : Contents) (at : Occasion) (plan : Plan) : Type 0 where
  pub marks : plan.marks ≡ at.marks
  pub number : plan.number ≡ number_after 0 at.marks contents.number
  pub storm : plan.storm ≡ storm_told contents.storm at.moment at.marks
  pub deed : IsDone at contents.registered contents.kept plan.deed
