-- What a plan makes of the groups that are kept, one by one, and what is seen of it: names, records, and whether these are sure.
use Rattle.std.specs.Prelude.{◌≡◌, ℕ, ◌+◌, ◌<◌, ◌≤◌, length, Bool, true, false, ◌||◌, List, [], ◌∷◌, ◌++◌, Option, Some, None, is_some, slice_index_or, if◌then◌else◌}
use Rattle.std.specs.List.{cons_option}
use Rattle.dns_record.specs.declared.record.Rr.{Rr}
use Rattle.sd_call.specs.declared.answer.Answer.{Answer}
use Rattle.mdns_history.specs.Groups.{Group, numbered_name}
use Rattle.mdns_history.specs.Answers.{named_if}
use Rattle.mdns_probe.specs.Claiming.{is_settle_due}
use Rattle.mdns_probe.specs.Kept.{Kept}
use Rattle.mdns_claims.specs.declared.behind.Behind.{Behind}
use Rattle.mdns_claims.specs.declared.later.Later.{Later}
use Rattle.mdns_claims.specs.declared.plan.Deed.{Deed}
use Rattle.mdns_claims.specs.declared.plan.Deed.TheVariants.{Nothing, Ticks, Begins, Ends, Changes}
use Rattle.mdns_renewals.specs.Occasions.{ends_by}
use Rattle.mdns_claimants.specs.Due.{ticked_at}
use Rattle.mdns_claimants.specs.Named.{with_renewal}
use Rattle.mdns_claimants.specs.Owned.{of_name}
use Rattle.mdns_claims.specs.Planned.{Means, kept_by}
use Rattle.mdns_claims.specs.Seen.{means_in}

-- the groups behind a plan
abbrev pub groups_behind : Behind → List Kept
groups_behind behind = kept_by (means_in behind.means) behind.groups.now behind.deed.now

-- what is seen of a group: what it is called, the number of its name, whether it is sure, and its records
pub record Shown : Type 0 where
  pub group : Group
  pub number : ℕ
  pub sure : Bool
  pub unique : List Rr
  pub shared : List Rr

abbrev pub shown_of : Kept → Shown
shown_of one = record { group = one.group; number = one.number; sure = one.claim.sure; unique = one.claim.unique; shared = one.claim.shared }

abbrev pub shown_by : Later → Shown
shown_by later = record { group = later.naming.now; number = later.number; sure = later.sure; unique = later.claim.now.unique; shared = later.claim.now.shared }

-- the own records of a name that are seen
abbrev pub shown_own : List (List ℕ) → Shown → List Rr
shown_own name shown = if shown.sure then of_name name shown.unique ++ of_name name shown.shared else []

-- the records of a group that is seen, if it is sure
abbrev pub shown_all : Shown → List Rr
shown_all shown = if shown.sure then shown.unique ++ shown.shared else []

-- the answer of a registration that is seen
abbrev pub shown_answer : Shown → List Answer
shown_answer shown = named_if shown.sure (numbered_name shown.group shown.number)

-- what a deed makes of the group in a place, if that goes on
abbrev pub later_of : Means → Deed → ℕ → Kept → Option Kept
later_of means Nothing place one = Some one
later_of means Ticks place one = Some (ticked_at means.moment means.announces one)
later_of means (Begins new) place one = Some one
later_of means Ends place one = if ends_by means.told means.marks one.group then None else Some one
later_of means (Changes renewals) place one =
    if ends_by means.told means.marks one.group then None else Some (with_renewal (slice_index_or renewals.items place None) one)

-- what it makes of groups, the first of which is in a place
abbrev pub later_from : Means → Deed → ℕ → List Kept → List Kept
later_from means deed place [] = []
later_from means deed place (one ∷ kept) = cons_option (later_of means deed place one) (later_from means deed (place + 1) kept)

-- the group that a deed begins
abbrev pub begun_by : Deed → Option Kept
begun_by (Begins one) = Some one
begun_by _ = None

-- a deed leaves all groups as they are
abbrev pub is_still : Deed → Bool
is_still Nothing = true
is_still (Begins one) = true
is_still _ = false

-- A deed surely takes no record from those that are the daemon's to send: nothing is done, time passes, or a group begins.
abbrev pub takes_none : Deed → Bool
takes_none Nothing = true
takes_none Ticks = true
takes_none (Begins one) = true
takes_none _ = false

-- a deed changes the records, the name or the sureness of the group in a place, or ends it
abbrev pub touches : Means → Deed → ℕ → Kept → Bool
touches means Nothing place one = false
touches means Ticks place one = is_settle_due means.moment one.claim
touches means (Begins new) place one = false
touches means Ends place one = ends_by means.told means.marks one.group
touches means (Changes renewals) place one = ends_by means.told means.marks one.group || is_some (slice_index_or renewals.items place None)

-- a deed touches none of the groups from a place on up to another
abbrev pub TouchesNone : Means → Deed → List Kept → ℕ → ℕ → Type 0
TouchesNone means deed kept from end = (k : ℕ) (one : Kept) → from ≤ k → k < end → one ≡ slice_index_or kept k one → touches means deed k one ≡ false

-- a place from one on; the deed touches none of the groups between
pub record IsNextTouched (means : Means) (deed : Deed) (kept : List Kept) (from place : ℕ) : Type 0 where
  pub behind : from ≤ place
  pub within : place < length kept
  pub passed : TouchesNone means deed kept from place
