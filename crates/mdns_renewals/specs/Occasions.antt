-- An event as groups see it, and what it makes of each: whether it ends, is renewed, or stays; and the group that begins. (RFC 6762 8 and 9)
use Rattle.std.specs.Prelude.{ℕ, ◌+◌, ◌%◌, ◌==◌, Bool, not, ◌&&◌, ◌||◌, List, [], ◌∷◌, map, slice_get, Option, Some, None, if◌then◌else◌}
use Rattle.std.specs.List.{list_any, filter_map}
use Rattle.std.specs.Option.{option_and_then, unwrap_or, is_some}
use Rattle.dns_record.specs.declared.record.Rdata.{Rdata}
use Rattle.dns_record.specs.declared.record.Rdata.TheVariants.{Txt}
use Rattle.dns_record.specs.declared.record.Rr.{Rr}
use Rattle.sd_call.specs.declared.request.Request.{Request}
use Rattle.sd_call.specs.declared.request.Request.TheVariants as request
use Rattle.mdns_history.specs.declared.config.Config.{Config}
use Rattle.mdns_history.specs.declared.mark.Mark.{Mark}
use Rattle.mdns_history.specs.Sessions.{Accepted, is_number, stops, txt_of}
use Rattle.mdns_history.specs.Groups.{Group, Registration, registration_from, numbered_name, number_in_mark, is_failure_of, group_of}
use Rattle.mdns_history.specs.Sureness.{is_setback_of}
use Rattle.mdns_history.specs.Probing.{is_lost_tie_of}
use Rattle.mdns_happened.specs.Told.{Told}
use Rattle.mdns_probe.specs.declared.claim.Claim.{Claim}
use Rattle.mdns_probe.specs.Claiming.{begun, replaced}
use Rattle.mdns_probe.specs.Kept.{Kept, name_of}
use Rattle.mdns_probe.specs.Naming.{unique_named, shared_named}
use Rattle.mdns_claimants.specs.declared.renewal.Renewal.{Renewal}

-- An event as groups see it: when it comes, what is told of it, the marks that it gives to claims, the daemon's configuration, the host's name behind the
-- event, whether conflicts were ever stormy by then, and whether the daemon announces what it claims.
pub record Occasion : Type 0 where
  pub moment : ℕ
  pub word : ℕ
  pub told : Told
  pub marks : List Mark
  pub config : Config
  pub host : List (List ℕ)
  pub stormy : Bool
  pub announces : Bool

-- the number that marks give to a group
abbrev pub renaming_in : ℕ → List Mark → Option ℕ
renaming_in id marks = slice_get (filter_map (number_in_mark id) marks) 0

-- the number of a group behind marks
abbrev pub number_after : ℕ → List Mark → ℕ → ℕ
number_after id marks number = unwrap_or (renaming_in id marks) number

-- how long the first probe of a group waits behind an event that sets it back: five seconds in a storm, one after a lost tie, else up to a quarter
abbrev pub wait_told : Occasion → ℕ → ℕ
wait_told at id = if at.stormy then 5000 else if list_any (is_lost_tie_of id) at.marks then 1000 else at.word % 251

-- a group ends with its operation, or with its mark Failed
abbrev pub ends_by : Told → List Mark → Group → Bool
ends_by told marks group = (is_number group.session told.detached || stops group.session group.op told.call) || list_any (is_failure_of group.id) marks

abbrev pub ends : Occasion → Group → Bool
ends at group = ends_by at.told at.marks group

-- the TXT data of an update
abbrev pub updated_txt : Request → Option (List ℕ)
updated_txt (request.Update txt) = Some txt
updated_txt _ = None

-- the TXT data that an accepted call gives to a group
abbrev pub txt_given : Option Accepted → Group → Option (List ℕ)
txt_given None group = None
txt_given (Some call) group = if (call.session == group.session) && (call.op == group.op) then updated_txt call.request else None

-- the TXT data of a record, and else other data
abbrev pub txt_or : Rdata → List ℕ → List ℕ
txt_or (Txt bytes) others = bytes
txt_or _ others = others

-- the TXT data among records
abbrev pub txt_in : List Rr → List ℕ
txt_in [] = []
txt_in (rr ∷ rrs) = txt_or rr.rdata (txt_in rrs)

-- the TXT data of a group behind an event
abbrev pub txt_behind : Occasion → Kept → List ℕ
txt_behind at one = unwrap_or (txt_given at.told.call one.group) (txt_in one.claim.unique)

-- An event touches a group that it sets back or updates, and each service where it renames the host.
abbrev pub is_touched : Occasion → Kept → Bool
is_touched at one =
    list_any (is_setback_of one.group.id) at.marks || is_some (txt_given at.told.call one.group) || (not (one.group.id == 0) && is_some (renaming_in 0 at.marks))

-- a claim that an event touches, with other records: it begins anew where the event sets it back
abbrev pub claim_told : Occasion → ℕ → List Rr → List Rr → Claim → Claim
claim_told at id unique shared claim =
    if list_any (is_setback_of id) at.marks then begun at.moment (wait_told at id) id unique shared else replaced at.moment unique shared claim

-- a group that is touched: with its number, and the records of its name; one that is set back begins anew
abbrev pub renewed : Occasion → Kept → Kept
renewed at one =
    let number = number_after one.group.id at.marks one.number in
    let name = numbered_name one.group number in
    let unique = unique_named at.config at.host one.group name (txt_behind at one) in
    let shared = shared_named one.group name in
    record {
      group = one.group;
      number = number;
      claim = claim_told at one.group.id unique shared one.claim;
    }

-- a group behind an event that isn't a tick, where it goes on
abbrev pub renewed_if : Occasion → Kept → Kept
renewed_if at one = if is_touched at one then renewed at one else one

-- the registration that an event accepts
abbrev pub registration_told : Option Accepted → Option Registration
registration_told call = option_and_then (λ call. registration_from call.session call.op call.request) call

-- the TXT data of a request that an event accepts
abbrev pub txt_asked : Option Accepted → List ℕ
txt_asked None = []
txt_asked (Some call) = txt_of call.request

-- the group of a registration, as it begins
abbrev pub begun_kept : ℕ → List Kept → Occasion → Registration → Kept
begun_kept registered kept at r =
    let group = group_of (registered + 1) (map name_of kept) r in
    let name = numbered_name group group.first in
    let unique = unique_named at.config at.host group name (txt_asked at.told.call) in
    let wait = wait_told at group.id in
    record { group = group; number = group.first; claim = begun at.moment wait group.id unique (shared_named group name) }

-- what an event that is no tick makes of a group, where it touches it and doesn't end it
abbrev pub renewal_told : Occasion → Kept → Option Renewal
renewal_told at one =
    let after = renewed at one in
    if ends at one.group then None else if is_touched at one then Some (record { number = after.number; claim = after.claim }) else None
