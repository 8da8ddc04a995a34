-- What an event makes of the groups that are kept, told of what happened and of the marks that it gives to claims. (RFC 6762 8 and 9)
use Rattle.std.specs.Prelude.{ℕ, zero, suc, ◌%◌, Bool, List, [], ◌++◌, Option, Some, None, if◌then◌else◌}
use Rattle.std.specs.List.{filter_map}
use Rattle.std.specs.Option.{option_map, option_to_list, unwrap_or, is_some}
use Rattle.lists.specs.Lists.{count_where}
use Rattle.mdns_history.specs.declared.config.Config.{Config}
use Rattle.mdns_history.specs.declared.config.HostConfig.{HostConfig}
use Rattle.mdns_history.specs.declared.mark.Mark.{Mark}
use Rattle.mdns_history.specs.declared.entry.Sent.{Sent}
use Rattle.mdns_history.specs.Groups.{host_group, numbered_name, address_records}
use Rattle.mdns_history.specs.Probing.{is_conflict}
use Rattle.mdns_happened.specs.Told.{Told}
use Rattle.mdns_conflict.specs.Storms as storms
use Rattle.mdns_probe.specs.Claiming.{begun}
use Rattle.mdns_probe.specs.Kept.{Kept, probes_for, disturbed_for}
use Rattle.mdns_claims.specs.State.{Contents}
pub use Rattle.mdns_claimants.specs.Due.{next_in, ticked_at}
pub use Rattle.mdns_renewals.specs.Occasions.{Occasion, renaming_in, number_after, wait_told, ends_by, ends, updated_txt, txt_given, txt_or, txt_in, txt_behind, is_touched, claim_told, renewed, renewed_if, registration_told, txt_asked, begun_kept}

-- the probes that are sent: once time has passed those of the groups that are due
abbrev pub probes_told : Bool → List Kept → ℕ → List Sent
probes_told ticks kept moment = if ticks then probes_for kept moment else []

-- the host's name under a number, and none where there is no host
abbrev pub host_named : Config → ℕ → List (List ℕ)
host_named config number = unwrap_or (option_map (λ host. numbered_name (host_group host) number) config.host) []

-- what is kept of conflicts after several more at a moment
abbrev pub noted_times : ℕ → ℕ → storms.Contents → storms.Contents
noted_times zero moment storm = storm
noted_times (suc n) moment storm = noted_times n moment (storms.noted moment storm)

-- what is kept of conflicts behind these marks: one for each mark of a conflict
abbrev pub storm_told : storms.Contents → ℕ → List Mark → storms.Contents
storm_told storm moment marks = noted_times (count_where is_conflict marks) moment storm

-- an event as groups see it, behind what is kept
abbrev pub occasion_of : Contents → Told → ℕ → ℕ → Occasion
occasion_of contents told moment word =
    let marks = disturbed_for told.heard contents.kept in
    record {
      moment = moment;
      word = word;
      told = told;
      marks = marks;
      config = contents.config;
      host = host_named contents.config (number_after 0 marks contents.number);
      stormy = (storm_told contents.storm moment marks).stormy;
      announces = contents.announces;
    }

-- a group behind a tick
abbrev pub ticked_on : Occasion → Kept → Kept
ticked_on at one = ticked_at at.moment at.announces one

-- a group behind an event, if it goes on
abbrev pub behind : Occasion → Kept → Option Kept
behind at one =
    if at.told.ticks then Some (ticked_on at one)
    else if ends at one.group then None else Some (renewed_if at one)

-- the host's group, as it begins at the boot
abbrev pub host_kept : ℕ → ℕ → Config → HostConfig → Kept
host_kept moment word config host =
    record {
      group = host_group host;
      number = 1;
      claim = begun moment (word % 251) 0 (address_records (numbered_name (host_group host) 1) config) [];
    }

-- the groups behind an event, where so many registrations were accepted before it
abbrev pub groups_told : ℕ → List Kept → Occasion → List Kept
groups_told registered kept at = filter_map (behind at) kept ++ option_to_list (option_map (begun_kept registered kept at) (registration_told at.told.call))

-- how many registrations were accepted behind an event
abbrev pub registered_told : ℕ → Occasion → ℕ
registered_told registered at = if is_some (registration_told at.told.call) then suc registered else registered

-- the groups behind an event, told of what is kept before it
abbrev pub kept_told : Contents → Occasion → List Kept
kept_told contents at = groups_told contents.registered contents.kept at

-- what is kept of claims behind an event
unfoldable pub contents_told : Contents → Occasion → Contents
contents_told contents at =
    record {
      config = contents.config;
      announces = contents.announces;
      number = number_after 0 at.marks contents.number;
      registered = registered_told contents.registered at;
      kept = kept_told contents at;
      storm = storm_told contents.storm at.moment at.marks;
    }
