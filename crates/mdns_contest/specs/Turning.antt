-- What a packet does to the claims of groups, one by one. (RFC 6762 8.1, 8.2 and 9)
use Rattle.std.specs.Prelude.{ℕ, ◌==◌, nat_lt, Bool, not, ◌&&◌, List, Option, Some, None, if◌then◌else◌}
use Rattle.std.specs.List.{list_any}
use Rattle.std.specs.Option.{is_some}
use Rattle.mdns_base.specs.Hosts.{mdns_port}
use Rattle.dns_record.specs.Conflicts.{clashes, loses_tie}
use Rattle.mdns_history.specs.declared.mark.Mark.{Mark}
use Rattle.mdns_history.specs.declared.mark.Mark.TheVariants as mark
use Rattle.mdns_history.specs.Hearings.{Heard, counted_records}
use Rattle.mdns_history.specs.Claims.{Holding}
use Rattle.mdns_happened.specs.declared.happened.Heard as told
use Rattle.mdns_probe.specs.Kept.{Kept, name_of, giving_up_for}
use Rattle.mdns_contest.specs.declared.disturb.Disturbance.{Disturbance}
use Rattle.mdns_contest.specs.declared.disturb.Disturbance.TheVariants.{Contested, GivenUp, Tied}

-- what was said, as histories have it
abbrev pub said : told.Heard → Heard
said heard = record { from = heard.from.now; message = heard.message }

-- whether a message clashes with the claim of a group
abbrev pub is_clash : Heard → Kept → Bool
is_clash heard one = clashes (name_of one) one.claim.unique (counted_records (Some heard))

-- whether a group loses a tie to a message
abbrev pub is_tie : Heard → Kept → Bool
is_tie heard one = not heard.message.response && (heard.from.port == mdns_port) && loses_tie (name_of one) one.claim.unique heard.message.authority

-- what a message does to the claim of a group
abbrev pub disturbance : Heard → Kept → Option Disturbance
disturbance heard one =
    if one.claim.sure then (if is_clash heard one then Some Contested else None)
    else if not (nat_lt 0 one.claim.probes) then None
    else if is_clash heard one then Some GivenUp
    else if is_tie heard one then Some Tied else None

-- the mark of a disturbance of a group, beside groups of these names
abbrev pub mark_of : Kept → List (List (List ℕ)) → Disturbance → Mark
mark_of one others Contested = mark.Contested one.group.id
mark_of one others GivenUp = giving_up_for one others
mark_of one others Tied = mark.TieLost one.group.id

-- whether a message disturbs the claim of one of several groups
abbrev pub disturbs_any : Heard → List Kept → Bool
disturbs_any heard kept = list_any (λ one. is_some (disturbance heard one)) kept

-- a group with the name that it holds, and with another if it is that of a number
abbrev pub renamed_to : ℕ → List (List ℕ) → Holding → Holding
renamed_to id name holding = if holding.id == id then record { id = id; name = name } else holding
