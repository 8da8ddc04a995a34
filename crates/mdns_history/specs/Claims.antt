-- What a packet does to the claims of groups: clashes and lost ties. (RFC 6762 8.1, 8.2 and 9)
use Rattle.std.specs.Prelude.{ℕ, ◌+◌, ◌==◌, nat_lt, Bool, not, ◌&&◌, ◌||◌, List, [], ◌∷◌, map, length, filter, Option, Some, None, if◌then◌else◌}
use Rattle.std.specs.List.{cons_option}
use Rattle.mdns_base.specs.Hosts.{mdns_port}
use Rattle.dns_record.specs.Conflicts.{clashes, loses_tie}
use Rattle.mdns_history.specs.declared.mark.Mark.{Mark}
use Rattle.mdns_history.specs.declared.mark.Mark.TheVariants as mark
use Rattle.mdns_history.specs.declared.entry.Entry.{Entry}
use Rattle.mdns_history.specs.Hearings.{Heard, counted_records}
use Rattle.mdns_history.specs.Groups.{Group, groups, group_name, numbered_name, number_of, free_number, unique_records}
use Rattle.mdns_history.specs.Sureness.{is_sure, probe_moments}

-- whether a group was probed since it was set back
unfoldable pub was_probed : Group → List Entry → Bool
was_probed group history = nat_lt 0 (length (probe_moments group history))

-- the greatest number of a name
abbrev pub greatest_number : ℕ
greatest_number = 999999

-- the mark of a group that has to give up its name, beside groups of these names
abbrev pub giving_up : Group → List Entry → List (List (List ℕ)) → Mark
giving_up group history others = let number = free_number (number_of group history + 1) others group in
    if group.norename || nat_lt greatest_number number then mark.Failed group.id else mark.Renamed group.id number

-- the mark that a packet gives to a group, beside groups of these names
abbrev pub claim_mark : Heard → List Entry → Group → List (List (List ℕ)) → Option Mark
claim_mark heard history group others =
    let name = group_name group history in
    let unique = unique_records group history in
    let clashed = clashes name unique (counted_records (Some heard)) in
    let tied = not heard.message.response && (heard.from.port == mdns_port) && loses_tie name unique heard.message.authority in
    if is_sure group history then (if clashed then Some (mark.Contested group.id) else None)
    else if not (was_probed group history) then None
    else if clashed then Some (giving_up group history others)
    else if tied then Some (mark.TieLost group.id) else None

-- a group's number and the name that it holds
pub record Holding : Type 0 where
  pub id : ℕ
  pub name : List (List ℕ)

-- a group with the name that it holds
abbrev pub holding_of : List Entry → Group → Holding
holding_of history group = record { id = group.id; name = group_name group history }

-- the names that all groups but one hold
abbrev pub held_by_others : ℕ → List Holding → List (List (List ℕ))
held_by_others id holdings = map (λ holding. holding.name) (filter (λ holding. not (holding.id == id)) holdings)

-- the names after a group's mark: a renamed group holds its new name alone, a failed one none
abbrev pub holdings_after : Group → Option Mark → List Holding → List Holding
holdings_after group (Some (mark.Renamed id number)) holdings =
    map (λ holding. if holding.id == id then record { id = id; name = numbered_name group number } else holding) holdings
holdings_after group (Some (mark.Failed id)) holdings = filter (λ holding. not (holding.id == id)) holdings
holdings_after group _ holdings = holdings

-- the marks of groups in turn, each beside the names that the ones before it left
abbrev pub marks_in_turn : Heard → List Entry → List Group → List Holding → List Mark
marks_in_turn heard history [] holdings = []
marks_in_turn heard history (group ∷ rest) holdings =
    let verdict = claim_mark heard history group (held_by_others group.id holdings) in
    cons_option verdict (marks_in_turn heard history rest (holdings_after group verdict holdings))

-- the marks that a packet gives to the groups of a history, by rising number
unfoldable pub claim_marks : Option Heard → List Entry → List Mark
claim_marks None history = []
claim_marks (Some heard) history = let all = groups history in marks_in_turn heard history all (map (holding_of history) all)
