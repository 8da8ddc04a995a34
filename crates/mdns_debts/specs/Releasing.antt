-- Which records go to all, told of the queries that are owed something and of the last multicasts. (RFC 6762 6)
use Rattle.std.specs.Prelude.{ℕ, ◌+◌, nat_le, max, Bool, ◌&&◌, ◌||◌, List, [], map, filter, Option, Some, None, if◌then◌else◌}
use Rattle.std.specs.List.{list_any, flat_map}
use Rattle.lists.specs.Lists.{ordered}
use Rattle.dns_record.specs.declared.record.Rr.{Rr}
use Rattle.dns_record.specs.Records.{same, record_cmp}
use Rattle.mdns_history.specs.Debts.{is_long_ago}
use Rattle.mdns_history.specs.Multicasts.{multicast_gap, defence_gap}
use Rattle.mdns_debts.specs.Queries.{Query, is_to_all, gap_of}

-- what a query is owed by a multicast, with the query
abbrev pub Wanted : Type 0
Wanted = Query × Rr

-- what a query that is due wants to all
abbrev pub wanted_of : ℕ → Query → List Wanted
wanted_of moment query = if nat_le query.due moment then map (λ owed. (query, owed.0)) (filter is_to_all query.owed) else []

-- whether the last multicast lets a record go: a second has passed, or a quarter where a query that is due asks for it with authority records (6)
abbrev pub is_let_go : (Rr → Option ℕ) → ℕ → List Wanted → Rr → Bool
is_let_go lasts moment due rr =
    is_long_ago multicast_gap moment (lasts rr) || (list_any (λ wanted. (wanted.0).probing && same wanted.1 rr) due && is_long_ago defence_gap moment (lasts rr))

-- the records that a tick releases, in record order
unfoldable pub released_by : (Rr → Option ℕ) → ℕ → List Query → List Rr
released_by lasts moment queries = let due = flat_map (wanted_of moment) queries in
    ordered record_cmp (filter (is_let_go lasts moment due) (map (λ wanted. wanted.1) due))

-- from when on a query's record may go to all, behind its last multicast
abbrev pub ready_at : Query → Option ℕ → ℕ
ready_at query None = query.due
ready_at query (Some last) = max query.due (last + gap_of query)
