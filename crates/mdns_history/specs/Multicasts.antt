-- Which records a tick multicasts for its debts. (RFC 6762 6)
use Rattle.std.specs.Prelude.{ℕ, nat_le, Bool, not, ◌&&◌, ◌||◌, List, map, filter}
use Rattle.std.specs.List.{list_any}
use Rattle.mdns_base.specs.declared.host.Dest.TheVariants.{All}
use Rattle.mdns_base.specs.Hosts.{dest_eq}
use Rattle.lists.specs.Lists.{ordered}
use Rattle.dns_record.specs.declared.record.Rr.{Rr}
use Rattle.dns_record.specs.Records.{same, record_cmp}
use Rattle.mdns_history.specs.declared.entry.Entry.{Entry}
use Rattle.mdns_history.specs.Debts.{Debt, standing_debts, last_multicast, is_long_ago}

-- the debts to all that are due at a moment
unfoldable pub due_multicasts : List Entry → ℕ → List Debt
due_multicasts history moment = filter (λ debt. dest_eq debt.to All && nat_le debt.due moment) (standing_debts history)

-- the debts to askers that are due at a moment
unfoldable pub due_unicasts : List Entry → ℕ → List Debt
due_unicasts history moment = filter (λ debt. not (dest_eq debt.to All) && nat_le debt.due moment) (standing_debts history)

-- the least time between two multicasts of a record
abbrev pub multicast_gap : ℕ
multicast_gap = 1000

-- the least time between two multicasts of a record that a probe asks for
abbrev pub defence_gap : ℕ
defence_gap = 250

-- whether the time since the last multicast lets a record go: a second, or a quarter where a probe asks for it
abbrev pub may_go : List Entry → ℕ → List Debt → Rr → Bool
may_go history moment due rr =
    is_long_ago multicast_gap moment (last_multicast rr history)
    || (list_any (λ debt. debt.probing && same debt.rr rr) due && is_long_ago defence_gap moment (last_multicast rr history))

-- the records that a tick releases, in record order
unfoldable pub released_records : List Entry → ℕ → List Rr
released_records history moment = let due = due_multicasts history moment in
    ordered record_cmp (filter (may_go history moment due) (map (λ debt. debt.rr) due))
