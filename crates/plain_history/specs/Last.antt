-- Which hearing of a record is its last renewal, and which entries and records aren't later than a moment.
use Rattle.std.specs.Prelude.{ℕ, nat_lt, nat_le, Bool, not, ◌&&◌, List}
use Rattle.std.specs.List.{list_any, list_all}
use Rattle.mdns_history.specs.declared.entry.Entry.{Entry}
use Rattle.mdns_history.specs.declared.held.Held.{Held}
use Rattle.mdns_history.specs.Hearings.{Hearing}
use Rattle.mdns_history.specs.Lifetimes.{renews}

-- A hearing is the last renewal of its record where it has a TTL above 0 and none of the later ones renews the record.
abbrev pub is_last_renewal : List Hearing → Hearing → Bool
is_last_renewal later hearing = nat_lt 0 hearing.rr.ttl && not (list_any (renews hearing.rr) later)

-- no entry is later than a moment
abbrev pub are_by : ℕ → List Entry → Bool
are_by moment history = list_all (λ entry. nat_le entry.moment moment) history

-- no record was renewed later than a moment
abbrev pub are_held_by : ℕ → List Held → Bool
are_held_by moment held = list_all (λ one. nat_le one.heard moment) held
