-- What is held after an event, and which names' records an event changes. (RFC 6762 10, 10.1 and 10.2)
use Rattle.std.specs.Prelude.{◌≡◌, ℕ, Bool, false, ◌||◌, List, map, filter}
use Rattle.std.specs.List.{list_any}
use Rattle.dns_name.specs.Names.{folded_eq}
use Rattle.dns_record.specs.declared.record.Rr.{Rr}
use Rattle.mdns_history.specs.declared.held.Held.{Held}
use Rattle.mdns_history.specs.Lifetimes.{is_live_at}
use Rattle.mdns_cache.specs.Ended.{is_among, is_of_ended}
use Rattle.mdns_cache.specs.Lifetimes.{hearing_at, after_hearings, held_of}

-- What is held after an event that brings these records, in one order: what has ended is gone, and they are heard.
abbrev pub held_after : ℕ → ℕ → List Rr → List Held → List Held
held_after moment word heard held = after_hearings (filter (is_live_at moment) held) (map (hearing_at moment word) heard)

-- a record is of a name, case aside
abbrev pub is_named : List (List ℕ) → Rr → Bool
is_named name rr = folded_eq rr.owner name

-- what those of some records do that are of a name
abbrev pub after_rest : ℕ → ℕ → List (List ℕ) → List Held → List Rr → List Held
after_rest moment word name held heard = after_hearings held (map (hearing_at moment word) (filter (is_named name) heard))

-- Names have all those whose records an event changes that brings these records: the records of any other name stay.
abbrev pub AreTouched : ℕ → List Rr → List Held → List (List (List ℕ)) → Type 0
AreTouched moment heard held names =
    (word : ℕ) (name : List (List ℕ)) → is_among names name ≡ false → held_of name (held_after moment word heard held) ≡ held_of name held

-- a name is the owner of a record that has ended, or of one that is heard, case aside
abbrev pub is_of_event : ℕ → List Rr → List Held → List (List ℕ) → Bool
is_of_event moment heard held name = is_of_ended held moment name || list_any (is_named name) heard
