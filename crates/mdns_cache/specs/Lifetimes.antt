-- What one more hearing does to held records, and which of several records are held. (RFC 6762 10, 10.1 and 10.2)
use Rattle.std.specs.Prelude.{◌≡◌, ℕ, ◌+◌, ◌<◌, ◌≤◌, nat_lt, nat_le, min, Bool, true, not, ◌&&◌, ◌∷◌, [], List, ◌++◌, map, filter, reverse, slice_index_or, Option, Some, None, if◌then◌else◌}
use Rattle.std.specs.List.{list_any, AllByRecursion}
use Rattle.std.specs.List.Sorted.{IsPermutation}
use Rattle.std.specs.Ordering.{nat_cmp, ordering_then, is_le, is_lt}
use Rattle.std.specs.declared.cmp.Ordering.{Ordering}
use Rattle.lists.specs.Lists.{least}
use Rattle.dns_name.specs.Names.{folded_eq}
use Rattle.dns_record.specs.declared.record.Rr.{Rr}
use Rattle.dns_record.specs.Records.{same, record_cmp}
use Rattle.mdns_history.specs.declared.held.Held.{Held}
use Rattle.mdns_history.specs.Hearings.{Hearing}
use Rattle.mdns_history.specs.Lifetimes.{cuts, full_end, is_live_at, is_other, live_of}

-- a record that is heard at a moment, with a word
abbrev pub hearing_at : ℕ → ℕ → Rr → Hearing
hearing_at moment word rr = record { rr = rr; moment = moment; word = word }

-- the hearings of the records of one packet, the last first
abbrev pub hearings_at : ℕ → ℕ → List Rr → List Hearing
hearings_at moment word rrs = reverse (map (hearing_at moment word) rrs)

-- What is held is exactly the live records of a list of hearings, each with the moment, word and end that it has there, in any order.
abbrev pub Holds : List Held → List Hearing → ℕ → Type 0
Holds held heard moment = IsPermutation held (live_of heard moment)

-- What is held stands for a list of hearings at a moment: apart from records that have ended by then, it is exactly the live ones.
abbrev pub Stands : List Held → List Hearing → ℕ → Type 0
Stands held heard moment = Holds (filter (is_live_at moment) held) heard moment

-- nothing that is held has ended
abbrev pub AllLive : ℕ → List Held → Type 0
AllLive moment held = AllByRecursion (λ (one : Held). moment < one.end) held

-- nothing that is held was heard later
abbrev pub AllHeard : ℕ → List Held → Type 0
AllHeard moment held = AllByRecursion (λ (one : Held). one.heard ≤ moment) held

-- the order in which records are taken out: by end, then by record
abbrev pub ending_cmp : Held → Held → Ordering
ending_cmp left right = ordering_then (nat_cmp left.end right.end) (record_cmp left.rr right.rr)

-- a record has ended, and of those that have ended none comes before it
pub record IsFirstEnded (moment : ℕ) (held : List Held) (one : Held) : Type 0 where
  pub ended : one.end ≤ moment
  pub first : AllByRecursion (λ (other : Held). other.end ≤ moment → is_le (ending_cmp one other) ≡ true) held

-- whether a record has ended, and comes before the one that is held at a place, if there is a place
abbrev pub comes_first : ℕ → List Held → Held → Option ℕ → Bool
comes_first moment held one None = nat_le one.end moment
comes_first moment held one (Some place) = nat_le one.end moment && is_lt (ending_cmp one (slice_index_or held place one))

-- a held record is of a name, case aside
abbrev pub is_of : List (List ℕ) → Held → Bool
is_of name one = folded_eq one.rr.owner name

-- the held records of a name
abbrev pub held_of : List (List ℕ) → List Held → List Held
held_of name held = filter (is_of name) held

-- the least of the ends, if anything is held
abbrev pub next_end_of : List Held → Option ℕ
next_end_of held = least (map (λ (one : Held). one.end) held)

-- a record that was just heard with a TTL above 0, as it is held
abbrev pub renewed : Hearing → Held
renewed hearing = record { rr = hearing.rr; heard = hearing.moment; word = hearing.word; end = full_end hearing }

-- a held record whose life a hearing may cut to a second
abbrev pub shortened : Hearing → Held → Held
shortened hearing one =
    record { rr = one.rr; heard = one.heard; word = one.word; end = if cuts one.rr one.heard hearing then min (hearing.moment + 1000) one.end else one.end }

-- what is held after one more hearing
abbrev pub after_hearing : List Held → Hearing → List Held
after_hearing held hearing =
    if nat_lt 0 hearing.rr.ttl then map (shortened hearing) (filter (is_other hearing.rr) held) ++ renewed hearing ∷ []
    else map (shortened hearing) held

-- what is held after several, the first heard first
abbrev pub after_hearings : List Held → List Hearing → List Held
after_hearings held [] = held
after_hearings held (hearing ∷ heard) = after_hearings (after_hearing held hearing) heard

-- one of several records is the same and has a TTL above 0
abbrev pub is_renewed_by : Rr → List Rr → Bool
is_renewed_by rr heard = list_any (λ (one : Rr). same rr one && nat_lt 0 one.ttl) heard

-- how many different records are heard with a TTL above 0
abbrev pub count_renewed : List Rr → ℕ
count_renewed [] = 0
count_renewed (rr ∷ heard) = (if nat_lt 0 rr.ttl && not (is_renewed_by rr heard) then 1 else 0) + count_renewed heard
