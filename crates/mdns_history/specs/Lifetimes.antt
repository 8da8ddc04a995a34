-- How long a heard record lives, over the list of hearings with the last first. (RFC 6762 10, 10.1 and 10.2)
use Rattle.std.specs.Prelude.{ℕ, ◌+◌, ◌*◌, ◌==◌, nat_lt, Bool, not, ◌&&◌, ◌||◌, List, ◌∷◌, map, length, filter, Option}
use Rattle.std.specs.List.{find}
use Rattle.std.specs.Option.{option_map}
use Rattle.lists.specs.Lists.{until, least_of, each_once}
use Rattle.dns_name.specs.Names.{folded_eq}
use Rattle.dns_record.specs.declared.record.Rr.{Rr}
use Rattle.dns_record.specs.Records.{same, kind_of}
use Rattle.mdns_history.specs.declared.entry.Entry.{Entry}
use Rattle.mdns_history.specs.declared.held.Held.{Held}
use Rattle.mdns_history.specs.Hearings.{Hearing, hearings}

-- a hearing of the record with a TTL above 0
abbrev pub renews : Rr → Hearing → Bool
renews rr hearing = same rr hearing.rr && nat_lt 0 hearing.rr.ttl

-- a hearing of the record with TTL 0, a goodbye
abbrev pub takes_back : Rr → Hearing → Bool
takes_back rr hearing = same rr hearing.rr && (hearing.rr.ttl == 0)

-- a hearing with the flush bit, of the record's owner and type
abbrev pub flushes : Rr → Hearing → Bool
flushes rr hearing = hearing.rr.flush && folded_eq rr.owner hearing.rr.owner && (kind_of rr.rdata == kind_of hearing.rr.rdata)

-- whether a hearing ends, a second later at the latest, the life that a record got by its renewal at this moment: a goodbye does, and a flush that is heard more than
-- a second after the renewal
abbrev pub cuts : Rr → ℕ → Hearing → Bool
cuts rr renewed hearing = takes_back rr hearing || (flushes rr hearing && nat_lt (renewed + 1000) hearing.moment)

-- the last renewal, and the hearings after it
abbrev pub last_renewal : Rr → List Hearing → Option Hearing
last_renewal rr heard = find (renews rr) heard

-- the hearings after the last renewal, the last first
abbrev pub after_renewal : Rr → List Hearing → List Hearing
after_renewal rr heard = until (renews rr) heard

-- the end that the TTL alone gives
abbrev pub full_end : Hearing → ℕ
full_end renewal = renewal.moment + 1000 * renewal.rr.ttl

-- the least of that end and of a second after each later hearing that cuts the life
abbrev pub end_from : Rr → List Hearing → Hearing → ℕ
end_from rr later renewal = least_of (full_end renewal) (map (λ hearing. hearing.moment + 1000) (filter (cuts rr renewal.moment) later))

-- The end of a record: none where it was never heard with a TTL above 0.
unfoldable pub record_end : Rr → List Hearing → Option ℕ
record_end rr heard = option_map (end_from rr (after_renewal rr heard)) (last_renewal rr heard)

-- a record as its last renewal spells it, with its end
abbrev pub held_from : List Hearing → Hearing → Held
held_from heard renewal = record { rr = renewal.rr; heard = renewal.moment; word = renewal.word; end = end_from renewal.rr (after_renewal renewal.rr heard) renewal }

-- the last renewal of each record
abbrev pub renewals : List Hearing → List Hearing
renewals heard = each_once (λ later earlier. same earlier.rr later.rr) (filter (λ hearing. nat_lt 0 hearing.rr.ttl) heard)

-- Live is what hasn't ended: the moment is less than the end.
abbrev pub is_live_at : ℕ → Held → Bool
is_live_at moment held = nat_lt moment held.end

-- the records that are live at a moment, the last renewed first
unfoldable pub live_of : List Hearing → ℕ → List Held
live_of heard moment = filter (is_live_at moment) (map (held_from heard) (renewals heard))

-- the records that are live at a moment in a history
unfoldable pub live_records : List Entry → ℕ → List Held
live_records history moment = live_of (hearings history) moment

-- A record is uncut where its end is that of its TTL.
abbrev pub is_uncut : Held → Bool
is_uncut held = held.end == held.heard + 1000 * held.rr.ttl

-- a held record is another than this one
abbrev pub is_other : Rr → Held → Bool
is_other rr one = not (same one.rr rr)

-- the most records that may be live
abbrev pub room_for_records : ℕ
room_for_records = 32768

-- whether an entry would leave more live records than there is room for
unfoldable pub is_too_full : Entry → List Entry → Bool
is_too_full entry past = nat_lt room_for_records (length (live_records (entry ∷ past) entry.moment))
