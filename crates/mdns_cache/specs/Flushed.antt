-- A flush that a later record of the same packet repeats is put off to that one. (RFC 6762 10.2)
use Rattle.std.specs.Prelude.{◌==◌, nat_lt, Bool, false, not, ◌&&◌, List, [], ◌∷◌, ◌++◌, map, filter, if◌then◌else◌}
use Rattle.std.specs.List.{list_any}
use Rattle.dns_name.specs.Names.{folded_eq}
use Rattle.dns_record.specs.declared.record.Rr.{Rr}
use Rattle.dns_record.specs.Records.{kind_of}
use Rattle.mdns_history.specs.declared.held.Held.{Held}
use Rattle.mdns_history.specs.Hearings.{Hearing}
use Rattle.mdns_history.specs.Lifetimes.{is_other}
use Rattle.mdns_cache.specs.Lifetimes.{hearing_at, shortened, renewed}

-- one of several records has the flush bit, and the owner and the type of this one
abbrev pub is_flushed_by : Rr → List Rr → Bool
is_flushed_by rr heard = list_any (λ (other : Rr). other.flush && (kind_of rr.rdata == kind_of other.rdata) && folded_eq rr.owner other.owner) heard

-- a record without its flush bit
abbrev pub without_flush : Rr → Rr
without_flush rr = record { owner = rr.owner; flush = false; ttl = rr.ttl; rdata = rr.rdata }

-- what a record cuts where these are heard behind it in its packet: its flush is put off if one of them flushes the same
abbrev pub put_off : List Rr → Rr → Rr
put_off later rr = if rr.flush && not (is_flushed_by rr later) then rr else without_flush rr

-- what is held after a hearing whose flush may be put off
abbrev pub after_put_off : List Rr → List Held → Hearing → List Held
after_put_off later held hearing =
    let cut = hearing_at hearing.moment hearing.word (put_off later hearing.rr) in
    if nat_lt 0 hearing.rr.ttl then map (shortened cut) (filter (is_other hearing.rr) held) ++ renewed hearing ∷ [] else map (shortened cut) held
