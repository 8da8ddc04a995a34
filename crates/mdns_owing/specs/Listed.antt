-- Which records listed answers silence, told by the greatest TTL with which each is listed. (RFC 6762 7.1)
use Rattle.std.specs.Prelude.{◌≡◌, ℕ, ◌*◌, nat_le, Bool, false, List, Option, Some, None}
use Rattle.std.specs.Map.{lookup}
use Rattle.dns_record.specs.declared.record.Rr.{Rr}
use Rattle.dns_record.specs.Records.{same}
use Rattle.mdns_history.specs.Debts.{is_struck}

-- a record and the greatest TTL with which it is listed
abbrev pub Listing : Type 0
Listing = Rr × ℕ

-- whether a record is silenced where it is listed with this TTL at most, or isn't listed
abbrev pub silenced_by : Rr → Option ℕ → Bool
silenced_by own None = false
silenced_by own (Some ttl) = nat_le own.ttl (2 * ttl)

-- whether listings silence a record
abbrev pub is_silenced : List Listing → Rr → Bool
is_silenced listings own = silenced_by own (lookup (same own) listings)

-- Listings silence the records that answers silence.
abbrev pub AreOf : List Rr → List Listing → Type 0
AreOf answers listings = (own : Rr) → is_silenced listings own ≡ is_struck answers own
