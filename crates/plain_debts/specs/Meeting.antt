-- Whether an entry meets a debt, told by the records of the response that it heard, and leaves it open, told by its query too.
use Rattle.std.specs.Prelude.{nat_le, Bool, not, ◌&&◌, ◌||◌, List, Option, if◌then◌else◌}
use Rattle.std.specs.List.{list_any}
use Rattle.mdns_base.specs.declared.host.Dest.TheVariants.{All}
use Rattle.mdns_base.specs.Hosts.{dest_eq}
use Rattle.dns_record.specs.declared.record.Rr.{Rr}
use Rattle.dns_record.specs.Records.{same}
use Rattle.mdns_history.specs.declared.entry.Entry.{Entry}
use Rattle.mdns_history.specs.History.{is_tick}
use Rattle.mdns_history.specs.Hearings.{Heard}
use Rattle.mdns_history.specs.Debts.{Debt, is_multicast, multicasts_in, strikes}

-- whether another's record has the data of one's own and no less TTL
abbrev pub covers : Rr → Rr → Bool
covers own other = same own other && nat_le own.ttl other.ttl

-- whether an entry that heard these records meets a debt
abbrev pub met_by : List Rr → Debt → Entry → Bool
met_by counted debt entry =
    if dest_eq debt.to All then is_multicast debt.rr (multicasts_in entry) || list_any (covers debt.rr) counted
    else is_tick entry.event && nat_le debt.due entry.moment

-- whether an entry that heard this query or these records leaves a debt open
abbrev pub left_open : Option Heard → List Rr → Entry → Debt → Bool
left_open query counted entry debt = not (strikes debt query) && not (met_by counted debt entry)
