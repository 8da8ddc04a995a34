-- The last multicasts of records that are kept, and what nobody can tell from those of a history. (RFC 6762 5.4 and 6)
use Rattle.std.specs.Prelude.{◌≡◌, ◌⊎◌, ℕ, ◌+◌, ◌-◌, ◌≤◌, IfSome, nat_le, Bool, ◌&&◌, List, [], Option, Some, None, if◌then◌else◌}
use Rattle.std.specs.List.{flat_map}
use Rattle.std.specs.Map.{lookup}
use Rattle.mdns_base.specs.declared.host.Dest.TheVariants.{All}
use Rattle.mdns_base.specs.Hosts.{dest_eq}
use Rattle.dns_record.specs.declared.record.Rr.{Rr}
use Rattle.dns_record.specs.Records.{same}
use Rattle.mdns_history.specs.declared.entry.Entry.{Entry}
use Rattle.mdns_history.specs.declared.entry.Sent.{Sent}
use Rattle.mdns_history.specs.History.{now}
use Rattle.mdns_history.specs.Groups.{other_ttl}
use Rattle.mdns_history.specs.Debts.{sections, last_multicast, is_long_ago, is_recent}
use Rattle.mdns_history.specs.Multicasts.{multicast_gap}

-- a record and the moment of its last multicast
abbrev pub Last : Type 0
Last = Rr × ℕ

-- the moment of the last multicast that is kept of a record, if one is
abbrev pub last_of : Rr → List Last → Option ℕ
last_of rr lasts = lookup (same rr) lasts

-- What contracts see of the last multicasts: those that are kept, and for how many more there is room.
pub record State : Type 0 where
  pub lasts : List Last
  pub spare : ℕ

-- the records that a message multicasts, if it is a response to all
abbrev pub multicast_by : Sent → List Rr
multicast_by sent = if sent.message.response && dest_eq sent.to All then sections sent.message else []

-- the records that messages multicast in responses, in any section
abbrev pub multicasts_of : List Sent → List Rr
multicasts_of sent = flat_map multicast_by sent

-- the greatest TTL of own records
abbrev pub most_ttl : ℕ
most_ttl = other_ttl

-- for how long a last multicast is kept, in ms: a quarter of the greatest TTL
abbrev pub kept_time : ℕ
kept_time = 1125000

-- whether a last multicast is kept when what is old is forgotten
abbrev pub is_kept : ℕ → ℕ → Bool
is_kept moment last = nat_le (moment - last) kept_time

-- Nobody can tell the kept moment of a record from its actual one, at no moment from this one on: by the gaps between multicasts, and by
-- whether a quarter of the TTL has passed.
pub record IsKept (rr : Rr) (moment : ℕ) (kept actual : Option ℕ) : Type 0 where
  pub gaps : (gap later : ℕ) → gap ≤ multicast_gap → moment ≤ later → is_long_ago gap later kept ≡ is_long_ago gap later actual
  pub recent : (later : ℕ) → moment ≤ later → rr.ttl ≤ most_ttl → is_recent rr later kept ≡ is_recent rr later actual

-- The kept moments stand for a history: of no record they can be told from its last multicast.
unfoldable pub Stands : List Last → List Entry → Type 0
Stands lasts history = (rr : Rr) → IsKept rr (now history) (last_of rr lasts) (last_multicast rr history)

-- what is left of a moment when what is old is forgotten
abbrev pub if_kept : ℕ → Option ℕ → Option ℕ
if_kept moment None = None
if_kept moment (Some last) = if is_kept moment last then Some last else None

-- A last multicast was left as it was, or it was forgotten, if it was old.
abbrev pub IsLeft : ℕ → Option ℕ → Option ℕ → Type 0
IsLeft moment before after = (after ≡ before) ⊎ (after ≡ if_kept moment before)

-- the moment from which on a record is free behind its last multicast, where so much time has to pass
abbrev pub free_at : ℕ → Option ℕ → ℕ
free_at gap None = 0
free_at gap (Some last) = last + gap
