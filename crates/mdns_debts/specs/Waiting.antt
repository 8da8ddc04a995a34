-- When a tick sends nothing for what queries are owed.
use Rattle.std.specs.Prelude.{◌≡◌, ℕ, nat_lt, Bool, true, ◌&&◌, List, Option}
use Rattle.std.specs.List.{list_all, flat_map}
use Rattle.dns_record.specs.declared.record.Rr.{Rr}
use Rattle.dns_record.specs.Records.{same}
use Rattle.mdns_history.specs.declared.entry.Entry.{Entry}
use Rattle.mdns_history.specs.Debts.{last_multicast}
use Rattle.mdns_history.specs.Due.{is_nothing}
use Rattle.mdns_debts.specs.Queries.{Query, replies_at}
use Rattle.mdns_debts.specs.Releasing.{released_by}
use Rattle.mdns_debts.specs.Following.{moment_of}

-- whether all that a query is owed has to wait at a moment
abbrev pub waits : (Rr → Option ℕ) → ℕ → Query → Bool
waits lasts moment query = list_all (λ owed. nat_lt moment (moment_of lasts query owed)) query.owed

-- A tick sends nothing for what queries are owed exactly where all of it has to wait, where the last multicasts are those of records that are the same.
abbrev pub IsWaiting : Type 0
IsWaiting = (lasts : Rr → Option ℕ) → ((left right : Rr) → same left right ≡ true → lasts left ≡ lasts right) → (queries : List Query) (moment : ℕ) →
    (is_nothing (released_by lasts moment queries) && is_nothing (flat_map (replies_at moment) queries)) ≡ list_all (waits lasts moment) queries

-- The last multicasts of a history are such.
abbrev pub AreOfSame : Type 0
AreOfSame = (history : List Entry) (left right : Rr) → same left right ≡ true → last_multicast left history ≡ last_multicast right history
