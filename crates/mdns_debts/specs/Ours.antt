-- What queries are owed is the daemon's to send.
use Rattle.std.specs.Prelude.{◌≡◌, ℕ, true, List, Option}
use Rattle.dns_record.specs.declared.record.Rr.{Rr}
use Rattle.mdns_history.specs.declared.entry.Entry.{Entry}
use Rattle.mdns_history.specs.Hearings.{Heard}
use Rattle.mdns_debts.specs.Following.{News, own_in, queries_in, queries_from, all_among}

-- All that the queries of a history are owed is the daemon's to send.
abbrev pub OwedIsOurs : Type 0
OwedIsOurs = (history : List Entry) → all_among (own_in history) (queries_in history) ≡ true

-- So is what a query is owed as it is heard.
abbrev pub ComeIsOurs : Type 0
ComeIsOurs = (history : List Entry) (lasts : Rr → Option ℕ) (news : News) (heard : Option Heard) → all_among (own_in history) (queries_from (own_in history) lasts news heard) ≡ true
