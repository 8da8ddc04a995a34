-- What the known answers of a question depend on. (RFC 6762 7.1)
use Rattle.std.specs.Prelude.{◌≡◌, ℕ, true, List}
use Rattle.std.specs.List.{flat_map}
use Rattle.std.specs.List.Sorted.{IsPermutation}
use Rattle.lists.specs.Lists.{ordered}
use Rattle.dns_record.specs.declared.record.Key.{Key}
use Rattle.dns_record.specs.Records.{record_cmp}
use Rattle.mdns_history.specs.declared.held.Held.{Held}
use Rattle.mdns_history.specs.declared.entry.Entry.{Entry}
use Rattle.mdns_history.specs.Lifetimes.{live_records}
use Rattle.mdns_history.specs.Asking.{known_answers}
use Rattle.mdns_known.specs.Known.{known_of, all_known_of, stand_once}

-- The known answers of a history are those over its live records, in whatever order these stand.
abbrev pub IsOfLiveRecords : Type 0
IsOfLiveRecords =
    (question : Key) (history : List Entry) (moment : ℕ) (held : List Held) → IsPermutation held (live_records history moment)
    → known_of question held moment ≡ known_answers question history moment

-- So are those of several questions, which a query lists.
abbrev pub AreOfLiveRecords : Type 0
AreOfLiveRecords =
    (questions : List Key) (history : List Entry) (moment : ℕ) (held : List Held) → IsPermutation held (live_records history moment)
    → all_known_of questions held moment ≡ ordered record_cmp (flat_map (λ question. known_answers question history moment) questions)

-- Held records of which no two are the same give the same known answers in any order.
abbrev pub IsOrderFree : Type 0
IsOrderFree = (question : Key) (moment : ℕ) (one other : List Held) → stand_once one ≡ true → IsPermutation one other → known_of question one moment ≡ known_of question other moment
