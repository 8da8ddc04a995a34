-- The debts of a history are those of the queries that are owed something, and what a tick sends for them is told of these queries.
use Rattle.std.specs.Prelude.{◌≡◌, ℕ, List, map}
use Rattle.std.specs.List.{flat_map}
use Rattle.mdns_history.specs.declared.entry.Entry.{Entry}
use Rattle.mdns_history.specs.Debts.{standing_debts, last_multicast}
use Rattle.mdns_history.specs.Multicasts.{released_records}
use Rattle.mdns_history.specs.Sending.{sent_unicasts}
use Rattle.mdns_debts.specs.Queries.{debts_at, owed_queries, replies_at}
use Rattle.mdns_debts.specs.Releasing.{released_by}

-- The debts that stand are those of the queries that are owed something, in their order.
abbrev pub AreOfQueries : Type 0
AreOfQueries = (history : List Entry) → standing_debts history ≡ flat_map debts_at (owed_queries history)

-- What askers are sent at a moment is told of these queries alone.
abbrev pub AreRepliedTo : Type 0
AreRepliedTo = (history : List Entry) (moment : ℕ) → sent_unicasts history moment ≡ flat_map (λ placed. replies_at moment placed.1) (owed_queries history)

-- So is what a tick releases, beside the last multicasts.
abbrev pub AreReleasedBy : Type 0
AreReleasedBy = (history : List Entry) (moment : ℕ) → released_records history moment ≡ released_by (λ rr. last_multicast rr history) moment (map (λ placed. placed.1) (owed_queries history))
