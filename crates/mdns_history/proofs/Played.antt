-- Histories played from a list of events, for worked rows.
use Rattle.std.proofs.Common.{ℕ, List, [], ◌∷◌, ◌++◌, Some, None, codes}
use Rattle.std.specs.Prelude.{decimal}
use Rattle.std.specs.List.{flat_map}
use Rattle.mdns_history.specs.EntryText.{line, mark_line, sent_lines, given_line, outcome_lines}
use Rattle.mdns_base.specs.declared.host.Host.{Host}
use Rattle.sd_call.specs.declared.request.Request.TheVariants as request
use Rattle.mdns_history.specs.declared.event.Event.{Event}
use Rattle.mdns_history.specs.declared.event.Event.TheVariants as event
use Rattle.mdns_history.specs.declared.config.Config.{Config}
use Rattle.mdns_history.specs.declared.entry.Entry.{Entry}
use Rattle.mdns_history.specs.InForce.{Duties, all_duties}
use Rattle.mdns_history.specs.Fitting.{next_entry, boot_entry}

-- an event and its moment, with word 0
pub record Step : Type 0 where
  pub moment : ℕ
  pub event : Event

abbrev pub at : ℕ → Event → Step
at moment event = record { moment = moment; event = event }

-- the history after steps, each done on the history before it by a daemon with these duties
abbrev pub played_by : Duties → List Entry → List Step → List Entry
played_by duties history [] = history
played_by duties history (step ∷ steps) = played_by duties (next_entry duties history step.moment 0 step.event ∷ history) steps

-- the same by the finished daemon
abbrev pub played : List Entry → List Step → List Entry
played history steps = played_by all_duties history steps

-- daemon 1 without a host
abbrev pub plain_config : Config
plain_config = record { address = 0x0a000001; host = None }

-- a daemon that was just booted
abbrev pub booted : Config → List Entry
booted config = boot_entry 0 0 config ∷ []

-- the host that packets come from
abbrev pub other : Host
other = record { ip = 0x0a000009; port = 5353 }

abbrev pub local_name : List ℕ → List (List ℕ)
local_name label = label ∷ codes "local" ∷ []

-- the same with a host h, and at another address
abbrev pub host_at : ℕ → Config
host_at address = record { address = address; host = Some (record { label = codes "h"; v6 = None }) }

abbrev pub host_config : Config
host_config = host_at 0x0a000001

abbrev pub from_host : ℕ → ℕ → Host
from_host ip port = record { ip = ip; port = port }

-- an entry's moment behind which stands all that it did, if it did something
abbrev pub note : ℕ → List ℕ → List ℕ
note moment [] = []
note moment (b ∷ bs) = line (decimal moment) ++ b ∷ bs

-- what the entries of a history did, from the first on
abbrev pub notes : List Entry → List ℕ
notes [] = []
notes (entry ∷ past) =
    notes past ++ note entry.moment (flat_map mark_line entry.marks ++ flat_map sent_lines entry.sent ++ flat_map given_line entry.given ++ outcome_lines entry.outcome)

-- a session, and its query for the address of a.local
abbrev pub query_a : List Step
query_a = at 0 event.Attach ∷ at 0 (event.Call 1 1 (request.Query 1 (local_name (codes "a")))) ∷ []

-- a packet with one address record of a.local: the top byte of its class, its TTL, and the last byte of the address
abbrev pub packet : ℕ → ℕ → ℕ → List ℕ
packet class ttl last = 0 ∷ 0 ∷ 0x84 ∷ 0 ∷ 0 ∷ 0 ∷ 0 ∷ 1 ∷ 0 ∷ 0 ∷ 0 ∷ 0 ∷ 1 ∷ 0x61 ∷ 5 ∷ codes "local" ++ 0 ∷ 0 ∷ 1 ∷ class ∷ 1 ∷ 0 ∷ 0 ∷ 0 ∷ ttl ∷ 0 ∷ 4 ∷ 0xc0 ∷ 0 ∷ 2 ∷ last ∷ []

abbrev pub hears : ℕ → ℕ → ℕ → ℕ → Step
hears moment class ttl last = at moment (event.Hear other (packet class ttl last))

abbrev pub ticks : ℕ → Step
ticks moment = at moment event.Tick
