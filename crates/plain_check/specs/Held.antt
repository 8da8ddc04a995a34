-- Histories that are held by daemon: for the contracts of private functions.
use Rattle.std.specs.Prelude.{ℕ, ◌==◌, Bool, List, [], ◌∷◌, if◌then◌else◌}
use Rattle.mdns_history.specs.declared.entry.Entry.{Entry}
use Rattle.mdns_transcript.specs.declared.row.Row.{Row}
use Rattle.plain_check.specs.declared.histories.Held.{Held}

-- whether a history is of a daemon
abbrev pub is_of : ℕ → Held → Bool
is_of daemon held = held.daemon == daemon

-- the history of a daemon, empty where none is held
abbrev pub history_in : ℕ → List Held → List Entry
history_in daemon [] = []
history_in daemon (held ∷ more) = if is_of daemon held then held.history.items else history_in daemon more

-- all but the first of a daemon
abbrev pub without : ℕ → List Held → List Held
without daemon [] = []
without daemon (held ∷ more) = if is_of daemon held then more else held ∷ without daemon more

-- the history of a daemon with one more row
abbrev pub with_row : Row → ℕ → List Entry → List Entry
with_row row daemon history = if row.daemon == daemon then row.entry ∷ history else history
