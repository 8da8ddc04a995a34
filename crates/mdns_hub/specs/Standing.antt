-- Daemons that stand for a history.
use Rattle.std.specs.Prelude.{List}
use Rattle.mdns_history.specs.declared.entry.Entry.{Entry}
use Rattle.mdns_core.specs.State.{State, Stands}

-- there is a history for which a daemon stands
abbrev pub IsStanding : State → Type 0
IsStanding state = (history : List Entry) × Stands state history
