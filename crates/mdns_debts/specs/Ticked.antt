-- After a tick of a daemon that replies, all that is owed has to wait.
use Rattle.std.specs.Prelude.{◌≡◌, true, List, ◌∷◌}
use Rattle.std.specs.List.{list_all}
use Rattle.mdns_history.specs.declared.event.Event.TheVariants as event
use Rattle.mdns_history.specs.declared.entry.Entry.{Entry}
use Rattle.mdns_history.specs.InForce.{Duties}
use Rattle.mdns_history.specs.Debts.{last_multicast}
use Rattle.mdns_history.specs.Fitting.{Fits}
use Rattle.mdns_debts.specs.Following.{queries_in}
use Rattle.mdns_debts.specs.Waiting.{waits}

-- what was due to askers is met, what was free to go is multicast, and all else has a later moment
abbrev pub IsLaterBehindTicks : Type 0
IsLaterBehindTicks = (duties : Duties) (entry : Entry) (past : List Entry) → Fits duties entry past → duties.replying ≡ true → entry.event ≡ event.Tick →
    list_all (waits (λ rr. last_multicast rr (entry ∷ past)) entry.moment) (queries_in (entry ∷ past)) ≡ true
