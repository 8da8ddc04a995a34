-- For which histories kept moments stand.
use Rattle.std.specs.Prelude.{◌≡◌, ◌≤◌, List, [], ◌∷◌}
use Rattle.mdns_history.specs.declared.entry.Entry.{Entry}
use Rattle.mdns_history.specs.History.{now}
use Rattle.mdns_history.specs.Debts.{multicasts_in}
use Rattle.mdns_reply.specs.Lasts.{Last, Stands}

-- Kept moments stand when an entry that multicasts nothing is added.
abbrev pub StandLater : Type 0
StandLater = (lasts : List Last) (entry : Entry) (past : List Entry) → multicasts_in entry ≡ [] → now past ≤ entry.moment → Stands lasts past → Stands lasts (entry ∷ past)
