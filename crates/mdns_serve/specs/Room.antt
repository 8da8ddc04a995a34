-- That there is always room for one more session whose end is owed.
use Rattle.std.specs.Prelude.{◌≡◌, ◌<◌, ◌==◌, ℕ, true, false, List, length}
use Rattle.std.specs.List.{list_any}
use Rattle.mdns_history.specs.History.{Turn, entries}
use Rattle.mdns_history.specs.Fitting.{AreLegal}
use Rattle.mdns_history.specs.Sessions.{is_attached}
use Rattle.mdns_core.specs.InForce.{in_force}
use Rattle.mdns_serve.specs.Turns.{owed}

-- In legal turns fewer than 64 ends are owed, where that of an attached session isn't.
abbrev pub OwedEndsHaveRoom : Type 0
OwedEndsHaveRoom = (turns : List Turn) (session : ℕ) → AreLegal in_force turns → is_attached session (entries turns) ≡ true
    → list_any (λ n. n == session) (owed turns) ≡ false → length (owed turns) < 64
