-- A script is played in one way alone, and each daemon's history is legal.
use Rattle.std.specs.Prelude.{◌≡◌, ℕ, List, [], ◌∷◌}
use Rattle.mdns_history.specs.declared.entry.Entry.{Entry}
use Rattle.mdns_history.specs.Fitting.{IsLegal}
use Rattle.mdns_core.specs.InForce.{in_force}
use Rattle.mdns_script.specs.declared.command.Command.{Command}
use Rattle.mdns_hub.specs.Played.{Played, start, history_of}
use Rattle.mdns_hub.specs.Plays.{Plays}

-- commands are played one after another
abbrev pub PlaysCommands : Played → List Command → Played → Type 0
PlaysCommands before [] after = after ≡ before
PlaysCommands before (command ∷ commands) after = (between : Played) × Plays command before between × PlaysCommands between commands after

-- What commands play is determined.
abbrev pub IsPlayedOnce : Type 0
IsPlayedOnce = (commands : List Command) (before left right : Played) → PlaysCommands before commands left → PlaysCommands before commands right → left ≡ right

-- a daemon that wasn't booted has no entry, any other has a legal history
abbrev pub IsLegalOrNone : List Entry → Type 0
IsLegalOrNone [] = Unit {0}
IsLegalOrNone (entry ∷ past) = IsLegal in_force (entry ∷ past)

-- Each daemon of a script has a legal history.
abbrev pub AreLegal : Type 0
AreLegal = (commands : List Command) (played : Played) → PlaysCommands start commands played → (daemon : ℕ) → IsLegalOrNone (history_of daemon played.told)
