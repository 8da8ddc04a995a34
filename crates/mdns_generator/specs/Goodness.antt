-- Commands of which none is bad at its place.
use Rattle.std.specs.Prelude.{◌≡◌, false, List, [], ◌∷◌}
use Rattle.mdns_script.specs.declared.command.Command.{Command}
use Rattle.mdns_hub.specs.Played.{Played}
use Rattle.mdns_hub.specs.Plays.{is_bad, Plays}

-- none is bad at its place, once those before it were played
abbrev pub AreGood : Played → List Command → Type 0
AreGood played [] = Unit {0}
AreGood played (command ∷ commands) = (is_bad played command ≡ false) × ((next : Played) → Plays command played next → AreGood next commands)
