-- What a hub stands for.
use Rattle.std.specs.Prelude.{◌≡◌, ℕ, Bool, List, [], ◌++◌, take, Option, Some, None}
use Rattle.std.specs.Option.{option_map}
use Rattle.std.specs.Io.KnownBytes.{Appends}
use Rattle.mdns_history.specs.declared.entry.Entry.{Entry}
use Rattle.mdns_history.specs.History.{config_of}
use Rattle.mdns_script.specs.declared.command.Command.{Command}
use Rattle.mdns_core.specs.State.{Stands}
use Rattle.mdns_hub.specs.declared.hub.Hub.{Hub}
use Rattle.mdns_hub.specs.declared.daemons.Booted.{Booted}
use Rattle.mdns_hub.specs.Kept.{link_of}
use Rattle.mdns_hub.specs.Played.{Played, Told, history_of, transcript}
use Rattle.mdns_hub.specs.Slots.{slot_at, is_kept}
use Rattle.mdns_hub.specs.Tallies.{tally_of}
use Rattle.mdns_hub.specs.Plays.{is_bad_at}

-- a daemon stands for a history, has the address with which it was booted, and counted what it gave; in an empty slot there is no history
abbrev pub SlotStands : Option Booted → List Entry → Type 0
SlotStands None history = history ≡ []
SlotStands (Some booted) history =
    Stands booted.daemon history × (option_map (λ config. config.address) (config_of history) ≡ Some booted.address) × (booted.tally ≡ tally_of history)

-- each slot stands for the history of its number
abbrev pub SlotsStand : List (Option Booted) → List Told → Type 0
SlotsStand slots told = (number : ℕ) → SlotStands (slot_at slots number) (history_of number told)

-- A hub stands for what was played.
pub record StandsFor (hub : Hub) (played : Played) : Type 0 where
  pub clock : hub.clock ≡ played.clock
  pub words : hub.words ≡ played.words
  pub link : link_of hub.link ≡ played.link
  pub slots : SlotsStand hub.daemons.slots.items played.told

-- what a step adds to the transcript was put
abbrev pub Puts : Option (List ℕ) → Option (List ℕ) → Played → Played → Type 0
Puts old new before after = (text : List ℕ) × (transcript after ≡ transcript before ++ text) × Appends old new text

-- a beginning of what a step adds to the transcript was put
abbrev pub PutsPart : Option (List ℕ) → Option (List ℕ) → Played → Played → Type 0
PutsPart old new before after = (text : List ℕ) × (transcript after ≡ transcript before ++ text) × ((n : ℕ) × Appends old new (take n text))

-- The hub goes a step on: it stands for what was played after the step, and what that adds to the transcript was put.
abbrev pub Advances : (Played → Played → Type 0) → Hub → Hub → Option (List ℕ) → Option (List ℕ) → Type 0
Advances Step before after old new =
    (played : Played) → StandsFor before played → (next : Played) × Step played next × StandsFor after next × Puts old new played next

-- A step was broken off: a part of it was played, and a beginning of what that adds to the transcript was put.
abbrev pub BreaksIn : (Played → Played → Type 0) → Hub → Option (List ℕ) → Option (List ℕ) → Type 0
BreaksIn Part before old new =
    (played : Played) → StandsFor before played → (reached : Played) × Part played reached × PutsPart old new played reached

-- whether a command is bad, told of what the hub keeps
abbrev pub is_bad_for : Hub → Command → Bool
is_bad_for hub command = is_bad_at hub.clock (is_kept hub.daemons.slots.items) command
