-- The history of a daemon: the list of its entries, the newest first. What stands behind an entry in the list is the history before it,
-- so that the last entry of a kind is the first that is met, and an added entry is one step of a recursion.
use Rattle.std.specs.Prelude.{ℕ, Bool, true, false, List, [], ◌∷◌, Option, Some, None, if◌then◌else◌}
use Rattle.std.specs.List.{list_any, cons_option}
use Rattle.std.specs.Option.{option_or}
use Rattle.mdns_history.specs.declared.config.Config.{Config}
use Rattle.mdns_history.specs.declared.event.Event.{Event}
use Rattle.mdns_history.specs.declared.event.Event.TheVariants as event
use Rattle.mdns_history.specs.declared.mark.Mark.{Mark}
use Rattle.mdns_history.specs.declared.entry.Entry.{Entry}

-- A turn is an entry, or a step that was refused for memory; a refused Detach names its session.
pub data Turn : Type 0 where
  Entered : Entry → Turn
  Missed : Option ℕ → Turn

-- the entries of turns, which all other definitions speak of
abbrev pub entries : List Turn → List Entry
entries [] = []
entries (Entered entry ∷ past) = entry ∷ entries past
entries (Missed session ∷ past) = entries past

-- the last moment
abbrev pub now : List Entry → ℕ
now [] = 0
now (entry ∷ past) = entry.moment

-- what f says of the last entry of which it says something
abbrev pub latest : {X : Type 0} → (Entry → Option X) → List Entry → Option X
latest f [] = None
latest f (entry ∷ past) = option_or (f entry) (latest f past)

-- the same where f sees the history before the entry too
abbrev pub last_at : {X : Type 0} → (Entry → List Entry → Option X) → List Entry → Option X
last_at f [] = None
last_at f (entry ∷ past) = option_or (f entry past) (last_at f past)

-- What f says of the entries behind the last place that passes a test on its entry and the history before it, the last first. It is said of
-- all entries where no place passes.
abbrev pub since : {X : Type 0} → (Entry → List Entry → Bool) → (Entry → Option X) → List Entry → List X
since test f [] = []
since test f (entry ∷ past) = let rest = since test f past in if test entry past then [] else cons_option (f entry) rest

-- the same from that place on, its own entry with it
abbrev pub from_place : {X : Type 0} → (Entry → List Entry → Bool) → (Entry → Option X) → List Entry → List X
from_place test f [] = []
from_place test f (entry ∷ past) = let rest = from_place test f past in cons_option (f entry) (if test entry past then [] else rest)

-- a moment where a test passes
abbrev pub moment_if : Bool → ℕ → Option ℕ
moment_if true moment = Some moment
moment_if false moment = None

-- whether an entry has a mark that passes a test
abbrev pub has_mark : (Mark → Bool) → Entry → Bool
has_mark test entry = list_any test entry.marks

-- whether an event is a tick
abbrev pub is_tick : Event → Bool
is_tick event.Tick = true
is_tick _ = false

-- the configuration with which the daemon was booted
abbrev pub booted : Event → Option Config
booted (event.Boot config) = Some config
booted _ = None

-- the configuration of a history
abbrev pub config_of : List Entry → Option Config
config_of history = latest (λ entry. booted entry.event) history
