-- The daemons that a hub keeps: one in the slot of its number, and nothing in the others.
use Rattle.std.specs.Prelude.{◌≡◌, ℕ, ◌<◌, ◌≤◌, max, Bool, List, Option, Some, option_and_then, slice_get}
use Rattle.std.specs.Option.{is_some, option_map, option_map_or}
use Rattle.mdns_core.specs.State.{due_of}
use Rattle.mdns_hub.specs.declared.daemons.Booted.{Booted}
use Rattle.mdns_hub.specs.declared.tally.Tally.{Tally}
use Rattle.mdns_hub.specs.Tallies.{no_tally}

-- what stands in a slot
abbrev pub slot_at : {T : Type 0} → List (Option T) → ℕ → Option T
slot_at slots number = option_and_then (λ slot. slot) (slice_get slots number)

-- whether a daemon was booted
abbrev pub is_kept : List (Option Booted) → ℕ → Bool
is_kept slots number = is_some (slot_at slots number)

-- the address of a daemon
abbrev pub address_at : List (Option Booted) → ℕ → Option ℕ
address_at slots number = option_map (λ booted. booted.address) (slot_at slots number)

-- the moment at which something of a daemon is due
abbrev pub due_at : List (Option Booted) → ℕ → Option ℕ
due_at slots number = option_and_then (λ booted. due_of booted.daemon) (slot_at slots number)

-- what a daemon gave to its sessions; one that wasn't booted gave nothing
abbrev pub tally_at : List (Option Booted) → ℕ → Tally
tally_at slots number = option_map_or (λ booted. booted.tally) (slot_at slots number) no_tally

-- no daemon's last entry is after a moment
abbrev pub AreBehind : ℕ → List (Option Booted) → Type 0
AreBehind clock slots = (number : ℕ) (booted : Booted) → slot_at slots number ≡ Some booted → booted.daemon.last ≤ clock

-- nothing is due before a moment, where what was due before the clock is due at the clock
abbrev pub AreDueFrom : ℕ → ℕ → List (Option Booted) → Type 0
AreDueFrom moment clock slots = (number due : ℕ) → due_at slots number ≡ Some due → moment ≤ max due clock

-- what is due of the daemons below a number is due after a moment
abbrev pub AreOver : ℕ → ℕ → List (Option Booted) → Type 0
AreOver below moment slots = (number due : ℕ) → number < below → due_at slots number ≡ Some due → moment < due
