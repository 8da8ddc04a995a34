-- Which daemon is booted.
use Rattle.std.specs.Prelude.{ℕ, List, [], ◌∷◌, Some, None}
use Rattle.mdns_history.specs.declared.config.Config.{Config}
use Rattle.mdns_history.specs.Fitting.{boot_entry}
use Rattle.mdns_serve.specs.declared.happening.Happening.TheVariants.{Entered}
use Rattle.mdns_serve.specs.declared.shared.Shared.{Shared}
use Rattle.mdns_serve.specs.Shares.{StandsFor}

-- the configuration of a host with an IPv4 address alone
abbrev pub config_with : List ℕ → ℕ → Config
config_with label address = record { address = address; host = Some (record { label = label; v6 = None }) }

-- a shared daemon stands for its boot alone, with this configuration, at this moment and with this word
abbrev pub Boots : Config → ℕ → ℕ → Shared → Type 0
Boots config moment word shared = StandsFor (Entered (boot_entry moment word config) ∷ []) shared

-- the same of a daemon with this host at this address, at some moment and with some word
abbrev pub BootsAt : List ℕ → ℕ → Shared → Type 0
BootsAt host address shared = (moment : ℕ) × (word : ℕ) × Boots (config_with host address) moment word shared
