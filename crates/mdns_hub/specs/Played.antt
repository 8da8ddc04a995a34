-- What was played of a script by up to sixteen daemons, and its transcript.
use Rattle.std.specs.Prelude.{ℕ, ◌==◌, Bool, List, [], ◌∷◌, ◌++◌, Option, Some, None, if◌then◌else◌}
use Rattle.std.specs.List.{filter_map}
use Rattle.std.specs.Option.{is_some, option_map}
use Rattle.mdns_draw.specs.declared.words.Words.{Words}
use Rattle.mdns_draw.specs.declared.words.Words.TheVariants.{Same}
use Rattle.mdns_history.specs.declared.config.Config.{Config}
use Rattle.mdns_history.specs.declared.entry.Entry.{Entry}
use Rattle.mdns_history.specs.History.{config_of}
use Rattle.mdns_history.specs.EntryText.{entry_text}
use Rattle.mdns_hub.specs.Links.{LinkState, quiet_link}

-- an entry and the number of its daemon
pub record Told : Type 0 where
  pub daemon : ℕ
  pub entry : Entry

-- the current moment, the words to come, the link, and all entries, the newest first
pub record Played : Type 0 where
  pub clock : ℕ
  pub words : Words
  pub link : LinkState
  pub told : List Told

-- nothing was played
abbrev pub start : Played
start = record { clock = 0; words = Same 0; link = quiet_link; told = [] }

-- the entry of a daemon
abbrev pub entry_of : ℕ → Told → Option Entry
entry_of daemon told = if told.daemon == daemon then Some told.entry else None

-- the history of a daemon
abbrev pub history_of : ℕ → List Told → List Entry
history_of daemon told = filter_map (entry_of daemon) told

-- the configuration of a daemon, once it was booted
abbrev pub config_in : List Told → ℕ → Option Config
config_in told daemon = config_of (history_of daemon told)

-- whether a daemon was booted
abbrev pub is_booted : List Told → ℕ → Bool
is_booted told daemon = is_some (config_in told daemon)

-- the address of a daemon, once it was booted
abbrev pub address_in : List Told → ℕ → Option ℕ
address_in told daemon = option_map (λ config. config.address) (config_in told daemon)

-- the text of entries, from the first on
abbrev pub told_text : List Told → List ℕ
told_text [] = []
told_text (told ∷ past) = told_text past ++ entry_text told.daemon told.entry

-- the transcript of what was played
abbrev pub transcript : Played → List ℕ
transcript played = told_text played.told
