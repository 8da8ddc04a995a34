-- What the words of `serve` ask for.
use Rattle.std.specs.Prelude.{ℕ, List, Option, Some, None}
use Rattle.number_text.specs.Digits.{◌>>=◌}
use Rattle.mdns_words.specs.declared.options.Options.{Options}
use Rattle.mdns_words.specs.declared.plan.Asked.{Asked}
use Rattle.mdns_words.specs.Options.{no_options, options_from}

-- a number, or 1 where none is given
abbrev pub seed_or_one : Option ℕ → ℕ
seed_or_one (Some seed) = seed
seed_or_one None = 1

-- what options ask for, where none is missing
abbrev pub asked_by : Options → Option Asked
asked_by options = do
  socket ← options.socket
  host ← options.host
  address ← options.address
  relay ← options.relay
  Some (record { host = host; plan = record { socket = socket; address = address; relay = relay; seed = seed_or_one options.seed; peers = options.peers } })

-- What the words behind `serve` ask for, where they are as they should be.
abbrev pub serve_asked : List (List ℕ) → Option Asked
serve_asked words = options_from no_options None words >>= λ options. asked_by options
