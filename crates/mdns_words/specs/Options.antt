-- The words behind `serve`, one after the other.
use Rattle.std.specs.Prelude.{ℕ, ◌^◌, ◌==◌, Bool, false, ◌&&◌, List, [], ◌∷◌, ◌++◌, map, String, Option, Some, None, codes, if◌then◌else◌}
use Rattle.std.specs.Str.{bytes_eq}
use Rattle.std.specs.Global.{Global}
use Rattle.std.specs.String.{string_bytes}
use Rattle.number_text.specs.Digits.{◌>>=◌, decimal_below, ipv4_of}
use Rattle.mdns_words.specs.HostLabels.{host_label_of}
use Rattle.mdns_words.specs.declared.options.Options.{Options}

-- words as their bytes
abbrev pub texts : List (String Global) → List (List ℕ)
texts words = map string_bytes words

-- no option and no peer
abbrev pub no_options : Options
no_options = record { socket = None; host = None; address = None; relay = None; seed = None; peers = [] }

-- a port from 1 to 65535
abbrev pub port_of : List ℕ → Option ℕ
port_of word = decimal_below (2 ^ 16) word >>= λ port. if port == 0 then None else Some port

-- a word that names an option
abbrev pub is_option : List ℕ → Bool
is_option (first ∷ second ∷ third ∷ word) = (first == 45) && (second == 45)
is_option _ = false

-- a value where there was none
abbrev pub put_once : {A : Type 0} → Option A → Option A → Option (Option A)
put_once (Some old) value = None
put_once None None = None
put_once None (Some value) = Some (Some value)

-- options with another value in a place, where there is one to be had
abbrev pub with_socket : Options → Option (Option (List ℕ)) → Option Options
with_socket options None = None
with_socket options (Some value) = Some (record options { socket = value })

abbrev pub with_host : Options → Option (Option (List ℕ)) → Option Options
with_host options None = None
with_host options (Some value) = Some (record options { host = value })

abbrev pub with_address : Options → Option (Option (ℕ)) → Option Options
with_address options None = None
with_address options (Some value) = Some (record options { address = value })

abbrev pub with_relay : Options → Option (Option (ℕ)) → Option Options
with_relay options None = None
with_relay options (Some value) = Some (record options { relay = value })

abbrev pub with_seed : Options → Option (Option (ℕ)) → Option Options
with_seed options None = None
with_seed options (Some value) = Some (record options { seed = value })

-- an option with its value: each is given once at most
unfoldable pub put_option : Options → List ℕ → List ℕ → Option Options
put_option options name value =
    if bytes_eq name (codes "--socket") then with_socket options (put_once options.socket (Some value))
    else if bytes_eq name (codes "--host") then with_host options (put_once options.host (host_label_of value))
    else if bytes_eq name (codes "--address") then with_address options (put_once options.address (ipv4_of value))
    else if bytes_eq name (codes "--relay") then with_relay options (put_once options.relay (port_of value))
    else if bytes_eq name (codes "--seed") then with_seed options (put_once options.seed (decimal_below (2 ^ 32) value))
    else None

-- the port of a peer
unfoldable pub put_peer : Options → List ℕ → Option Options
put_peer options word = port_of word >>= λ port. Some (record options { peers = options.peers ++ port ∷ [] })

-- the words, of which the first is the value of an option where one was just named
abbrev pub options_from : Options → Option (List ℕ) → List (List ℕ) → Option Options
options_from options None [] = Some options
options_from options (Some name) [] = None
options_from options None (word ∷ words) = if is_option word then options_from options (Some word) words else put_peer options word >>= λ next. options_from next None words
options_from options (Some name) (word ∷ words) = put_option options name word >>= λ next. options_from next None words
