-- The lines that boot a daemon.
use Rattle.std.specs.Prelude.{ℕ, ◌+◌, nat_le, ◌&&◌, List, Option, Some, None, codes, if◌then◌else◌}
use Rattle.std.specs.Option.{option_map}
use Rattle.std.specs.Str.{bytes_eq}
use Rattle.number_text.specs.Cut.{cut_of}
use Rattle.number_text.specs.Digits.{◌>>=◌, decimal_of, ipv4_of, ipv6_of}
use Rattle.mdns_history.specs.declared.config.Config.{Config}
use Rattle.mdns_script.specs.Tokens.{when, host_label_of}
use Rattle.mdns_script.specs.declared.command.Command.{Command}
use Rattle.mdns_script.specs.declared.command.Command.TheVariants as commands

-- the number of a daemon, 1 to 16
abbrev pub daemon_of : List ℕ → Option ℕ
daemon_of text = do
  n ← decimal_of text
  when (nat_le 1 n && nat_le n 16) n

-- `daemon K`: a daemon without a host at the address 10.0.0.K
abbrev pub plain_command : List ℕ → Option Command
plain_command text = option_map (λ n. commands.Daemon n (record { address = 167772160 + n; host = None })) (daemon_of text)

-- `IPV4` or `IPV4 IPV6`
abbrev pub addresses_of : List ℕ → Option (ℕ × Option ℕ)
addresses_of text = at_cut text (cut_of 32 text)
  where
    at_cut : List ℕ → Option (List ℕ × List ℕ) → Option (ℕ × Option ℕ)
    at_cut text None = option_map (λ v4. (v4, None)) (ipv4_of text)
    at_cut text (Some words) = do
      v4 ← ipv4_of words.0
      v6 ← ipv6_of words.1
      Some (v4, Some v6)

-- `LABEL IPV4 [IPV6]`: a host and its addresses
unfoldable pub host_of : List ℕ → Option Config
host_of text = do
  token ← cut_of 32 text
  label ← host_label_of token.0
  addresses ← addresses_of token.1
  Some (record { address = addresses.0; host = Some (record { label = label; v6 = addresses.1 }) })

-- `host LABEL IPV4 [IPV6]`
unfoldable pub hosted_of : List ℕ → Option Config
hosted_of text = do
  words ← cut_of 32 text
  if bytes_eq words.0 (codes "host") then host_of words.1 else None

-- `daemon K host LABEL IPV4 [IPV6]`: a daemon with a host
abbrev pub hosted_command : List ℕ → List ℕ → Option Command
hosted_command number text = do
  n ← daemon_of number
  config ← hosted_of text
  Some (commands.Daemon n config)

-- what follows `daemon`: a number alone, or a number and a host
abbrev pub daemon_command : List ℕ → Option Command
daemon_command text = at_cut text (cut_of 32 text)
  where
    at_cut : List ℕ → Option (List ℕ × List ℕ) → Option Command
    at_cut text None = plain_command text
    at_cut text (Some words) = hosted_command words.0 words.1
