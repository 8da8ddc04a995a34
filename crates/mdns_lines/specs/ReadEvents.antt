-- Events and the first lines of entries read from text.
use Rattle.std.specs.Prelude.{ℕ, ◌^◌, List, Option, Some, None, codes, if◌then◌else◌}
use Rattle.std.specs.Option.{option_map}
use Rattle.std.specs.Str.{bytes_eq}
use Rattle.number_text.specs.Cut.{cut_of}
use Rattle.mdns_base.specs.declared.host.Host.{Host}
use Rattle.number_text.specs.Digits.{◌>>=◌, decimal_of, decimal_below, ipv4_of, ipv6_of, hex_of}
use Rattle.mdns_history.specs.declared.config.HostConfig.{HostConfig}
use Rattle.mdns_history.specs.declared.config.Config.{Config}
use Rattle.mdns_history.specs.declared.event.Event.{Event}
use Rattle.mdns_history.specs.declared.event.Event.TheVariants as event
use Rattle.mdns_script.specs.Boots.{daemon_of}
use Rattle.mdns_lines.specs.Words.{after, label_in, host_in, if_word}
use Rattle.mdns_lines.specs.ReadCalls.{request_in}
use Rattle.mdns_print.specs.declared.line.Line.{Line}
use Rattle.mdns_print.specs.declared.line.Line.TheVariants as lines

-- `LABEL` or `LABEL IPV6`
abbrev pub host_config_in : List ℕ → Option HostConfig
host_config_in text = at_cut text (cut_of 32 text)
  where
    at_cut : List ℕ → Option (List ℕ × List ℕ) → Option HostConfig
    at_cut text None = option_map (λ label. record { label = label; v6 = None }) (label_in text)
    at_cut text (Some words) = do
      label ← label_in words.0
      v6 ← ipv6_of words.1
      Some (record { label = label; v6 = Some v6 })

-- after `boot `: `IPV4`, or `IPV4` and a host
abbrev pub config_in : List ℕ → Option Config
config_in text = at_cut text (cut_of 32 text)
  where
    at_cut : List ℕ → Option (List ℕ × List ℕ) → Option Config
    at_cut text None = option_map (λ a. record { address = a; host = None }) (ipv4_of text)
    at_cut text (Some words) = do
      a ← ipv4_of words.0
      host ← host_config_in words.1
      Some (record { address = a; host = Some host })

-- after `call `: a session and the number of an operation, and the text of a request
unfoldable pub call_words : List ℕ → Option (ℕ × ℕ × List ℕ)
call_words text = do
  session ← cut_of 32 text
  op ← cut_of 32 session.1
  s ← decimal_of session.0
  o ← decimal_below (2 ^ 32) op.0
  Some (s, o, op.1)

-- after `call `: `SESSION OP REQUEST`
abbrev pub call_in : List ℕ → Option Event
call_in text = do
  words ← call_words text
  request ← request_in words.2
  Some (event.Call words.0 words.1 request)

-- after `hear `: an address and a port, and the text of a packet
unfoldable pub hear_words : List ℕ → Option (Host × List ℕ)
hear_words text = do
  ip ← cut_of 32 text
  port ← cut_of 32 ip.1
  from ← host_in ip.0 port.0
  Some (from, port.1)

-- after `hear `: `IPV4 PORT HEX`
abbrev pub hear_in : List ℕ → Option Event
hear_in text = do
  words ← hear_words text
  bytes ← hex_of words.1
  Some (event.Hear words.0 bytes)

-- after `take `: `SESSION MAX`
unfoldable pub take_in : List ℕ → Option Event
take_in text = do
  session ← cut_of 32 text
  s ← decimal_of session.0
  max ← decimal_below (2 ^ 32) session.1
  Some (event.Take s max)

-- an event of one word
abbrev pub plain_event : List ℕ → Option Event
plain_event text = if bytes_eq text (codes "tick") then Some event.Tick else if_word (codes "open") text event.Attach

-- an event by its first word, and what follows that
abbrev pub event_of_words : List ℕ → List ℕ → Option Event
event_of_words word rest =
    if bytes_eq word (codes "boot") then option_map (λ config. event.Boot config) (config_in rest)
    else if bytes_eq word (codes "close") then option_map (λ session. event.Detach session) (decimal_of rest)
    else if bytes_eq word (codes "take") then take_in rest
    else if bytes_eq word (codes "hear") then hear_in rest
    else if bytes_eq word (codes "call") then call_in rest
    else None

-- the event that a text spells
abbrev pub event_in : List ℕ → Option Event
event_in text = at_cut text (cut_of 32 text)
  where
    at_cut : List ℕ → Option (List ℕ × List ℕ) → Option Event
    at_cut text None = plain_event text
    at_cut text (Some words) = event_of_words words.0 words.1

-- after `@`: the moment, the daemon and the word, and the text of the event
unfoldable pub head_words : List ℕ → Option (ℕ × ℕ × ℕ × List ℕ)
head_words text = do
  moment ← cut_of 32 text
  daemon ← cut_of 32 moment.1
  word ← cut_of 32 daemon.1
  m ← decimal_of moment.0
  d ← after (codes "d") daemon.0
  w ← after (codes "w") word.0
  number ← daemon_of d
  bits ← decimal_below (2 ^ 32) w
  Some (number, m, bits, word.1)

-- the first line of an entry, after `@`
abbrev pub head_in : List ℕ → Option Line
head_in text = do
  words ← head_words text
  event ← event_in words.3
  Some (lines.Head words.0 words.1 words.2 event)
