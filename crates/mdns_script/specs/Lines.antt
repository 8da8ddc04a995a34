-- What the lines of a script say, and which are no lines.
use Rattle.std.specs.Prelude.{ℕ, ◌==◌, ◌^◌, nat_le, not, ◌&&◌, Bool, false, if◌then◌else◌, List, [], ◌∷◌, Option, Some, None, codes}
use Rattle.std.specs.Option.{option_map, option_or}
use Rattle.std.specs.Str.{bytes_eq}
use Rattle.number_text.specs.Cut.{cut_of}
use Rattle.mdns_base.specs.declared.host.Host.{Host}
use Rattle.number_text.specs.Digits.{◌>>=◌, decimal_of, decimal_below, ipv4_of, hex_of}
use Rattle.mdns_history.specs.declared.event.Event.TheVariants as event
use Rattle.mdns_script.specs.Tokens.{when}
use Rattle.mdns_script.specs.Boots.{daemon_of, daemon_command}
use Rattle.mdns_script.specs.Links.{number_in, two_daemons}
use Rattle.mdns_script.specs.Requests.{request_of}
use Rattle.mdns_script.specs.declared.command.Command.{Command}
use Rattle.mdns_script.specs.declared.command.Command.TheVariants as commands
use Rattle.mdns_script.specs.declared.command.Line.{Line}
use Rattle.mdns_script.specs.declared.command.Line.TheVariants as lines

-- `close K S`: the session ends
unfoldable pub close_command : List ℕ → Option Command
close_command text = do
  daemon ← cut_of 32 text
  n ← daemon_of daemon.0
  session ← decimal_of daemon.1
  Some (commands.Event n (event.Detach session))

-- how many items are taken at most: 1 to 1000
abbrev pub max_of : List ℕ → Option ℕ
max_of text = do
  n ← decimal_of text
  when (nat_le 1 n && nat_le n 1000) n

-- `take K S N`
unfoldable pub take_command : List ℕ → Option Command
take_command text = do
  daemon ← cut_of 32 text
  session ← cut_of 32 daemon.1
  n ← daemon_of daemon.0
  s ← decimal_of session.0
  max ← max_of session.1
  Some (commands.Event n (event.Take s max))

-- after `hear `: a daemon, an address and a port, and the text of a packet
unfoldable pub hear_words : List ℕ → Option (ℕ × Host × List ℕ)
hear_words text = do
  daemon ← cut_of 32 text
  from ← cut_of 32 daemon.1
  port ← cut_of 32 from.1
  n ← daemon_of daemon.0
  ip ← ipv4_of from.0
  p ← decimal_below (2 ^ 16) port.0
  Some (n, record { ip = ip; port = p }, port.1)

-- `hear K IPV4 PORT HEX`
abbrev pub hear_command : List ℕ → Option Command
hear_command text = do
  words ← hear_words text
  bytes ← hex_of words.2
  Some (commands.Event words.0 (event.Hear words.1 bytes))

-- after `call `: a daemon, a session and the number of an operation, and the text of a request
unfoldable pub call_words : List ℕ → Option (ℕ × ℕ × ℕ × List ℕ)
call_words text = do
  daemon ← cut_of 32 text
  session ← cut_of 32 daemon.1
  op ← cut_of 32 session.1
  n ← daemon_of daemon.0
  s ← decimal_of session.0
  o ← decimal_below (2 ^ 32) op.0
  Some (n, s, o, op.1)

-- `call K S OP REQUEST`
abbrev pub call_command : List ℕ → Option Command
call_command text = do
  words ← call_words text
  request ← request_of words.3
  Some (commands.Event words.0 (event.Call words.1 words.2 request))

-- a first word that boots a daemon, passes time, sets the words to come or changes the link, and what follows it
abbrev pub setting_of_words : List ℕ → List ℕ → Option Command
setting_of_words word rest =
    if bytes_eq word (codes "daemon") then daemon_command rest
    else if bytes_eq word (codes "at") then option_map (λ n. commands.At n) (decimal_of rest)
    else if bytes_eq word (codes "word") then option_map (λ w. commands.Word w) (decimal_below (2 ^ 32) rest)
    else if bytes_eq word (codes "seed") then option_map (λ s. commands.Seed s) (decimal_below (2 ^ 32) rest)
    else if bytes_eq word (codes "delay") then option_map (λ n. commands.Delay n) (number_in 1 10000 rest)
    else if bytes_eq word (codes "lose") then option_map (λ n. commands.Lose n) (number_in 0 1000000 rest)
    else if bytes_eq word (codes "part") then option_map (λ pair. commands.Part pair.0 pair.1) (two_daemons rest)
    else if bytes_eq word (codes "meet") then option_map (λ pair. commands.Meet pair.0 pair.1) (two_daemons rest)
    else None

-- a first word that lets something happen to a daemon, and what follows it
abbrev pub event_of_words : List ℕ → List ℕ → Option Command
event_of_words word rest =
    if bytes_eq word (codes "open") then option_map (λ n. commands.Attach n) (daemon_of rest)
    else if bytes_eq word (codes "close") then close_command rest
    else if bytes_eq word (codes "take") then take_command rest
    else if bytes_eq word (codes "hear") then hear_command rest
    else if bytes_eq word (codes "call") then call_command rest
    else None

-- a first word and what follows it
abbrev pub command_of_words : List ℕ → List ℕ → Option Command
command_of_words word rest = option_or (setting_of_words word rest) (event_of_words word rest)

-- the command of a line of one of the forms
abbrev pub command_of : List ℕ → Option Command
command_of line = cut_of 32 line >>= λ words. command_of_words words.0 words.1

-- the line of a command, or a bad one
abbrev pub command_line : Option Command → Line
command_line None = lines.Bad
command_line (Some command) = lines.Command command

-- neither empty nor a comment
abbrev pub is_read : List ℕ → Bool
is_read [] = false
is_read (first ∷ rest) = not (first == 35)

-- A line is passed over, has a command, or is bad.
unfoldable pub line_of : List ℕ → Line
line_of line = if not (is_read line) then lines.Command commands.Pass else command_line (command_of line)
