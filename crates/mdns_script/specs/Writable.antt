-- Which commands can be written in a script, by the ranges of their numbers, names, texts and TXT data.
use Rattle.std.specs.Prelude.{◌≡◌, ℕ, ◌+◌, ◌==◌, nat_le, nat_lt, Bool, true, false, ◌&&◌, List, length, Option, Some, None}
use Rattle.std.specs.List.{list_all}
use Rattle.std.specs.Str.{is_utf8}
use Rattle.dns_name.specs.Names.{is_label}
use Rattle.dns_message.specs.Writing.{is_below, are_bytes, is_spellable_name}
use Rattle.txt_record.specs.Strings.{is_txt, strings_of}
use Rattle.sd_call.specs.declared.request.Request.{Request}
use Rattle.sd_call.specs.declared.request.Request.TheVariants as request
use Rattle.mdns_history.specs.Typed.{is_text, is_typed_host, is_typed_v6}
use Rattle.mdns_history.specs.declared.config.HostConfig.{HostConfig}
use Rattle.mdns_history.specs.declared.event.Event.{Event}
use Rattle.mdns_history.specs.declared.event.Event.TheVariants as event
use Rattle.mdns_script.specs.declared.command.Command.{Command}
use Rattle.mdns_script.specs.declared.command.Command.TheVariants as commands
use Rattle.mdns_script.specs.declared.command.Line.TheVariants as lines
use Rattle.mdns_script.specs.CommandText.{command_text}
use Rattle.mdns_script.specs.Lines.{line_of}

-- a number from the least to the most that there may be
abbrev pub is_between : ℕ → ℕ → ℕ → Bool
is_between least most n = nat_le least n && nat_le n most

-- the number of a daemon
abbrev pub is_daemon : ℕ → Bool
is_daemon n = is_between 1 16 n

-- a label or a service type of a request: UTF-8 of at most 1024 bytes
abbrev pub is_writable_text : List ℕ → Bool
is_writable_text text = is_text text && is_utf8 text

-- TXT data: at most 8192 bytes, and no string is empty
abbrev pub is_writable_txt : List ℕ → Bool
is_writable_txt txt = are_bytes txt && is_txt txt && list_all (λ string. nat_le 1 (length string)) (strings_of txt)

-- a request
abbrev pub is_writable_request : Request → Bool
is_writable_request (request.Query kind name) = is_below 16 kind && is_spellable_name name
is_writable_request (request.Browse regtype) = is_writable_text regtype
is_writable_request (request.Resolve label regtype) = is_writable_text label && is_writable_text regtype
is_writable_request (request.Address families name) = is_between 1 3 families && is_spellable_name name
is_writable_request (request.Register label regtype port norename txt) =
    is_writable_text label && is_writable_text regtype && is_below 16 port && is_writable_txt txt
is_writable_request (request.Update txt) = is_writable_txt txt
is_writable_request request.Stop = true

-- an event
abbrev pub is_writable_event : Event → Bool
is_writable_event (event.Detach session) = is_below 64 session
is_writable_event (event.Take session max) = is_below 64 session && is_between 1 1000 max
is_writable_event (event.Hear from bytes) = is_typed_host from && are_bytes bytes
is_writable_event (event.Call session op request) = is_below 64 session && is_below 32 op && is_writable_request request
is_writable_event (event.Boot config) = false
is_writable_event event.Attach = false
is_writable_event event.Tick = false

-- a daemon without a host has the address 10.0.0.K; a host's label is UTF-8 of 1 to 63 bytes
abbrev pub is_writable_host : ℕ → ℕ → Option HostConfig → Bool
is_writable_host number address None = address == 167772160 + number
is_writable_host number address (Some host) =
    is_below 32 address && is_label host.label && are_bytes host.label && is_utf8 host.label && is_typed_v6 host.v6

-- a command that can be written
abbrev pub is_writable : Command → Bool
is_writable commands.Pass = true
is_writable (commands.Daemon number config) = is_daemon number && is_writable_host number config.address config.host
is_writable (commands.At moment) = is_below 64 moment
is_writable (commands.Word word) = is_below 32 word
is_writable (commands.Seed seed) = is_below 32 seed
is_writable (commands.Delay ms) = is_between 1 10000 ms
is_writable (commands.Lose count) = is_between 0 1000000 count
is_writable (commands.Part left right) = is_daemon left && is_daemon right
is_writable (commands.Meet left right) = is_daemon left && is_daemon right
is_writable (commands.Attach daemon) = is_daemon daemon
is_writable (commands.Event daemon event) = is_daemon daemon && is_writable_event event

-- a text of one line: no control characters, so neither a line feed nor a carriage return
abbrev pub is_one_line : List ℕ → Bool
is_one_line text = list_all (λ b. nat_lt 31 b) text

-- What is printed of a command that can be written is a line that says it.
abbrev pub AreReadBack : Type 0
AreReadBack = (command : Command) → is_writable command ≡ true → line_of (command_text command) ≡ lines.Command command

-- A line says no other command.
abbrev pub AreWritable : Type 0
AreWritable = (line : List ℕ) (command : Command) → line_of line ≡ lines.Command command → is_writable command ≡ true
