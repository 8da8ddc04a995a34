-- Commands as the lines that say them. What a transcript prints too stands as it does there, but for TXT data, which scripts spell by their
-- strings.
use Rattle.std.specs.Prelude.{ℕ, List, [], ◌∷◌, ◌++◌, decimal, codes, Option, Some, None, if◌then◌else◌}
use Rattle.std.specs.List.{flat_map}
use Rattle.std.specs.Str.{bytes_eq}
use Rattle.number_text.specs.Digits.{hex_text, ipv4_text}
use Rattle.dns_record.specs.RecordText.{space}
use Rattle.txt_record.specs.Strings.{strings_of}
use Rattle.sd_call.specs.CallText.{label_token, type_token, norename_text, request_text}
use Rattle.sd_call.specs.declared.request.Request.{Request}
use Rattle.sd_call.specs.declared.request.Request.TheVariants as request
use Rattle.mdns_history.specs.EntryText.{v6_text, from_text}
use Rattle.mdns_history.specs.declared.config.HostConfig.{HostConfig}
use Rattle.mdns_history.specs.declared.event.Event.{Event}
use Rattle.mdns_history.specs.declared.event.Event.TheVariants as event
use Rattle.mdns_script.specs.declared.command.Command.{Command}
use Rattle.mdns_script.specs.declared.command.Command.TheVariants as commands

-- a string of TXT data as a word behind a space
abbrev pub string_word : List ℕ → List ℕ
string_word string = space ++ label_token string

-- strings as words; none at all are `-`
abbrev pub strings_words : List (List ℕ) → List ℕ
strings_words [] = codes " -"
strings_words (string ∷ strings) = flat_map string_word (string ∷ strings)

-- TXT data as words. Since `-` alone is none, the one string of that byte has it escaped.
abbrev pub txt_words : List ℕ → List ℕ
txt_words bytes = if bytes_eq bytes (1 ∷ 45 ∷ []) then codes " \\045" else strings_words (strings_of bytes)

-- a request
abbrev pub said_request : Request → List ℕ
said_request (request.Register label regtype port norename txt) =
    codes "register " ++ label_token label ++ space ++ type_token regtype ++ space ++ decimal port ++ space ++ norename_text norename
    ++ txt_words txt
said_request (request.Update txt) = codes "update" ++ txt_words txt
said_request other = request_text other

-- an event of a daemon; a boot, a session that is attached and a tick are no lines of this kind, and their word alone is none
abbrev pub said_event : ℕ → Event → List ℕ
said_event daemon (event.Detach session) = codes "close " ++ decimal daemon ++ space ++ decimal session
said_event daemon (event.Take session max) = codes "take " ++ decimal daemon ++ space ++ decimal session ++ space ++ decimal max
said_event daemon (event.Hear from bytes) = codes "hear " ++ decimal daemon ++ space ++ from_text from ++ space ++ hex_text bytes
said_event daemon (event.Call session op request) =
    codes "call " ++ decimal daemon ++ space ++ decimal session ++ space ++ decimal op ++ space ++ said_request request
said_event daemon (event.Boot config) = codes "boot"
said_event daemon event.Attach = codes "open"
said_event daemon event.Tick = codes "tick"

-- a daemon's host at an address, if it has one
abbrev pub said_host : ℕ → Option HostConfig → List ℕ
said_host address None = []
said_host address (Some host) = codes " host " ++ label_token host.label ++ space ++ ipv4_text address ++ v6_text host.v6

-- the line of a command, without its line feed
abbrev pub command_text : Command → List ℕ
command_text commands.Pass = []
command_text (commands.Daemon number config) = codes "daemon " ++ decimal number ++ said_host config.address config.host
command_text (commands.At moment) = codes "at " ++ decimal moment
command_text (commands.Word word) = codes "word " ++ decimal word
command_text (commands.Seed seed) = codes "seed " ++ decimal seed
command_text (commands.Delay ms) = codes "delay " ++ decimal ms
command_text (commands.Lose count) = codes "lose " ++ decimal count
command_text (commands.Part left right) = codes "part " ++ decimal left ++ space ++ decimal right
command_text (commands.Meet left right) = codes "meet " ++ decimal left ++ space ++ decimal right
command_text (commands.Attach daemon) = codes "open " ++ decimal daemon
command_text (commands.Event daemon event) = said_event daemon event
