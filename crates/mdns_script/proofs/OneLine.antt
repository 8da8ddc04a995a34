-- What is printed of a command stands in one line: no byte of it is a control character.
use Rattle.std.proofs.Common.{◌≡◌, ℕ, ◌^◌, ◌<◌, ◌≤◌, Bool, true, false, cond, ◌&&◌, List, [], ◌∷◌, ◌++◌, Option, Some, None, refl, ap, ◌∙◌, arith, codes}
use Rattle.std.specs.Prelude.{decimal, nat_le}
use Rattle.std.specs.List.{flat_map}
use Rattle.std.specs.Str.{bytes_eq, is_utf8}
use Rattle.std.proofs.lemmas.Bool.{and_parts, leb-true, lt-ltb, and_from}
use Rattle.number_text.specs.Digits.{ipv4_text, ipv6_text, hex_text}
use Rattle.dns_name.specs.Names.{is_label}
use Rattle.dns_record.specs.RecordText.{space}
use Rattle.dns_message.specs.Writing.{is_below, are_bytes, is_spellable_name}
use Rattle.txt_record.specs.Strings.{strings_of}
use Rattle.sd_call.specs.declared.request.Request.{Request}
use Rattle.sd_call.specs.declared.request.Request.TheVariants as request
use Rattle.sd_call.specs.CallText.{label_token, type_token, norename_text}
use Rattle.mdns_history.specs.EntryText.{v6_text, from_text}
use Rattle.mdns_history.specs.Typed.{is_text, is_typed_host, is_typed_v6}
use Rattle.mdns_history.specs.declared.config.HostConfig.{HostConfig}
use Rattle.mdns_history.specs.declared.event.Event.{Event}
use Rattle.mdns_history.specs.declared.event.Event.TheVariants as event
use Rattle.mdns_history.proofs.Texts.{in_line, line_joined, seen_line}
use Rattle.mdns_history.proofs.TokenTexts.{below, decimal_seen, hex_seen, ipv4_seen, ipv6_seen, label_token_seen, type_token_seen}
use Rattle.mdns_history.proofs.RecordTexts.{three, four, number_line}
use Rattle.mdns_history.proofs.CallTexts.{request_line}
use Rattle.mdns_script.specs.declared.command.Command.{Command}
use Rattle.mdns_script.specs.declared.command.Command.TheVariants as commands
use Rattle.mdns_script.specs.CommandText.{string_word, strings_words, txt_words, said_request, said_event, said_host, command_text}
use Rattle.mdns_script.specs.Writable.{is_between, is_daemon, is_writable_text, is_writable_txt, is_writable_request, is_writable_event, is_writable_host, is_writable}

-- a text, a space and another
spaced : (t u : List ℕ) → in_line t ≡ true → in_line u ≡ true → in_line ((t ++ space) ++ u) ≡ true
spaced t u h k = line_joined (t ++ space) u (line_joined t space h refl) k

between_line : (least most n : ℕ) → most < 2 ^ 64 → is_between least most n ≡ true → in_line (decimal n) ≡ true
between_line least most n small h =
    let within : n ≤ most = leb-true n most (and_parts (nat_le least n) (nat_le n most) h).1 in seen_line (decimal n) (decimal_seen n (omega arith))

daemon_line : (n : ℕ) → is_daemon n ≡ true → in_line (decimal n) ≡ true
daemon_line n h = between_line 1 16 n (omega arith) h

label_line : (label : List ℕ) → in_line (label_token label) ≡ true
label_line label = seen_line (label_token label) (label_token_seen label)

type_line : (text : List ℕ) → in_line (type_token text) ≡ true
type_line text = seen_line (type_token text) (type_token_seen text)

-- ---- requests

words_line : (strings : List (List ℕ)) → in_line (flat_map string_word strings) ≡ true
words_line [] = refl
words_line (string ∷ strings) = line_joined (string_word string) (flat_map string_word strings) (line_joined space (label_token string) refl (label_line string)) (words_line strings)

strings_line : (strings : List (List ℕ)) → in_line (strings_words strings) ≡ true
strings_line [] = refl
strings_line (string ∷ strings) = words_line (string ∷ strings)

txt_line : (txt : List ℕ) → in_line (txt_words txt) ≡ true
txt_line txt = go (bytes_eq txt (1 ∷ 45 ∷ []))
  where
    go : (b : Bool) → in_line (cond b (codes " \\045") (strings_words (strings_of txt))) ≡ true
    go true = refl
    go false = strings_line (strings_of txt)

norename_line : (b : Bool) → in_line (norename_text b) ≡ true
norename_line true = refl
norename_line false = refl

said_line : (r : Request) → is_writable_request r ≡ true → in_line (said_request r) ≡ true
said_line (request.Query kind name) h = request_line (request.Query kind name) h
said_line (request.Browse regtype) h = request_line (request.Browse regtype) (and_parts (is_text regtype) (is_utf8 regtype) h).0
said_line (request.Resolve label regtype) h =
    let p = and_parts (is_writable_text label) (is_writable_text regtype) h in
    request_line (request.Resolve label regtype) (and_from _ _ (and_parts (is_text label) (is_utf8 label) p.0).0 (and_parts (is_text regtype) (is_utf8 regtype) p.1).0)
said_line (request.Address families name) h =
    let p = and_parts (is_between 1 3 families) (is_spellable_name name) h in
    let most : families ≤ 3 = leb-true families 3 (and_parts (nat_le 1 families) (nat_le families 3) p.0).1 in
    request_line (request.Address families name) (and_from _ _ (lt-ltb families (2 ^ 8) (omega arith)) p.1)
said_line (request.Register label regtype port norename txt) h =
    let p = four (is_writable_text label) (is_writable_text regtype) (is_below 16 port) (is_writable_txt txt) h in
    let a = codes "register " ++ label_token label in
    let b = (a ++ space) ++ type_token regtype in
    let c = (b ++ space) ++ decimal port in
    line_joined ((c ++ space) ++ norename_text norename) (txt_words txt)
    (spaced c (norename_text norename)
    (spaced b (decimal port) (spaced a (type_token regtype) (line_joined (codes "register ") (label_token label) refl (label_line label)) (type_line regtype)) (number_line 16 port p.2 (omega arith)))
    (norename_line norename)) (txt_line txt)
said_line (request.Update txt) h = line_joined (codes "update") (txt_words txt) refl (txt_line txt)
said_line request.Stop h = refl

-- ---- commands

v6_line : (v6 : Option ℕ) → is_typed_v6 v6 ≡ true → in_line (v6_text v6) ≡ true
v6_line None h = refl
v6_line (Some v6) h = line_joined space (ipv6_text v6) refl (seen_line (ipv6_text v6) (ipv6_seen v6 (below 128 v6 h)))

host_line : (number address : ℕ) (host : Option HostConfig) → is_writable_host number address host ≡ true → in_line (said_host address host) ≡ true
host_line number address None h = refl
host_line number address (Some host) h =
    let p = and_parts (is_below 32 address && is_label host.label && are_bytes host.label && is_utf8 host.label) (is_typed_v6 host.v6) h in
    let q = and_parts (is_below 32 address && is_label host.label && are_bytes host.label) (is_utf8 host.label) p.0 in
    let r = three (is_below 32 address) (is_label host.label) (are_bytes host.label) q.0 in
    line_joined (((codes " host " ++ label_token host.label) ++ space) ++ ipv4_text address) (v6_text host.v6)
    (spaced (codes " host " ++ label_token host.label) (ipv4_text address) (line_joined (codes " host ") (label_token host.label) refl (label_line host.label))
    (seen_line (ipv4_text address) (ipv4_seen address (below 32 address r.0)))) (v6_line host.v6 p.1)

-- a word and a daemon behind it
worded : (word : List ℕ) (daemon : ℕ) → in_line word ≡ true → is_daemon daemon ≡ true → in_line (word ++ decimal daemon) ≡ true
worded word daemon h k = line_joined word (decimal daemon) h (daemon_line daemon k)

event_in_line : (daemon : ℕ) (e : Event) → is_daemon daemon ≡ true → is_writable_event e ≡ true → in_line (said_event daemon e) ≡ true
event_in_line daemon (event.Detach session) h k = spaced (codes "close " ++ decimal daemon) (decimal session) (worded (codes "close ") daemon refl h) (number_line 64 session k (omega arith))
event_in_line daemon (event.Take session max) h k =
    let p = and_parts (is_below 64 session) (is_between 1 1000 max) k in
    spaced ((codes "take " ++ decimal daemon) ++ space ++ decimal session) (decimal max)
    (spaced (codes "take " ++ decimal daemon) (decimal session) (worded (codes "take ") daemon refl h) (number_line 64 session p.0 (omega arith))) (between_line 1 1000 max (omega arith) p.1)
event_in_line daemon (event.Hear from bytes) h k =
    let p = and_parts (is_typed_host from) (are_bytes bytes) k in
    let f = and_parts (is_below 32 from.ip) (is_below 16 from.port) p.0 in
    spaced ((codes "hear " ++ decimal daemon) ++ space ++ from_text from) (hex_text bytes)
    (spaced (codes "hear " ++ decimal daemon) (from_text from) (worded (codes "hear ") daemon refl h)
    (spaced (ipv4_text from.ip) (decimal from.port) (seen_line (ipv4_text from.ip) (ipv4_seen from.ip (below 32 from.ip f.0))) (number_line 16 from.port f.1 (omega arith))))
    (seen_line (hex_text bytes) (hex_seen bytes p.1))
event_in_line daemon (event.Call session op request) h k =
    let p = three (is_below 64 session) (is_below 32 op) (is_writable_request request) k in
    let a = codes "call " ++ decimal daemon in
    let b = (a ++ space) ++ decimal session in
    spaced ((b ++ space) ++ decimal op) (said_request request)
    (spaced b (decimal op) (spaced a (decimal session) (worded (codes "call ") daemon refl h) (number_line 64 session p.0 (omega arith))) (number_line 32 op p.1 (omega arith)))
    (said_line request p.2)
event_in_line daemon (event.Boot config) h k = refl
event_in_line daemon event.Attach h k = refl
event_in_line daemon event.Tick h k = refl

pub command_in_line : (command : Command) → is_writable command ≡ true → in_line (command_text command) ≡ true
command_in_line commands.Pass h = refl
command_in_line (commands.Daemon number config) h =
    let p = and_parts (is_daemon number) (is_writable_host number config.address config.host) h in
    line_joined (codes "daemon " ++ decimal number) (said_host config.address config.host) (worded (codes "daemon ") number refl p.0) (host_line number config.address config.host p.1)
command_in_line (commands.At moment) h = line_joined (codes "at ") (decimal moment) refl (number_line 64 moment h (omega arith))
command_in_line (commands.Word word) h = line_joined (codes "word ") (decimal word) refl (number_line 32 word h (omega arith))
command_in_line (commands.Seed seed) h = line_joined (codes "seed ") (decimal seed) refl (number_line 32 seed h (omega arith))
command_in_line (commands.Delay ms) h = line_joined (codes "delay ") (decimal ms) refl (between_line 1 10000 ms (omega arith) h)
command_in_line (commands.Lose count) h = line_joined (codes "lose ") (decimal count) refl (between_line 0 1000000 count (omega arith) h)
command_in_line (commands.Part left right) h =
    let p = and_parts (is_daemon left) (is_daemon right) h in spaced (codes "part " ++ decimal left) (decimal right) (worded (codes "part ") left refl p.0) (daemon_line right p.1)
command_in_line (commands.Meet left right) h =
    let p = and_parts (is_daemon left) (is_daemon right) h in spaced (codes "meet " ++ decimal left) (decimal right) (worded (codes "meet ") left refl p.0) (daemon_line right p.1)
command_in_line (commands.Attach daemon) h = worded (codes "open ") daemon refl h
command_in_line (commands.Event daemon event) h = let p = and_parts (is_daemon daemon) (is_writable_event event) h in event_in_line daemon event p.0 p.1

-- a print is one line, whatever it was taken from
pub print_in_line : (command : Command) (text : List ℕ) → text ≡ command_text command → is_writable command ≡ true → in_line text ≡ true
print_in_line command text e h = ap in_line e ∙ command_in_line command h
